-- A part of a phase whose dwell began with nothing, added to the dwell of the part before it.
use Rattle.std.proofs.Common.{◌≡◌, ℕ, ◌+◌, ◌*◌, ◌<◌, List, length, sum, slice_index, ap, ◌∙◌, arith}
use Rattle.sil_fraction.specs.Fraction.{Fraction, ◌+ℚ◌}
use Rattle.sil_fraction.proofs.Laws.{zero-add, le_refl, le_trans, le_of_same}
use Rattle.sil_fraction.proofs.Sums.{add-le-add}
use Rattle.sil_model.specs.Series.{Values, beat_of, mean_of}
use Rattle.model_laws.specs.Polynomial.{means_of}
use Rattle.vector_laws.specs.Laws.{IsSumWith}
use Rattle.vector_laws.specs.Vectors.{weigh}
use Rattle.vector_laws.proofs.Masses.{sum-none, sum-with}
use Rattle.vector_laws.proofs.Weighing.{weigh_of_nothing, weigh-sum}
use Rattle.phase_run.specs.Passes.{PassesBy}
use Rattle.phase_run.proofs.Passes.{passes_more}

module _ (B : (Values ℕ → Values ℕ) → Type 0) (order loss : ℕ) where
  module _ (zeros later mid new : List ℕ) (none : (k : ℕ) → k < length zeros → slice_index zeros k ≡ 0) (is : IsSumWith 1 mid later new) where
    -- what was dwelt from nothing on is dwelt from what there was before it
    passes_moved : (n : ℕ) (u w : List ℕ) → PassesBy B order loss n u w zeros later → PassesBy B order loss n u w mid new
    passes_moved n u w p =
        let nothing : sum zeros ≡ 0 = sum-none zeros none in
        let all : sum new ≡ sum mid + 1 * sum later = sum-with 1 mid later new is in
        record {
          size = omega (arith, is.more_length, is.sums_length);
          ended = p.ended;
          dwelt = record {
            weighed = λ T t b N within f.
                let X : Fraction = weigh u (means_of (beat_of T N) (mean_of T N) n f) in
                let alone : weigh zeros f +ℚ X ≡ X = ap (λ s. s +ℚ X) (weigh_of_nothing zeros f nothing) ∙ zero-add X in
                le_trans _ _ _ (le_of_same _ _ (weigh-sum mid later new is f))
                (add-le-add _ _ _ _ (le_refl (weigh mid f)) (le_trans _ _ _ (p.dwelt.weighed T t b N within f) (le_of_same _ _ alone)));
          };
          kept = p.kept;
          lack = p.lack;
          dwell_kept = omega (arith, all, nothing, p.dwell_kept);
          dwell_lack = omega (arith, all, nothing, p.dwell_lack);
          grows = λ k h.
              let inside : k < length later = omega (arith, is.sums_length) in
              let within : k < length zeros = omega (arith, p.size) in (
                omega (arith, is.added k inside),
                omega (arith, is.added k inside, (p.grows k within).1, none k within),
              );
        }

    -- beats, and more beats whose dwell is added
    pub passes_in_parts : (m n : ℕ) (v u w old : List ℕ) → PassesBy B order loss m v u old mid → PassesBy B order loss n u w zeros later
        → PassesBy B order loss (m + n) v w old new
    passes_in_parts m n v u w old first second = passes_more B order loss m n v u w old mid new first (passes_moved n u w second)
