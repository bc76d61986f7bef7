-- The whole at one state, and what becomes of it in a beat.
use Rattle.std.proofs.Common.{◌≡◌, ℕ, ◌+◌, ◌^◌, ◌<◌, ◌≤◌, List, length, set, sum, get_or, slice_index, ap, ◌∙◌, arith}
use Rattle.sil_fraction.specs.Fraction.{◌+ℚ◌, ◌*ℚ◌, ◌≤ℚ◌, whole}
use Rattle.sil_fraction.proofs.Laws.{zero-add}
use Rattle.sil_model.specs.Series.{Values}
use Rattle.vector_laws.specs.Vectors.{weigh}
use Rattle.vector_laws.proofs.Masses.{sum-none, sum-more}
use Rattle.vector_laws.proofs.Weighing.{weigh-none, weigh-more}
use Rattle.product_chain.specs.Kept.{ChainValue}
use Rattle.uniformise.specs.Beat.{vector_loss, dwell_loss}
use Rattle.phase_powers.specs.Pairs.{beat_at, mean_at, IsRowPair}

-- the whole at one state, and nothing elsewhere
module _ (zeros : List ℕ) (none : (k : ℕ) → k < length zeros → slice_index zeros k ≡ 0) (i : ℕ) (inside : i < length zeros) where
  abbrev pub unit : List ℕ
  unit = set zeros i (2 ^ 48)

  is_unit : set zeros i (get_or zeros i 0 + 2 ^ 48) ≡ unit
  is_unit = ap (λ n. set zeros i (n + 2 ^ 48)) (none i inside)

  pub unit_weighs : (f : Values ℕ) → weigh unit f ≡ whole (2 ^ 48) *ℚ f i
  unit_weighs f = rw (is_unit, weigh-none zeros none f, zero-add) at (weigh-more zeros i (2 ^ 48) f inside)

  pub unit_mass : sum unit ≡ 2 ^ 48
  unit_mass = rw is_unit at (sum-more zeros i (2 ^ 48) inside) ∙ ap (λ n. n + 2 ^ 48) (sum-none zeros none)

  -- a beat of it, from a dwell of nothing on
  module _ (c : ChainValue) (order : ℕ) (blank end dwell : List ℕ) (no_dwell : (k : ℕ) → k < length blank → slice_index blank k ≡ 0) where
    pub made_row : ((N : ℕ) → order ≤ N → (f : Values ℕ) → weigh end f ≤ℚ weigh unit (beat_at c order N f))
        → ((N : ℕ) → order ≤ N → (f : Values ℕ) → weigh dwell f ≤ℚ weigh blank f +ℚ weigh unit (mean_at c order N f))
        → sum end ≤ sum unit → sum unit ≤ sum end + vector_loss c.of.subsystems order
        → sum dwell ≤ sum blank + sum unit → sum blank + sum unit ≤ sum dwell + dwell_loss c.of.subsystems order → IsRowPair c order i end dwell
    made_row encloses dwells kept lack dwell_kept dwell_lack = record {
      end_weighs = λ N within f. rw unit_weighs at (encloses N within f);
      dwell_weighs = λ N within f. rw (weigh-none blank no_dwell f, zero-add, unit_weighs) at (dwells N within f);
      end_most = omega (arith, kept, unit_mass);
      dwell_most = omega (arith, dwell_kept, unit_mass, sum-none blank no_dwell);
      end_least = omega (arith, lack, unit_mass);
      dwell_least = omega (arith, dwell_lack, unit_mass, sum-none blank no_dwell);
    }
