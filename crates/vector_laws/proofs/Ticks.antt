-- Tick by tick: what the vectors and their sums weigh, and what they lose.
use Rattle.std.proofs.Common.{◌≡◌, ℕ, zero, suc, ◌+◌, ◌*◌, ◌<◌, ◌≤◌, List, length, sum, slice_index, sym, ap, ◌∙◌, arith, add-one}
use Rattle.std.proofs.Math.Nat.{mul-le-mul_left, add-zero as nat-add-zero}
use mathlib.Core.Path.{fun_ext}
use Rattle.sil_fraction.specs.Fraction.{◌*ℚ◌, whole}
use Rattle.sil_fraction.specs.Sum.{total_below, sum_below}
use Rattle.sil_fraction.proofs.Laws.{le_trans, le_refl, mul-le-left, le_of_same}
use Rattle.sil_fraction.proofs.Sums.{below-same, add-le-add, sum-same, sum-next, sum-none as no-sum, le-add_right}
use Rattle.sil_model.specs.Series.{Values, times}
use Rattle.model_laws.proofs.Operators.{times-one}
use Rattle.vector_laws.specs.Laws.{IsSumWith}
use Rattle.vector_laws.proofs.Masses.{sum-with, sum-none}
use Rattle.vector_laws.proofs.Weighing.{weigh-with, weigh-add, weigh-mul, weigh-all-le, weigh-none, weigh-zeros}
use Rattle.vector_laws.specs.Block.{IsTick, IsTicked, IsGathered}

module _ (is_below : (Values ℕ → Values ℕ) → Type 0) (loss : ℕ) (v : List ℕ) where
  abbrev Ticked : List ℕ → ℕ → Type 0
  Ticked now k = IsTicked is_below loss v now k

  abbrev Gathered : List ℕ → (ℕ → ℕ) → ℕ → Type 0
  Gathered sums weight n = IsGathered is_below loss v sums weight n

  pub ticked_none : Ticked v 0
  ticked_none = record { weighed = λ T t b f. le_refl _; least = omega arith; most = omega arith }

  pub ticked_more : (now next : List ℕ) (k : ℕ) → Ticked now k → IsTick is_below now next → sum next ≤ sum now → sum now ≤ sum next + loss
      → Ticked next (k + 1)
  ticked_more now next k before tick most least = record {
    weighed = λ T t b f. rw add-one (le_trans _ _ _ (tick.weighed T t b f) (rw (times-one T k f) at (before.weighed T t b (T f))));
    least = omega (arith, before.least);
    most = omega (arith, before.most);
  }

  pub gathered_none : (sums : List ℕ) (weight : ℕ → ℕ) → ((k : ℕ) → k < length sums → slice_index sums k ≡ 0) → Gathered sums weight 0
  gathered_none sums weight none = record {
    weighed = λ T t b f. le_of_same _ _ (weigh-none sums none f ∙ sym (weigh-zeros v));
    least = omega (arith, ap (λ s. sum v * s) (no-sum weight), ap (λ s. loss * s) (no-sum (λ k. k * weight k)));
    most = omega (arith, ap (λ s. sum v * s) (no-sum weight), sum-none sums none);
  }

  -- a multiple of one vector more
  pub gathered_more : (now sums more : List ℕ) (weight : ℕ → ℕ) (n : ℕ) → IsSumWith (weight n) sums now more → Ticked now n → Gathered sums weight n
      → Gathered more weight (n + 1)
  gathered_more now sums more weight n each ticked gathered =
      let s : sum more ≡ sum sums + weight n * sum now = sum-with (weight n) sums now more each in
      record {
        weighed = λ T t b f. rw add-one
            (rw (
              weigh-with (weight n) sums now more each f,
              weigh-add v (λ i. total_below n (λ k. whole (weight k) *ℚ times T k f i))
                  (λ i. whole (weight n) *ℚ times T n f i),
              weigh-mul v (whole (weight n)) (times T n f),
            )
            (add-le-add _ _ _ _ (gathered.weighed T t b f) (mul-le-left (whole (weight n)) _ _ (ticked.weighed T t b f))));
        least = omega (
          arith,
          s,
          gathered.least,
          mul-le-mul_left (weight n) ticked.least,
          ap (λ x. sum v * x) (sum-next n weight),
          ap (λ x. loss * x) (sum-next n (λ k. k * weight k)),
        );
        most = omega (arith, s, gathered.most, mul-le-mul_left (weight n) ticked.most, ap (λ x. sum v * x) (sum-next n weight));
      }

  -- other weights that are the same up to there
  pub gathered_same : (sums : List ℕ) (weight other : ℕ → ℕ) (n : ℕ) → ((k : ℕ) → k < n → weight k ≡ other k) → Gathered sums weight n → Gathered sums other n
  gathered_same sums weight other n same g =
      let s : sum_below n weight ≡ sum_below n other = sum-same n weight other same in
      let d : sum_below n (λ k. k * weight k) ≡ sum_below n (λ k. k * other k) = sum-same n _ _ (λ k h. ap (λ w. k * w) (same k h)) in
      record {
        weighed = λ T t b f.
            let e : (λ i. total_below n (λ k. whole (weight k) *ℚ times T k f i)) ≡ (λ i. total_below n (λ k. whole (other k) *ℚ times T k f i)) =
            fun_ext (λ i. below-same n _ _ (λ k h. ap (λ w. whole w *ℚ times T k f i) (same k h))) in
            rw e at (g.weighed T t b f);
        least = rw (s, d) at g.least;
        most = rw s at g.most;
      }

  -- weights that are 0 from there on
  pub gathered_further : (sums : List ℕ) (weight : ℕ → ℕ) (n d : ℕ) → ((k : ℕ) → n ≤ k → weight k ≡ 0) → Gathered sums weight n → Gathered sums weight (n + d)
  gathered_further sums weight n zero none g = rw nat-add-zero g
  gathered_further sums weight n (suc d) none g =
      let before : Gathered sums weight (n + d) = gathered_further sums weight n d none g in
      let w : weight (n + d) ≡ 0 = none (n + d) (omega arith) in
      let e : n + suc d ≡ n + d + 1 = omega arith in
      rw e
      (record {
        weighed = λ T t b f. rw add-one (le_trans _ _ _ (before.weighed T t b f) (weigh-all-le v _ _ (λ i. le-add_right _ _)));
        least = omega (
          arith,
          before.least,
          ap (λ x. sum v * x) (sum-next (n + d) weight ∙ ap (λ y. sum_below (n + d) weight + y) w),
          ap (λ x. loss * x) (sum-next (n + d) (λ k. k * weight k) ∙ ap (λ y. sum_below (n + d) (λ k. k * weight k) + (n + d) * y) w),
        );
        most = omega (arith, before.most, ap (λ x. sum v * x) (sum-next (n + d) weight ∙ ap (λ y. sum_below (n + d) weight + y) w));
      })
