-- Values at one place alone, and at all the other places.
use Rattle.std.proofs.Common.{◌≡◌, ℕ, zero, suc, ◌<◌, List, [], ◌∷◌, length, get_or, ap, ◌∙◌, arith}
use mathlib.Core.Path.{fun_ext}
use Rattle.sil_fraction.specs.Fraction.{◌+ℚ◌, ◌*ℚ◌, ◌≤ℚ◌, whole}
use Rattle.sil_fraction.specs.Sum.{total_below}
use Rattle.sil_fraction.proofs.Laws.{zero-add, le_trans, le_of_same, zero-le}
use Rattle.sil_fraction.proofs.Sums.{add-zero, mul-zero, mul-one, below-first, below-constant}
use Rattle.sil_model.specs.Series.{Values}
use Rattle.vector_laws.specs.Vectors.{weigh}
use Rattle.vector_laws.proofs.Weighing.{weigh-cons, weigh-zeros}

-- 1 at the place k and 0 elsewhere
pub at_place : ℕ → Values ℕ
at_place zero zero = whole 1
at_place zero (suc i) = whole 0
at_place (suc k) zero = whole 0
at_place (suc k) (suc i) = at_place k i

-- 0 at the place k and 1 elsewhere
pub elsewhere : ℕ → Values ℕ
elsewhere zero zero = whole 0
elsewhere zero (suc i) = whole 1
elsewhere (suc k) zero = whole 1
elsewhere (suc k) (suc i) = elsewhere k i

pub all_places : (k i : ℕ) → at_place k i +ℚ elsewhere k i ≡ whole 1
unfolding at_place elsewhere
all_places zero zero = add-zero _
all_places zero (suc i) = zero-add _
all_places (suc k) zero = zero-add _
all_places (suc k) (suc i) = all_places k i

-- what a vector weighs there is its number
pub weigh-place : (v : List ℕ) (k : ℕ) → k < length v → weigh v (at_place k) ≡ whole (get_or v k 0)
unfolding at_place
weigh-place [] k h = absurd (omega arith)
weigh-place (x ∷ v) zero h = weigh-cons x v (at_place 0) ∙ ap (λ s. whole x *ℚ whole 1 +ℚ s) (weigh-zeros v) ∙ add-zero _ ∙ mul-one _
weigh-place (x ∷ v) (suc k) h =
    weigh-cons x v (at_place (suc k)) ∙ ap (λ s. s +ℚ weigh v (at_place k)) (mul-zero _) ∙ zero-add _ ∙ weigh-place v k (omega arith)

-- values put together from those at single places
pub places-le : (n : ℕ) (f : Values ℕ) (i : ℕ) → total_below n (λ k. f k *ℚ at_place k i) ≤ℚ f i
unfolding at_place
places-le zero f i = zero-le _
places-le (suc n) f zero =
    le_of_same _ _ (below-first n _ ∙ ap (λ s. f 0 *ℚ whole 1 +ℚ s) (ap (total_below n) (fun_ext (λ k. mul-zero _)) ∙ below-constant n (whole 0) ∙ mul-zero _)
    ∙ add-zero _ ∙ mul-one _)
places-le (suc n) f (suc i) =
    le_trans _ _ _ (le_of_same _ _ (below-first n _ ∙ ap (λ s. s +ℚ total_below n (λ k. f (suc k) *ℚ at_place k i)) (mul-zero _) ∙ zero-add _))
    (places-le n (λ k. f (suc k)) i)
