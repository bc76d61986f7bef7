-- What vectors weigh: by sums, multiples and constants, term by term, and with one number changed.
use Rattle.std.proofs.Common.{◌≡◌, ℕ, zero, suc, ◌+◌, ◌*◌, ◌<◌, ◌≤◌, List, [], ◌∷◌, length, map, sum, get_or, set, refl, sym, ap, ◌∙◌, arith}
use mathlib.Core.Path.{fun_ext}
use Rattle.sil_fraction.specs.Fraction.{Fraction, ◌+ℚ◌, ◌*ℚ◌, ◌≤ℚ◌, whole}
use Rattle.sil_fraction.specs.Sum.{total, total_below}
use Rattle.sil_fraction.proofs.Laws.{add_assoc, add_comm, mul_assoc, mul_comm, mul-add, zero-mul, one-mul}
use Rattle.sil_fraction.proofs.Laws.{whole-add, whole-mul, whole-le, mul-le-left, mul-le-right, front}
use Rattle.sil_fraction.proofs.Sums.{below-le, below-same, below-add, below-constant, below-first, below-swap}
use Rattle.sil_fraction.proofs.Sums.{mul-below, add-mul, mul-one, mul-zero, whole-sum, add-zero}
use Rattle.sil_model.specs.Calendar.{upto}
use Rattle.sil_model.specs.Series.{Values, weighed}
use Rattle.vector_laws.specs.Laws.{IsSumWith}
use Rattle.vector_laws.specs.Vectors.{weigh}
use Rattle.vector_laws.proofs.Masses.{sum_of, sum-cons}

pub weigh-nil : (f : Values ℕ) → weigh [] f ≡ whole 0
unfolding weigh
weigh-nil f = refl

pub weigh-cons : (x : ℕ) (v : List ℕ) (f : Values ℕ) → weigh (x ∷ v) f ≡ whole x *ℚ f 0 +ℚ weigh v (λ i. f (suc i))
unfolding weigh
weigh-cons x v f = below-first (length v) _

pub weigh-below : (v : List ℕ) (f : Values ℕ) → weigh v f ≡ total_below (length v) (λ i. whole (get_or v i 0) *ℚ f i)
unfolding weigh
weigh-below v f = refl

module _ (v : List ℕ) where
  pub weigh-add : (f g : Values ℕ) → weigh v (λ i. f i +ℚ g i) ≡ weigh v f +ℚ weigh v g
  unfolding weigh
  weigh-add f g = ap (total_below (length v)) (fun_ext (λ i. mul-add (whole (get_or v i 0)) (f i) (g i))) ∙ below-add (length v) _ _

  pub weigh-mul : (c : Fraction) (f : Values ℕ) → weigh v (λ i. c *ℚ f i) ≡ c *ℚ weigh v f
  unfolding weigh
  weigh-mul c f = ap (total_below (length v)) (fun_ext (λ i. front (whole (get_or v i 0)) c (f i))) ∙ sym (mul-below (length v) c _)

  -- a multiple more
  pub weigh-both : (c : Fraction) (f g : Values ℕ) → weigh v (λ i. f i +ℚ c *ℚ g i) ≡ weigh v f +ℚ c *ℚ weigh v g
  weigh-both c f g = weigh-add f (λ i. c *ℚ g i) ∙ ap (λ s. weigh v f +ℚ s) (weigh-mul c g)

  -- a sum of values either way round
  pub weigh-total : (n : ℕ) (g : ℕ → Values ℕ) → weigh v (λ i. total_below n (λ k. g k i)) ≡ total_below n (λ k. weigh v (g k))
  unfolding weigh
  weigh-total n g = ap (total_below (length v)) (fun_ext (λ i. mul-below n (whole (get_or v i 0)) (λ k. g k i)))
      ∙ below-swap (length v) n (λ i k. whole (get_or v i 0) *ℚ g k i)

  pub weigh-ones : weigh v (λ i. whole 1) ≡ whole (sum v)
  unfolding weigh
  weigh-ones = ap (total_below (length v)) (fun_ext (λ i. mul-one _)) ∙ sym (ap whole (sum_of v) ∙ whole-sum (length v) (λ i. get_or v i 0))

  pub weigh-constant : (c : Fraction) → weigh v (λ i. c) ≡ whole (sum v) *ℚ c
  weigh-constant c = ap (weigh v) (fun_ext (λ i. sym (mul-one c))) ∙ weigh-mul c (λ i. whole 1) ∙ ap (λ s. c *ℚ s) weigh-ones ∙ mul_comm c (whole (sum v))

  pub weigh-zeros : weigh v (λ i. whole 0) ≡ whole 0
  weigh-zeros = weigh-constant (whole 0) ∙ mul-zero _

  -- value by value: only those at the places of the vector count
  pub weigh-le : (f g : Values ℕ) → ((i : ℕ) → i < length v → f i ≤ℚ g i) → weigh v f ≤ℚ weigh v g
  unfolding weigh
  weigh-le f g h = below-le (length v) _ _ (λ i p. mul-le-left (whole (get_or v i 0)) (f i) (g i) (h i p))

  pub weigh-all-le : (f g : Values ℕ) → ((i : ℕ) → f i ≤ℚ g i) → weigh v f ≤ℚ weigh v g
  weigh-all-le f g h = weigh-le f g (λ i _. h i)

  pub weigh-same : (f g : Values ℕ) → ((i : ℕ) → i < length v → f i ≡ g i) → weigh v f ≡ weigh v g
  unfolding weigh
  weigh-same f g h = below-same (length v) _ _ (λ i p. ap (λ x. whole (get_or v i 0) *ℚ x) (h i p))

  -- number by number
  pub weigh-each-le : (w : List ℕ) (f : Values ℕ) → length v ≡ length w → ((i : ℕ) → i < length v → get_or v i 0 ≤ get_or w i 0) → weigh v f ≤ℚ weigh w f
  unfolding weigh
  weigh-each-le w f e h = rw (← e) (below-le (length v) _ _ (λ i p. mul-le-right _ _ (f i) (whole-le _ _ (h i p))))

  -- where each number is 0
  pub weigh-none : ((k : ℕ) → k < length v → get_or v k 0 ≡ 0) → (f : Values ℕ) → weigh v f ≡ whole 0
  unfolding weigh
  weigh-none h f = below-same (length v) _ (λ k. whole 0) (λ k p. ap (λ x. whole x *ℚ f k) (h k p) ∙ zero-mul (f k)) ∙ below-constant (length v) (whole 0)
      ∙ mul-zero _

-- where all of them come to 0
pub weigh_of_nothing : (v : List ℕ) (f : Values ℕ) → sum v ≡ 0 → weigh v f ≡ whole 0
weigh_of_nothing [] f h = weigh-nil f
weigh_of_nothing (x ∷ v) f h =
    let e : x ≡ 0 = omega (arith, sum-cons x v) in
    let g : sum v ≡ 0 = omega (arith, sum-cons x v) in
    rw (weigh-cons x v f, e, weigh_of_nothing v (λ i. f (suc i)) g, zero-mul) (add-zero _)

-- one number more
pub weigh-more : (v : List ℕ) (j y : ℕ) (f : Values ℕ) → j < length v → weigh (set v j (get_or v j 0 + y)) f ≡ weigh v f +ℚ whole y *ℚ f j
weigh-more [] j y f h = absurd (omega arith)
weigh-more (x ∷ v) zero y f h =
    let rest : Fraction = weigh v (λ i. f (suc i)) in
    rw (weigh-cons (x + y) v f, weigh-cons x v f, whole-add, add-mul)
    (cc (add_assoc (whole x *ℚ f 0) (whole y *ℚ f 0) rest, add_comm (whole y *ℚ f 0) rest, add_assoc (whole x *ℚ f 0) rest (whole y *ℚ f 0)))
weigh-more (x ∷ v) (suc j) y f h =
    rw (weigh-cons x (set v j (get_or v j 0 + y)) f, weigh-cons x v f, weigh-more v j y (λ i. f (suc i)) (omega arith), add_assoc) refl

-- a multiple of another vector added
pub weigh-with : (a : ℕ) (sums v more : List ℕ) → IsSumWith a sums v more → (f : Values ℕ) → weigh more f ≡ weigh sums f +ℚ whole a *ℚ weigh v f
unfolding weigh
weigh-with a sums v more h f =
    let apart : (k : ℕ) → (whole (get_or sums k 0) +ℚ whole a *ℚ whole (get_or v k 0)) *ℚ f k ≡ whole (get_or sums k 0) *ℚ f k +ℚ whole a *ℚ
    (whole (get_or v k 0) *ℚ f k) =
    λ k. add-mul _ _ _ ∙ ap (λ x. whole (get_or sums k 0) *ℚ f k +ℚ x) (mul_assoc _ _ _) in
    let each : (k : ℕ) → k < length v → whole (get_or more k 0) *ℚ f k ≡ whole (get_or sums k 0) *ℚ f k +ℚ whole a *ℚ (whole (get_or v k 0) *ℚ f k) =
    λ k p. ap (λ x. x *ℚ f k) (ap whole (h.added k p) ∙ whole-add _ _ ∙ ap (λ x. whole (get_or sums k 0) +ℚ x) (whole-mul _ _)) ∙ apart k in
    rw (h.more_length, h.sums_length)
    (below-same (length v) _ _ each ∙ below-add (length v) _ _ ∙ ap (λ x. total_below (length v) (λ k. whole (get_or sums k 0) *ℚ f k) +ℚ x)
    (sym (mul-below (length v) (whole a) _)))

-- each number times a
pub weigh-scaled : (a : ℕ) (v : List ℕ) (f : Values ℕ) → weigh (map (λ n. a * n) v) f ≡ whole a *ℚ weigh v f
weigh-scaled a [] f = weigh-nil f ∙ sym (ap (λ s. whole a *ℚ s) (weigh-nil f) ∙ mul-zero (whole a))
weigh-scaled a (x ∷ v) f =
    weigh-cons (a * x) (map (λ n. a * n) v) f
    ∙ cc (weigh-scaled a v (λ i. f (suc i)), whole-mul a x, mul_assoc (whole a) (whole x) (f 0))
    ∙ sym (mul-add (whole a) (whole x *ℚ f 0) (weigh v (λ i. f (suc i))))
    ∙ ap (λ s. whole a *ℚ s) (sym (weigh-cons x v f))

-- another vector added
pub weigh-sum : (sums v more : List ℕ) → IsSumWith 1 sums v more → (f : Values ℕ) → weigh more f ≡ weigh sums f +ℚ weigh v f
weigh-sum sums v more h f = weigh-with 1 sums v more h f ∙ ap (λ x. weigh sums f +ℚ x) (one-mul _)

-- the same as a sum over the list of all numbers
total-upto : (i n : ℕ) (g : ℕ → Fraction) → total g (upto i n) ≡ total_below n (λ k. g (i + k))
total-upto i zero g = refl
total-upto i (suc n) g =
    let first : i + 0 ≡ i = omega arith in
    let next : (k : ℕ) → suc i + k ≡ i + suc k = λ k. omega arith in
    ap (λ t. g i +ℚ t) (total-upto (suc i) n g ∙ below-same n _ _ (λ k h. ap g (next k)))
    ∙ sym (below-first n (λ k. g (i + k)) ∙ ap (λ j. g j +ℚ total_below n (λ k. g (i + suc k))) first)

pub weighed-upto : (v : List ℕ) (f : Values ℕ) → weighed (upto 0 (length v)) (λ i. get_or v i 0) f ≡ weigh v f
unfolding weigh
weighed-upto v f =
    let same : (k : ℕ) → 0 + k ≡ k = λ k. omega arith in
    total-upto 0 (length v) (λ i. whole (get_or v i 0) *ℚ f i) ∙ below-same (length v) _ _ (λ k h. ap (λ i. whole (get_or v i 0) *ℚ f i) (same k))
