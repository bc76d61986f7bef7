-- The sum of a vector's numbers, by its places.
use Rattle.std.proofs.Common.{◌≡◌, ℕ, zero, suc, ◌+◌, ◌-◌, ◌*◌, ◌<◌, ◌≤◌, List, [], ◌∷◌, length, map, sum, get_or, set, refl, sym, ap, ◌∙◌, arith, inl, inr}
use Rattle.std.proofs.lemmas.Bool.{cases_lt}
use Rattle.std.proofs.lemmas.List.{get_or_past}
use Rattle.std.proofs.lemmas.List.Sums.{sum_by-cons, get_or-le-sum_by}
use Rattle.sil_fraction.specs.Sum.{sum_below}
use Rattle.sil_fraction.proofs.Sums.{sum-same, sum-add, sum-mul, sum-le, sum-first, sum-append}
use Rattle.vector_laws.specs.Laws.{IsSumWith}

pub sum-cons : (x : ℕ) (v : List ℕ) → sum (x ∷ v) ≡ x + sum v
sum-cons x v = sum_by-cons (λ n. n) x v

-- a list's sum, by its places
pub sum_of : (v : List ℕ) → sum v ≡ sum_below (length v) (λ i. get_or v i 0)
unfolding sum_below
sum_of [] = refl
sum_of (x ∷ v) = sum-cons x v ∙ ap (λ s. x + s) (sum_of v) ∙ sym (sum-first (length v) (λ i. get_or (x ∷ v) i 0))

-- a vector has no number past its end
pub past : (v : List ℕ) (k : ℕ) → length v ≤ k → get_or v k 0 ≡ 0
past v k h = get_or_past v k 0 h

pub sum-constant : (n c : ℕ) → sum_below n (λ k. c) ≡ n * c
unfolding sum_below
sum-constant zero c = omega arith
sum-constant (suc n) c = omega (arith, sum-constant n c)

pub sum-zeros : (n : ℕ) (f : ℕ → ℕ) → ((k : ℕ) → k < n → f k ≡ 0) → sum_below n f ≡ 0
sum-zeros n f h = sum-same n f (λ k. 0) h ∙ sum-constant n 0 ∙ omega arith

-- each number is at most all of them
pub place-le : (v : List ℕ) (k : ℕ) → get_or v k 0 ≤ sum v
place-le v k = elim (cases_lt k (length v)) [
  | inl h ↦ get_or-le-sum_by (λ n. n) v k 0 h
  | inr h ↦ let e : get_or v k 0 ≡ 0 = past v k h in omega arith
]

-- and so are those before it with it
pub part-le : (v : List ℕ) (k : ℕ) → k < length v → sum_below k (λ i. get_or v i 0) + get_or v k 0 ≤ sum v
unfolding sum_below
part-le v k h =
    let e : suc k + (length v - suc k) ≡ length v = omega arith in
    omega (arith, sum_of v, rw e at (sum-append (suc k) (length v - suc k) (λ i. get_or v i 0)))

-- all of them are none where each is 0
pub sum-none : (v : List ℕ) → ((k : ℕ) → k < length v → get_or v k 0 ≡ 0) → sum v ≡ 0
sum-none v h = sum_of v ∙ sum-zeros (length v) (λ i. get_or v i 0) h

-- number by number
pub sum-each-le : (v w : List ℕ) → length v ≡ length w → ((i : ℕ) → i < length v → get_or v i 0 ≤ get_or w i 0) → sum v ≤ sum w
sum-each-le v w e h =
    let all : sum_below (length v) (λ i. get_or v i 0) ≤ sum_below (length v) (λ i. get_or w i 0) = sum-le (length v) _ _ h in
    omega (arith, sum_of v, rw (← e) at (sum_of w), all)

-- one number more
pub sum-more : (v : List ℕ) (j y : ℕ) → j < length v → sum (set v j (get_or v j 0 + y)) ≡ sum v + y
sum-more [] j y h = absurd (omega arith)
sum-more (x ∷ v) zero y h = omega (arith, sum-cons (x + y) v, sum-cons x v)
sum-more (x ∷ v) (suc j) y h = omega (arith, sum-cons x (set v j (get_or v j 0 + y)), sum-cons x v, sum-more v j y (omega arith))

-- a multiple of another vector added
pub sum-with : (a : ℕ) (sums v more : List ℕ) → IsSumWith a sums v more → sum more ≡ sum sums + a * sum v
sum-with a sums v more h =
    let all : sum_below (length v) (λ k. get_or more k 0) ≡ sum_below (length v) (λ k. get_or sums k 0 + a * get_or v k 0) =
    sum-same (length v) _ _ h.added in
    omega (
      arith,
      (rw h.more_length at (sum_of more)),
      (rw h.sums_length at (sum_of sums)),
      ap (λ s. a * s) (sum_of v),
      all,
      sum-add (length v) (λ k. get_or sums k 0) (λ k. a * get_or v k 0),
      sum-mul (length v) a (λ k. get_or v k 0),
    )

-- each number times a
pub sum-scaled : (a : ℕ) (v : List ℕ) → sum (map (λ n. a * n) v) ≡ a * sum v
sum-scaled a [] = omega arith
sum-scaled a (x ∷ v) =
    let first : sum (map (λ n. a * n) (x ∷ v)) ≡ a * x + sum (map (λ n. a * n) v) = sum-cons (a * x) (map (λ n. a * n) v) in
    first ∙ omega (arith, ap (λ s. a * s) (sum-cons x v), sum-scaled a v)
