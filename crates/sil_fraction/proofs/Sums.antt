-- The laws of finite sums, and what follows from the laws of fractions in a step or two.
use Rattle.std.proofs.Common.{◌≡◌, ℕ, zero, suc, List, [], ◌∷◌, ◌++◌, map, refl, sym, ap, ◌∙◌, ◌+◌, ◌*◌, ◌<◌, ◌≤◌, arith, add-one as nat-add-one-right}
use Rattle.std.proofs.Math.Nat.{add-zero as nat-add-zero, add-suc as nat-add-suc}
use Rattle.std.proofs.Math.Numerals.{add-one as nat-add-one}
use Rattle.std.specs.Prelude.{Bool, true, false, cond, filter}
use Rattle.sil_fraction.specs.Fraction.{Fraction, ◌+ℚ◌, ◌-ℚ◌, ◌*ℚ◌, ◌≤ℚ◌, whole, inverse}
use Rattle.sil_fraction.specs.Sum.{total, total_below, sum_below}
use Rattle.sil_fraction.proofs.Laws.{add_comm, add_assoc, zero-add, mul-add, mul_comm, zero-mul, le_refl, le_trans, add-le-add_right, zero-le, sub-add, one-mul, mul-inverse, whole-add, le-whole, mul-le-right, mul_assoc}

pub add-zero : (x : Fraction) → x +ℚ whole 0 ≡ x
add-zero x = add_comm x (whole 0) ∙ zero-add x

pub add_swap : (a b c d : Fraction) → (a +ℚ b) +ℚ (c +ℚ d) ≡ (a +ℚ c) +ℚ (b +ℚ d)
add_swap a b c d = cc (add_assoc a b (c +ℚ d), add_assoc b c d, add_comm b c, add_assoc c b d, add_assoc a c (b +ℚ d))

pub add-le-add : (a b c d : Fraction) → a ≤ℚ b → c ≤ℚ d → a +ℚ c ≤ℚ b +ℚ d
add-le-add a b c d h k = le_trans _ _ _ (add-le-add_right a b c h) (rw (add_comm b c, add_comm b d) (add-le-add_right c d b k))

pub total-add : {A : Type 0} (f g : A → Fraction) (xs : List A) → total (λ x. f x +ℚ g x) xs ≡ total f xs +ℚ total g xs
total-add f g [] = sym (zero-add (whole 0))
total-add f g (x ∷ xs) = rw (total-add f g xs) (add_swap (f x) (g x) (total f xs) (total g xs))

pub total-zero : {A : Type 0} (xs : List A) → total (λ (x : A). whole 0) xs ≡ whole 0
total-zero [] = refl
total-zero (x ∷ xs) = zero-add _ ∙ total-zero xs

pub total-swap : {A B : Type 0} (f : A → B → Fraction) (xs : List A) (ys : List B) → total (λ x. total (λ y. f x y) ys) xs ≡ total (λ y. total (λ x. f x y) xs) ys
total-swap f [] ys = sym (total-zero ys)
total-swap f (x ∷ xs) ys = rw (total-swap f xs ys) (sym (total-add (λ y. f x y) (λ y. total (λ x. f x y) xs) ys))

pub mul-total : {A : Type 0} (c : Fraction) (f : A → Fraction) (xs : List A) → c *ℚ total f xs ≡ total (λ x. c *ℚ f x) xs
mul-total c f [] = mul_comm c (whole 0) ∙ zero-mul c
mul-total c f (x ∷ xs) = rw (mul-add, mul-total c f xs) refl

pub total-le : {A : Type 0} (f g : A → Fraction) (xs : List A) → ((x : A) → f x ≤ℚ g x) → total f xs ≤ℚ total g xs
total-le f g [] h = le_refl (whole 0)
total-le f g (x ∷ xs) h = add-le-add _ _ _ _ (h x) (total-le f g xs h)

pub total-append : {A : Type 0} (f : A → Fraction) (xs ys : List A) → total f (xs ++ ys) ≡ total f xs +ℚ total f ys
total-append f [] ys = sym (zero-add _)
total-append f (x ∷ xs) ys = rw (total-append f xs ys) (sym (add_assoc _ _ _))

pub total-map : {A B : Type 0} (f : B → Fraction) (g : A → B) (xs : List A) → total f (map g xs) ≡ total (λ x. f (g x)) xs
total-map f g [] = refl
total-map f g (x ∷ xs) = ap (λ s. f (g x) +ℚ s) (total-map f g xs)

pub le-add_right : (x y : Fraction) → x ≤ℚ x +ℚ y
le-add_right x y =
    let h : whole 0 +ℚ x ≤ℚ y +ℚ x = add-le-add_right (whole 0) y x (zero-le y) in
    rw (zero-add x, add_comm y x) at h

pub below-le : (n : ℕ) (f g : ℕ → Fraction) → ((k : ℕ) → k < n → f k ≤ℚ g k) → total_below n f ≤ℚ total_below n g
below-le zero f g h = le_refl (whole 0)
below-le (suc n) f g h = add-le-add _ _ _ _ (below-le n f g (λ k p. h k (omega arith))) (h n (omega arith))

pub below-add : (n : ℕ) (f g : ℕ → Fraction) → total_below n (λ k. f k +ℚ g k) ≡ total_below n f +ℚ total_below n g
below-add zero f g = sym (zero-add (whole 0))
below-add (suc n) f g = rw (below-add n f g) (add_swap (total_below n f) (total_below n g) (f n) (g n))

pub mul-below : (n : ℕ) (c : Fraction) (f : ℕ → Fraction) → c *ℚ total_below n f ≡ total_below n (λ k. c *ℚ f k)
mul-below zero c f = mul_comm c (whole 0) ∙ zero-mul c
mul-below (suc n) c f = rw (mul-add, mul-below n c f) refl

-- a sum of sums either way round
pub total-below-swap : {A : Type 0} (n : ℕ) (f : A → ℕ → Fraction) (xs : List A) → total (λ x. total_below n (f x)) xs ≡ total_below n (λ k. total (λ x. f x k) xs)
total-below-swap zero f xs = total-zero xs
total-below-swap (suc n) f xs = total-add (λ x. total_below n (f x)) (λ x. f x n) xs ∙ ap (λ s. s +ℚ total (λ x. f x n) xs) (total-below-swap n f xs)

-- more terms, a greater sum
pub le-below-more : (m n : ℕ) (f : ℕ → Fraction) → total_below m f ≤ℚ total_below (m + n) f
le-below-more m zero f = rw nat-add-zero (le_refl _)
le-below-more m (suc n) f = rw nat-add-suc (le_trans _ _ _ (le-below-more m n f) (le-add_right (total_below (m + n) f) (f (m + n))))

pub mul-zero : (x : Fraction) → x *ℚ whole 0 ≡ whole 0
mul-zero x = mul_comm x (whole 0) ∙ zero-mul x

pub mul-one : (x : Fraction) → x *ℚ whole 1 ≡ x
mul-one x = mul_comm x (whole 1) ∙ one-mul x

pub sub-zero : (x : Fraction) → x -ℚ whole 0 ≡ x
sub-zero x = sym (add-zero (x -ℚ whole 0)) ∙ sub-add x (whole 0) (zero-le x)

pub add-mul : (x y z : Fraction) → (x +ℚ y) *ℚ z ≡ x *ℚ z +ℚ y *ℚ z
add-mul x y z = mul_comm (x +ℚ y) z ∙ mul-add z x y ∙ cc (mul_comm z x, mul_comm z y)

-- what a 0 or a 1 does in a sum or a product
pub ruleset trivial = (zero-add, add-zero, zero-mul, mul-zero, one-mul, mul-one, sub-zero)

pub whole-positive : (n : ℕ) → 0 < n → whole n ≡ whole 0 → ⊥
whole-positive n h e =
    let k : whole n ≤ℚ whole 0 = rw e (le_refl (whole 0)) in
    let l : n ≤ 0 = le-whole n 0 k in
    omega arith

-- a factor above 0 on both sides
pub le_from_scaled : (n : ℕ) (x y : Fraction) → 0 < n → x *ℚ whole n ≤ℚ y *ℚ whole n → x ≤ℚ y
le_from_scaled n x y p h =
    let k : (x *ℚ whole n) *ℚ inverse (whole n) ≤ℚ (y *ℚ whole n) *ℚ inverse (whole n) = mul-le-right _ _ (inverse (whole n)) h in
    rw (undone n x p, undone n y p) at k
  where
    undone : (n : ℕ) (x : Fraction) → 0 < n → (x *ℚ whole n) *ℚ inverse (whole n) ≡ x
    undone n x p = mul_assoc x (whole n) (inverse (whole n)) ∙ ap (λ z. x *ℚ z) (mul-inverse (whole n) (whole-positive n p)) ∙ mul-one x

pub inverse-one : inverse (whole 1) ≡ whole 1
inverse-one = sym (one-mul (inverse (whole 1))) ∙ mul-inverse (whole 1) (whole-positive 1 (omega arith))

pub below-same : (n : ℕ) (f g : ℕ → Fraction) → ((k : ℕ) → k < n → f k ≡ g k) → total_below n f ≡ total_below n g
below-same zero f g h = refl
below-same (suc n) f g h = cc (below-same n f g (λ k p. h k (omega arith)), h n (omega arith))

pub below-constant : (n : ℕ) (c : Fraction) → total_below n (λ k. c) ≡ whole n *ℚ c
below-constant zero c = sym (zero-mul c)
below-constant (suc n) c = rw (below-constant n c, ← nat-add-one n, whole-add, add-mul, one-mul) refl

pub total-filter-le : {A : Type 0} (f : A → Fraction) (p : A → Bool) (xs : List A) → total f (filter p xs) ≤ℚ total f xs
total-filter-le f p [] = le_refl (whole 0)
total-filter-le f p (x ∷ xs) = elim (p x) as (λ b. total f (cond b (x ∷ filter p xs) (filter p xs)) ≤ℚ f x +ℚ total f xs) [
  | true ↦ add-le-add _ _ _ _ (le_refl (f x)) (total-filter-le f p xs)
  | false ↦ le_trans _ _ _ (total-filter-le f p xs) (rw (add_comm (f x) (total f xs)) (le-add_right (total f xs) (f x)))
]

-- division by what is not 0
pub divided : (x y b : Fraction) → (b ≡ whole 0 → ⊥) → x *ℚ b ≤ℚ y → x ≤ℚ y *ℚ inverse b
divided x y b ne h =
    let k : (x *ℚ b) *ℚ inverse b ≤ℚ y *ℚ inverse b = mul-le-right _ _ (inverse b) h in
    let e : (x *ℚ b) *ℚ inverse b ≡ x = mul_assoc x b (inverse b) ∙ ap (λ z. x *ℚ z) (mul-inverse b ne) ∙ mul-one x in
    rw e at k

-- a double sum either way round
pub below-swap : (m n : ℕ) (f : ℕ → ℕ → Fraction) → total_below m (λ i. total_below n (f i)) ≡ total_below n (λ k. total_below m (λ i. f i k))
below-swap zero n f = sym (below-constant n (whole 0) ∙ mul-zero (whole n))
below-swap (suc m) n f = ap (λ s. s +ℚ total_below n (f m)) (below-swap m n f) ∙ sym (below-add n (λ k. total_below m (λ i. f i k)) (f m))

-- a sum split at an index, and at its first term
pub below-append : (m n : ℕ) (f : ℕ → Fraction) → total_below (m + n) f ≡ total_below m f +ℚ total_below n (λ k. f (m + k))
below-append m zero f = rw nat-add-zero (sym (add-zero _))
below-append m (suc n) f = rw nat-add-suc (ap (λ s. s +ℚ f (m + n)) (below-append m n f) ∙ add_assoc _ _ _)

pub below-first : (n : ℕ) (f : ℕ → Fraction) → total_below (suc n) f ≡ f 0 +ℚ total_below n (λ k. f (suc k))
below-first zero f = add_comm (whole 0) (f 0)
below-first (suc n) f = ap (λ s. s +ℚ f (suc n)) (below-first n f) ∙ add_assoc _ _ _

-- a sum of whole numbers as a fraction
pub whole-sum : (n : ℕ) (f : ℕ → ℕ) → whole (sum_below n f) ≡ total_below n (λ k. whole (f k))
unfolding sum_below
whole-sum zero f = refl
whole-sum (suc n) f = rw (whole-add, whole-sum n f) refl

-- sums of whole numbers
pub sum-next : (n : ℕ) (f : ℕ → ℕ) → sum_below (n + 1) f ≡ sum_below n f + f n
unfolding sum_below
sum-next n f = rw nat-add-one-right refl

pub sum-none : (f : ℕ → ℕ) → sum_below 0 f ≡ 0
unfolding sum_below
sum-none f = refl

pub sum-le : (n : ℕ) (f g : ℕ → ℕ) → ((k : ℕ) → k < n → f k ≤ g k) → sum_below n f ≤ sum_below n g
unfolding sum_below
sum-le zero f g h = omega arith
sum-le (suc n) f g h = omega (arith, sum-le n f g (λ k p. h k (omega arith)), h n (omega arith))

pub sum-same : (n : ℕ) (f g : ℕ → ℕ) → ((k : ℕ) → k < n → f k ≡ g k) → sum_below n f ≡ sum_below n g
unfolding sum_below
sum-same zero f g h = refl
sum-same (suc n) f g h = omega (arith, sum-same n f g (λ k p. h k (omega arith)), h n (omega arith))

pub sum-add : (n : ℕ) (f g : ℕ → ℕ) → sum_below n (λ k. f k + g k) ≡ sum_below n f + sum_below n g
unfolding sum_below
sum-add zero f g = refl
sum-add (suc n) f g = omega (arith, sum-add n f g)

pub sum-mul : (n c : ℕ) (f : ℕ → ℕ) → sum_below n (λ k. c * f k) ≡ c * sum_below n f
unfolding sum_below
sum-mul zero c f = omega arith
sum-mul (suc n) c f = omega (arith, sum-mul n c f)

pub sum-first : (n : ℕ) (f : ℕ → ℕ) → sum_below (suc n) f ≡ f 0 + sum_below n (λ k. f (suc k))
unfolding sum_below
sum-first zero f = omega arith
sum-first (suc n) f = omega (arith, sum-first n f)

pub sum-append : (m n : ℕ) (f : ℕ → ℕ) → sum_below (m + n) f ≡ sum_below m f + sum_below n (λ k. f (m + k))
unfolding sum_below
sum-append m zero f = rw nat-add-zero (omega arith)
sum-append m (suc n) f = rw nat-add-suc (omega (arith, sum-append m n f))
