-- The laws of the order, of sums, products, differences and inverses, and of whole numbers and their quotients.
use Rattle.std.proofs.Common.{◌≡◌, ℕ, zero, suc, ◌+◌, ◌-◌, ◌*◌, ◌/◌, ◌<◌, ◌≤◌, ◌⊎◌, inl, inr, refl, arith, sym, ap, Bool, true, false}
use Rattle.std.proofs.Math.Nat.{mul-le-mul_right, le_of_mul-le-mul_right, div-mul-le_self, mul-pos}
use Rattle.std.proofs.lemmas.Bool.{leb-true, le-leb, cases_lt}
use mathlib.Core.Bool.{Bool-set}
use mathlib.Core.HLevel.{Π_prop}
use mathlib.Core.Quot.{sound, ind}
use Rattle.sil_fraction.specs.Ratio.{Ratio, Same, add, mul, sub, turn, turn_parts, whole_ratio, one_positive, below, below_left, below_right}
use Rattle.sil_fraction.specs.Fraction.{Fraction, of, ◌+ℚ◌, ◌-ℚ◌, ◌*ℚ◌, ◌≤ℚ◌, inverse, whole, ratio, Fraction-set, lift_two}

-- what holds of all ratios holds of all fractions
pub by_one : (P : Fraction → Type 0) → ((x : Fraction) → IsProp (P x)) → ((a : Ratio) → P (of a)) → (x : Fraction) → P x
unfolding Fraction of
by_one P prop h x = ind {r = Same} prop h x

-- the same for two and for three
module _ (P : Fraction → Fraction → Type 0) (prop : (x y : Fraction) → IsProp (P x y)) where
  pub by_two : ((a b : Ratio) → P (of a) (of b)) → (x y : Fraction) → P x y
  by_two h x y = by_one (λ x. P x y) (λ x. prop x y) (λ a. by_one (λ y. P (of a) y) (λ y. prop (of a) y) (λ b. h a b) y) x

module _ (P : Fraction → Fraction → Fraction → Type 0) (prop : (x y z : Fraction) → IsProp (P x y z)) where
  pub by_three : ((a b c : Ratio) → P (of a) (of b) (of c)) → (x y z : Fraction) → P x y z
  by_three h x y z = by_one (λ x. P x y z) (λ x. prop x y z) (λ a. by_two (λ y z. P (of a) y z) (λ y z. prop (of a) y z) (λ b c. h a b c) y z) x

pub same : (a b : Ratio) → Same a b → of a ≡ of b
unfolding of Fraction
same a b h = sound h

pub le_prop : (x y : Fraction) → IsProp (x ≤ℚ y)
unfolding ◌≤ℚ◌ Fraction
le_prop x y = Bool-set _ _

-- the order on ratios, as numbers
le_of : (a b : Ratio) → a.num * b.den ≤ b.num * a.den → of a ≤ℚ of b
unfolding ◌≤ℚ◌ Fraction of
le_of a b h = le-leb _ _ h

of_le : (a b : Ratio) → of a ≤ℚ of b → a.num * b.den ≤ b.num * a.den
unfolding ◌≤ℚ◌ Fraction of
of_le a b h = leb-true _ _ h

pub add_comm : (x y : Fraction) → x +ℚ y ≡ y +ℚ x
unfolding ◌+ℚ◌ Fraction of
add_comm = by_two (λ x y. x +ℚ y ≡ y +ℚ x) (λ x y. Fraction-set _ _) (λ a b. same (add a b) (add b a) (omega arith))

pub add_assoc : (x y z : Fraction) → (x +ℚ y) +ℚ z ≡ x +ℚ (y +ℚ z)
unfolding ◌+ℚ◌ Fraction of
add_assoc = by_three (λ x y z. (x +ℚ y) +ℚ z ≡ x +ℚ (y +ℚ z)) (λ x y z. Fraction-set _ _) (λ a b c. same (add (add a b) c) (add a (add b c)) (omega arith))

pub mul_comm : (x y : Fraction) → x *ℚ y ≡ y *ℚ x
unfolding ◌*ℚ◌ Fraction of
mul_comm = by_two (λ x y. x *ℚ y ≡ y *ℚ x) (λ x y. Fraction-set _ _) (λ a b. same (mul a b) (mul b a) (omega arith))

pub mul_assoc : (x y z : Fraction) → (x *ℚ y) *ℚ z ≡ x *ℚ (y *ℚ z)
unfolding ◌*ℚ◌ Fraction of
mul_assoc = by_three (λ x y z. (x *ℚ y) *ℚ z ≡ x *ℚ (y *ℚ z)) (λ x y z. Fraction-set _ _) (λ a b c. same (mul (mul a b) c) (mul a (mul b c)) (omega arith))

pub mul-add : (x y z : Fraction) → x *ℚ (y +ℚ z) ≡ x *ℚ y +ℚ x *ℚ z
unfolding ◌*ℚ◌ ◌+ℚ◌ Fraction of
mul-add = by_three (λ x y z. x *ℚ (y +ℚ z) ≡ x *ℚ y +ℚ x *ℚ z) (λ x y z. Fraction-set _ _) (λ a b c. same (mul a (add b c)) (add (mul a b) (mul a c)) (omega arith))

pub zero-add : (x : Fraction) → whole 0 +ℚ x ≡ x
unfolding ◌+ℚ◌ Fraction of whole
zero-add = by_one (λ x. whole 0 +ℚ x ≡ x) (λ x. Fraction-set _ _) (λ a. same (add (whole_ratio 0) a) a (omega arith))

pub one-mul : (x : Fraction) → whole 1 *ℚ x ≡ x
unfolding ◌*ℚ◌ Fraction of whole
one-mul = by_one (λ x. whole 1 *ℚ x ≡ x) (λ x. Fraction-set _ _) (λ a. same (mul (whole_ratio 1) a) a (omega arith))

pub zero-mul : (x : Fraction) → whole 0 *ℚ x ≡ whole 0
unfolding ◌*ℚ◌ Fraction of whole
zero-mul = by_one (λ x. whole 0 *ℚ x ≡ whole 0) (λ x. Fraction-set _ _) (λ a. same (mul (whole_ratio 0) a) (whole_ratio 0) (omega arith))

pub le_refl : (x : Fraction) → x ≤ℚ x
le_refl = by_one (λ x. x ≤ℚ x) (λ x. le_prop x x) (λ a. le_of a a (omega arith))

le_trans_of : (a b c : Ratio) → a.num * b.den ≤ b.num * a.den → b.num * c.den ≤ c.num * b.den → a.num * c.den ≤ c.num * a.den
le_trans_of a b c h k = le_of_mul-le-mul_right {k = b.den} (omega (arith, mul-le-mul_right c.den h, mul-le-mul_right a.den k)) b.positive

pub le_trans : (x y z : Fraction) → x ≤ℚ y → y ≤ℚ z → x ≤ℚ z
le_trans = by_three (λ x y z. x ≤ℚ y → y ≤ℚ z → x ≤ℚ z) (λ x y z. Π_prop (λ _. Π_prop (λ _. le_prop x z)))
    (λ a b c h k. le_of a c (le_trans_of a b c (of_le a b h) (of_le b c k)))

pub le_antisymm : (x y : Fraction) → x ≤ℚ y → y ≤ℚ x → x ≡ y
le_antisymm = by_two (λ x y. x ≤ℚ y → y ≤ℚ x → x ≡ y) (λ x y. Π_prop (λ _. Π_prop (λ _. Fraction-set x y)))
    (λ a b h k. same a b (omega (arith, of_le a b h, of_le b a k)))

-- the greater of two is one of them
pub le_or_le : (x y : Fraction) → (x ≤ℚ y → ⊥) → y ≤ℚ x
le_or_le = by_two (λ x y. (x ≤ℚ y → ⊥) → y ≤ℚ x) (λ x y. Π_prop (λ _. le_prop y x))
    (λ a b h. elim (cases_lt (b.num * a.den) (a.num * b.den)) [ inl g ↦ le_of b a (omega arith) | inr g ↦ absurd (h (le_of a b g)) ])

add_le_of : (a b c d : Ratio) → a.num * b.den ≤ b.num * a.den → c.num * d.den ≤ d.num * c.den → (add a c).num * (add b d).den ≤ (add b d).num * (add a c).den
add_le_of a b c d h k = omega (arith, mul-le-mul_right (c.den * d.den) h, mul-le-mul_right (a.den * b.den) k)

pub add-le-add_right : (x y z : Fraction) → x ≤ℚ y → x +ℚ z ≤ℚ y +ℚ z
unfolding ◌+ℚ◌ Fraction of
add-le-add_right = by_three (λ x y z. x ≤ℚ y → x +ℚ z ≤ℚ y +ℚ z) (λ x y z. Π_prop (λ _. le_prop _ _))
    (λ a b c h. le_of (add a c) (add b c) (add_le_of a b c c (of_le a b h) (omega arith)))

pub mul-le-right : (x y z : Fraction) → x ≤ℚ y → x *ℚ z ≤ℚ y *ℚ z
unfolding ◌*ℚ◌ Fraction of
mul-le-right = by_three (λ x y z. x ≤ℚ y → x *ℚ z ≤ℚ y *ℚ z) (λ x y z. Π_prop (λ _. le_prop _ _))
    (λ a b c h. le_of (mul a c) (mul b c) (omega (arith, mul-le-mul_right (c.num * c.den) (of_le a b h))))

pub add-le-cancel_right : (x y z : Fraction) → x +ℚ z ≤ℚ y +ℚ z → x ≤ℚ y
unfolding ◌+ℚ◌ Fraction of
add-le-cancel_right = by_three (λ x y z. x +ℚ z ≤ℚ y +ℚ z → x ≤ℚ y) (λ x y z. Π_prop (λ _. le_prop _ _))
    (λ a b c h. le_of a b (le_of_mul-le-mul_right {k = c.den * c.den} (omega (arith, of_le (add a c) (add b c) h)) (mul-pos c.positive c.positive)))

pub zero-le : (x : Fraction) → whole 0 ≤ℚ x
unfolding whole
zero-le = by_one (λ x. whole 0 ≤ℚ x) (λ x. le_prop _ _) (λ a. le_of (whole_ratio 0) a (omega arith))

sub_add_of : (a b : Ratio) → b.num * a.den ≤ a.num * b.den → Same (add (sub a b) b) a
sub_add_of a b h =
    let e : (a.num * b.den - b.num * a.den) + b.num * a.den ≡ a.num * b.den = omega arith in
    omega (arith, ap (λ n. n * (b.den * a.den)) e)

pub sub-add : (x y : Fraction) → y ≤ℚ x → (x -ℚ y) +ℚ y ≡ x
unfolding ◌+ℚ◌ ◌-ℚ◌ Fraction of
sub-add = by_two (λ x y. y ≤ℚ x → (x -ℚ y) +ℚ y ≡ x) (λ x y. Π_prop (λ _. Fraction-set _ _))
    (λ a b h. same (add (sub a b) b) a (sub_add_of a b (of_le b a h)))

pub whole-add : (m n : ℕ) → whole (m + n) ≡ whole m +ℚ whole n
unfolding ◌+ℚ◌ Fraction of whole
whole-add m n = same (whole_ratio (m + n)) (add (whole_ratio m) (whole_ratio n)) (omega arith)

pub whole-mul : (m n : ℕ) → whole (m * n) ≡ whole m *ℚ whole n
unfolding ◌*ℚ◌ Fraction of whole
whole-mul m n = same (whole_ratio (m * n)) (mul (whole_ratio m) (whole_ratio n)) (omega arith)

pub whole-le : (m n : ℕ) → m ≤ n → whole m ≤ℚ whole n
unfolding whole
whole-le m n h = le_of (whole_ratio m) (whole_ratio n) (omega arith)

pub le-whole : (m n : ℕ) → whole m ≤ℚ whole n → m ≤ n
unfolding whole
le-whole m n h = omega (arith, of_le (whole_ratio m) (whole_ratio n) h)

-- a fraction above 0 times its inverse is 1
turn_mul : (m d : ℕ) → 0 < m → m * (turn_parts m d).num * 1 ≡ 1 * (d * (turn_parts m d).den)
turn_mul zero d h = absurd (omega arith)
turn_mul (suc m) d h = omega arith

num_positive : (a : Ratio) → (of a ≡ whole 0 → ⊥) → 0 < a.num
unfolding whole
num_positive a h = elim (cases_lt 0 a.num) [ inl g ↦ g | inr g ↦ absurd (h (same a (whole_ratio 0) (omega arith))) ]

pub mul-inverse : (x : Fraction) → (x ≡ whole 0 → ⊥) → x *ℚ inverse x ≡ whole 1
unfolding ◌*ℚ◌ Fraction of whole inverse
mul-inverse = by_one (λ x. (x ≡ whole 0 → ⊥) → x *ℚ inverse x ≡ whole 1) (λ x. Π_prop (λ _. Fraction-set _ _))
    (λ a h. same (mul a (turn a)) (whole_ratio 1) (turn_mul a.num a.den (num_positive a h)))

-- a quotient is the fraction of its two numbers
pub ratio-positive : (n d : ℕ) (p : 0 < d) → ratio n d ≡ of (record { num = n; den = d; positive = p })
unfolding ◌*ℚ◌ Fraction of whole inverse
ratio-positive n zero p = absurd (omega arith)
ratio-positive n (suc d) p = same (mul (whole_ratio n) (turn (whole_ratio (suc d)))) (record { num = n; den = suc d; positive = p }) (omega arith)

pub ratio-le-ratio : (m d n e : ℕ) → 0 < d → 0 < e → m * e ≤ n * d → ratio m d ≤ℚ ratio n e
ratio-le-ratio m d n e p q h = rw (ratio-positive m d p, ratio-positive n e q) (le_of _ _ h)

pub le_from_ratio-le : (m d n e : ℕ) → 0 < d → 0 < e → ratio m d ≤ℚ ratio n e → m * e ≤ n * d
le_from_ratio-le m d n e p q h =
    let k : of (record { num = m; den = d; positive = p }) ≤ℚ of (record { num = n; den = e; positive = q }) = rw (ratio-positive m d p, ratio-positive n e q) at h in
    of_le _ _ k

pub ratio-add : (m d n e : ℕ) → 0 < d → 0 < e → ratio m d +ℚ ratio n e ≡ ratio (m * e + n * d) (d * e)
unfolding ◌+ℚ◌ of Fraction
ratio-add m d n e p q = rw (ratio-positive m d p, ratio-positive n e q, ratio-positive (m * e + n * d) (d * e) (mul-pos p q)) refl

pub ratio-mul : (m d n e : ℕ) → 0 < d → 0 < e → ratio m d *ℚ ratio n e ≡ ratio (m * n) (d * e)
unfolding ◌*ℚ◌ of Fraction
ratio-mul m d n e p q = rw (ratio-positive m d p, ratio-positive n e q, ratio-positive (m * n) (d * e) (mul-pos p q)) refl

pub ratio-same : (m d n e : ℕ) → 0 < d → 0 < e → m * e ≡ n * d → ratio m d ≡ ratio n e
ratio-same m d n e p q h = rw (ratio-positive m d p, ratio-positive n e q) (same _ _ h)

-- the whole quotient is at most the fraction
pub whole-div : (n d : ℕ) → 0 < d → whole (n / d) ≤ℚ ratio n d
unfolding whole
whole-div n d p = rw (ratio-positive n d p) (le_of (whole_ratio (n / d)) _ (omega (arith, div-mul-le_self n d)))

pub whole-ratio : (n : ℕ) → whole n ≡ ratio n 1
unfolding whole
whole-ratio n = sym (ratio-positive n 1 one_positive)

-- two products, and two sums, in order
pub mul-le-left : (x y z : Fraction) → y ≤ℚ z → x *ℚ y ≤ℚ x *ℚ z
mul-le-left x y z h = rw (mul_comm x y, mul_comm x z) (mul-le-right y z x h)

pub mul-le-mul : (a b c d : Fraction) → a ≤ℚ b → c ≤ℚ d → a *ℚ c ≤ℚ b *ℚ d
mul-le-mul a b c d h k = le_trans _ _ _ (mul-le-right a b c h) (mul-le-left b c d k)

-- equal values are in order both ways
pub le_of_same : (x y : Fraction) → x ≡ y → x ≤ℚ y
le_of_same x y e = rw e (le_refl y)

-- a factor brought to the front
pub front : (x y z : Fraction) → x *ℚ (y *ℚ z) ≡ y *ℚ (x *ℚ z)
front x y z = cc (mul_assoc x y z, mul_comm x y, mul_assoc y x z)

pub le_total : (x y : Fraction) → (x ≤ℚ y) ⊎ (y ≤ℚ x)
unfolding ◌≤ℚ◌ Fraction
le_total x y = by_test _ refl
  where
    by_test : (b : Bool) → lift_two Bool-set below below_left below_right x y ≡ b → (x ≤ℚ y) ⊎ (y ≤ℚ x)
    by_test true e = inl e
    by_test false e = inr (le_or_le x y (λ h. cc (e, h)))
