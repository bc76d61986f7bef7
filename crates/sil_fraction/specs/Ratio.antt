-- Ratios of two whole numbers: fractions before equal values are one.
use Rattle.std.specs.Prelude.{◌≡◌, ℕ, ◌+◌, ◌-◌, ◌*◌, ◌<◌, ◌≤◌, Bool, true, false, IsTrue}
use Rattle.std.proofs.Common.{arith, ap, sym, refl, zero, suc, lit<}
use Rattle.std.proofs.Math.Nat.{mul-pos, mul-sub, mul_comm, mul-le-mul_right, le_of_mul-le-mul_right}
use Rattle.std.proofs.Math.Dec.{leb}
use Rattle.std.proofs.lemmas.Bool.{leb-true, le-leb}

-- two whole numbers, the lower one above 0
pub record Ratio : Type 0 where
  pub num : ℕ
  pub den : ℕ
  pub positive : 0 < den

-- compared by cross multiplication
abbrev pub Same : Ratio → Ratio → Type 0
Same a b = a.num * b.den ≡ b.num * a.den

abbrev pub below : Ratio → Ratio → Bool
below a b = leb (a.num * b.den) (b.num * a.den)

abbrev pub add : Ratio → Ratio → Ratio
add a b = record { num = a.num * b.den + b.num * a.den; den = a.den * b.den; positive = mul-pos a.positive b.positive }

abbrev pub mul : Ratio → Ratio → Ratio
mul a b = record { num = a.num * b.num; den = a.den * b.den; positive = mul-pos a.positive b.positive }

-- 0 where b is above a
abbrev pub sub : Ratio → Ratio → Ratio
sub a b = record { num = a.num * b.den - b.num * a.den; den = a.den * b.den; positive = mul-pos a.positive b.positive }

pub one_positive : 0 < 1
one_positive = lit< tt

abbrev pub whole_ratio : ℕ → Ratio
whole_ratio n = record { num = n; den = 1; positive = one_positive }

pub suc_positive : (n : ℕ) → 0 < suc n
suc_positive n = omega arith

-- the ratio turned over, and 0 for 0
abbrev pub turn_parts : ℕ → ℕ → Ratio
turn_parts zero d = whole_ratio 0
turn_parts (suc n) d = record { num = d; den = suc n; positive = suc_positive n }

abbrev pub turn : Ratio → Ratio
turn a = turn_parts a.num a.den

pub add_left : (a b c : Ratio) → Same a b → Same (add a c) (add b c)
add_left a b c h = omega (arith, ap (λ n. n * (c.den * c.den)) h)

pub add_right : (a b c : Ratio) → Same b c → Same (add a b) (add a c)
add_right a b c h = omega (arith, ap (λ n. n * (a.den * a.den)) h)

pub mul_left : (a b c : Ratio) → Same a b → Same (mul a c) (mul b c)
mul_left a b c h = omega (arith, ap (λ n. n * (c.num * c.den)) h)

pub mul_right : (a b c : Ratio) → Same b c → Same (mul a b) (mul a c)
mul_right a b c h = omega (arith, ap (λ n. n * (a.num * a.den)) h)

-- a difference times a number
scaled_down : (m n j p q k : ℕ) → m * j ≡ p * k → n * j ≡ q * k → (m - n) * j ≡ (p - q) * k
scaled_down m n j p q k h g = rw (mul_comm (m - n) j, mul_comm (p - q) k, mul-sub, mul-sub, mul_comm j m, mul_comm j n, mul_comm k p, mul_comm k q, h, g) refl

pub sub_left : (a b c : Ratio) → Same a b → Same (sub a c) (sub b c)
sub_left a b c h = scaled_down _ _ _ _ _ _ (omega (arith, ap (λ n. n * (c.den * c.den)) h)) (omega arith)

pub sub_right : (a b c : Ratio) → Same b c → Same (sub a b) (sub a c)
sub_right a b c h = scaled_down _ _ _ _ _ _ (omega arith) (omega (arith, ap (λ n. n * (a.den * a.den)) h))

pub turn_parts_same : (m d n e : ℕ) → 0 < d → 0 < e → m * e ≡ n * d → Same (turn_parts m d) (turn_parts n e)
turn_parts_same zero d zero e p q h = refl
turn_parts_same zero d (suc n) e p q h = omega arith
turn_parts_same (suc m) d zero e p q h = omega arith
turn_parts_same (suc m) d (suc n) e p q h = omega (arith, h)

pub turn_same : (a b : Ratio) → Same a b → Same (turn a) (turn b)
turn_same a b h = turn_parts_same a.num a.den b.num b.den a.positive b.positive h

pub bool_same : (p q : Bool) → (IsTrue p → IsTrue q) → (IsTrue q → IsTrue p) → p ≡ q
bool_same true true f g = refl
bool_same true false f g = sym (f refl)
bool_same false true f g = g refl
bool_same false false f g = refl

below_le : (a b c : Ratio) → Same a b → a.num * c.den ≤ c.num * a.den → b.num * c.den ≤ c.num * b.den
below_le a b c h k = le_of_mul-le-mul_right {k = a.den} (omega (arith, ap (λ n. n * c.den) h, mul-le-mul_right b.den k)) a.positive

below_ge : (a b c : Ratio) → Same b c → a.num * b.den ≤ b.num * a.den → a.num * c.den ≤ c.num * a.den
below_ge a b c h k = le_of_mul-le-mul_right {k = b.den} (omega (arith, ap (λ n. n * a.den) h, mul-le-mul_right c.den k)) b.positive

pub below_left : (a b c : Ratio) → Same a b → below a c ≡ below b c
below_left a b c h = bool_same _ _ (λ t. le-leb _ _ (below_le a b c h (leb-true _ _ t))) (λ t. le-leb _ _ (below_le b a c (sym h) (leb-true _ _ t)))

pub below_right : (a b c : Ratio) → Same b c → below a b ≡ below a c
below_right a b c h = bool_same _ _ (λ t. le-leb _ _ (below_ge a b c h (leb-true _ _ t))) (λ t. le-leb _ _ (below_ge a c b (sym h) (leb-true _ _ t)))
