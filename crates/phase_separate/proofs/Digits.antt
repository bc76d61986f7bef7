-- The binary digits of a number of beats, from the greatest one down.
use Rattle.std.proofs.Common.{◌≡◌, ℕ, zero, suc, ◌+◌, ◌-◌, ◌*◌, ◌/◌, ◌%◌, ◌^◌, ◌<◌, ◌≤◌, sym, ap, ◌∙◌, arith, inl, inr}
use Rattle.std.proofs.Math.Nat.{pow-suc, pow-zero, div-div-eq-div-mul, div-eq_of_lt-le, lt-div-mul-add, lt_of_mul-lt-mul_right, pow-le-pow_right}
use Rattle.std.proofs.Math.Nat.{mul-le-mul_right}
use Rattle.std.proofs.lemmas.Bool.{cases_lt}
use Rattle.std.proofs.lemmas.Nat.{pow_pos}

twice : (q : ℕ) → 2 ^ (q + 1) ≡ 2 ^ q * 2
twice q = let e : q + 1 ≡ suc q = omega arith in ap (λ n. 2 ^ n) e ∙ pow-suc 2 q

-- a number with its greatest digits, and with one digit more
pub one_digit_more : (b q : ℕ) → b / 2 ^ q ≡ 2 * (b / 2 ^ (q + 1)) + (b / 2 ^ q) % 2
one_digit_more b q =
    let half : b / 2 ^ (q + 1) ≡ (b / 2 ^ q) / 2 = ap (λ n. b / n) (twice q) ∙ sym (div-div-eq-div-mul b (2 ^ q) 2) in
    omega (arith, half)

-- the greatest digit is 1
pub first_digit : (b n : ℕ) → 2 ^ n ≤ b → b < 2 * 2 ^ n → b / 2 ^ n ≡ 1
first_digit b n least most = div-eq_of_lt-le (2 ^ n) (omega arith) (omega arith)

-- all digits
pub all_digits : (b : ℕ) → b / 2 ^ 0 ≡ b
all_digits b = let one : 2 ^ 0 ≡ 1 = pow-zero 2 in ap (λ n. b / n) one ∙ omega arith

pub some_digits : (b n p : ℕ) → 2 ^ n ≤ b → p ≤ n → 0 < b / 2 ^ p
some_digits b n p least fewer =
    let below : 2 ^ p ≤ 2 ^ n = pow-le-pow_right {n = 2} (omega arith) fewer in
    let next : b < b / 2 ^ p * 2 ^ p + 2 ^ p = lt-div-mul-add {a = b} {b = 2 ^ p} (pow_pos p) in
    let more : 1 < b / 2 ^ p + 1 = lt_of_mul-lt-mul_right (2 ^ p) (omega (arith, below, next, least)) in
    omega arith

-- how many digits after the first there are
pub places_below : (b n digits : ℕ) → 2 ^ n ≤ b → b < 2 ^ digits → n < digits
places_below b n digits least most = elim (cases_lt n digits) [
  | inl h ↦ h
  | inr h ↦ let more : 2 ^ digits ≤ 2 ^ n = pow-le-pow_right {n = 2} (omega arith) h in absurd (omega (arith, more))
]

-- what they take, where each takes twice as much at most
pub taken_by_digits : (b n digits from to each : ℕ) → 2 ^ n ≤ b → b < 2 ^ digits → to ≤ from + 2 * n * each → to ≤ from + 2 * digits * each
taken_by_digits b n digits from to each least most h =
    let fewer : n ≤ digits = omega (arith, places_below b n digits least most) in
    omega (arith, mul-le-mul_right each fewer)

-- what the places still to come take, with one place less
pub one_place_less : (p each : ℕ) → 0 < p → 2 * (p - 1) * each + 2 * each ≡ 2 * p * each
one_place_less zero each h = absurd (omega arith)
one_place_less (suc k) each h = let e : suc k - 1 ≡ k = omega arith in rw e (omega arith)
