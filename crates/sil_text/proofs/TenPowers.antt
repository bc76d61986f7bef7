-- Powers of ten: one factor after another, and what can be cancelled.
use Rattle.std.proofs.Common.{◌≡◌, ℕ, ◌+◌, ◌-◌, ◌*◌, ◌/◌, ◌%◌, ◌^◌, ◌<◌, ◌≤◌, sym, ap, ◌∙◌, arith, add-one}
use Rattle.std.proofs.Math.Nat.{pow-suc, mul_assoc, one-le-pow, eq_of_mul-eq-mul_right, mul-mod_left, mul-le-mul_right, mul-le-mul_left, pow-le-pow_right}
use Rattle.std.proofs.lemmas.Nat.{pow-add}

pub ten_pos : (k : ℕ) → 0 < 10 ^ k
ten_pos k = omega (arith, one-le-pow k 10 (omega arith))

pub next_power : (k : ℕ) → 10 ^ (k + 1) ≡ 10 ^ k * 10
next_power k = ap (λ n. 10 ^ n) (add-one k) ∙ pow-suc 10 k

pub power_split : (a b : ℕ) → a ≤ b → 10 ^ b ≡ 10 ^ (b - a) * 10 ^ a
power_split a b h = ap (λ n. 10 ^ n) (let e : b ≡ b - a + a = omega arith in e) ∙ pow-add 10 (b - a) a

-- one more factor
pub once_more : (n k : ℕ) → n * 10 ^ k * 10 ≡ n * 10 ^ (k + 1)
once_more n k = mul_assoc n (10 ^ k) 10 ∙ ap (λ m. n * m) (sym (next_power k))

pub more_tens : (n i j : ℕ) → i ≤ j → n * 10 ^ i ≤ n * 10 ^ j
more_tens n i j h = mul-le-mul_left n (pow-le-pow_right (omega arith) h)

-- one division more, where it leaves nothing over
pub once_less : (n q k : ℕ) → n ≡ q * 10 ^ k → q % 10 ≡ 0 → n ≡ q / 10 * 10 ^ (k + 1)
once_less n q k h none = h ∙ ap (λ m. m * 10 ^ k) (let e : q ≡ 10 * (q / 10) = omega arith in e) ∙ (let e : 10 * (q / 10) * 10 ^ k ≡ q / 10 * 10 ^ k * 10 = omega arith in e) ∙ once_more (q / 10) k

-- a number with more tens in it leaves nothing over at the next division
pub nothing_left_over : (n q k whole times : ℕ) → k < times → n ≡ q * 10 ^ k → n ≡ whole * 10 ^ times → q % 10 ≡ 0
nothing_left_over n q k whole times h so_far all =
    let split = power_split (k + 1) times (omega arith) in
    let product : q * 10 ^ k ≡ whole * 10 ^ (times - (k + 1)) * 10 * 10 ^ k =
    sym so_far ∙ all ∙ ap (λ m. whole * m) (split ∙ ap (λ m. 10 ^ (times - (k + 1)) * m) (next_power k))
    ∙ (let e : whole * (10 ^ (times - (k + 1)) * (10 ^ k * 10)) ≡ whole * 10 ^ (times - (k + 1)) * 10 * 10 ^ k = omega arith in e) in
    ap (λ m. m % 10) (eq_of_mul-eq-mul_right (10 ^ k) (ten_pos k) q (whole * 10 ^ (times - (k + 1)) * 10) product) ∙ mul-mod_left (whole * 10 ^ (times - (k + 1))) 10

-- n times ten to the power r, over ten to the power l, with the smaller of both powers cancelled
pub raised : (n r l : ℕ) → l ≤ r → n * 10 ^ r ≡ n * 10 ^ (r - l) * 10 ^ l
raised n r l h = ap (λ m. n * m) (power_split l r h) ∙ sym (mul_assoc n (10 ^ (r - l)) (10 ^ l))

pub lowered : (n q r l : ℕ) → r ≤ l → n ≡ q * 10 ^ (l - r) → n * 10 ^ r ≡ q * 10 ^ l
lowered n q r l h e = ap (λ m. m * 10 ^ r) e ∙ sym (raised q l r h)

pub lowered_back : (n q r l : ℕ) → r ≤ l → n * 10 ^ r ≡ q * 10 ^ l → n ≡ q * 10 ^ (l - r)
lowered_back n q r l h e = eq_of_mul-eq-mul_right (10 ^ r) (ten_pos r) n (q * 10 ^ (l - r)) (e ∙ raised q l r h)

-- appending digit by digit stays within what the number of digits allows
pub room_for_digit : (n a i len : ℕ) → i < len → a + 1 ≤ (n + 1) * 10 ^ i → (n + 1) * 10 ^ len ≤ 10 ^ 24 → (a * 10 + 10 ≤ (n + 1) * 10 ^ (i + 1)) × (a * 10 + 10 ≤ 10 ^ 24)
room_for_digit n a i len h bound room =
    let up : a * 10 + 10 ≤ (n + 1) * 10 ^ (i + 1) = omega (arith, once_more (n + 1) i, mul-le-mul_right 10 bound) in
    let all : (n + 1) * 10 ^ (i + 1) ≤ (n + 1) * 10 ^ len = mul-le-mul_left (n + 1) (pow-le-pow_right (omega arith) (omega arith)) in
    (up, omega arith)

-- two runs of digits, one after the other, have room if both together have
pub room_for_both : (n a b : ℕ) → n + 1 ≤ (0 + 1) * 10 ^ a → a + b ≤ 24 → (n + 1) * 10 ^ b ≤ 10 ^ 24
room_for_both n a b bound few =
    let whole : (n + 1) * 10 ^ b ≤ 10 ^ a * 10 ^ b = mul-le-mul_right (10 ^ b) (omega arith) in
    let both : 10 ^ (a + b) ≤ 10 ^ 24 = pow-le-pow_right (omega arith) few in
    omega (arith, pow-add 10 a b)

pub room_for_one : (a : ℕ) → a ≤ 24 → (0 + 1) * 10 ^ a ≤ 10 ^ 24
room_for_one a few =
    let all : 10 ^ a ≤ 10 ^ 24 = pow-le-pow_right (omega arith) few in
    omega arith
