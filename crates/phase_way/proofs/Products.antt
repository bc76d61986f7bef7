-- The products of a phase, as the program works them out.
use Rattle.std.proofs.Common.{◌≡◌, ℕ, ◌+◌, ◌*◌, ◌^◌, ◌≤◌, List, ap, arith}
use Rattle.std.proofs.Math.Nat.{mul-le-mul_left, pow-suc, pow-zero}
use Rattle.std.proofs.lemmas.Nat.{mul-le}
use Rattle.sil_model.specs.Budget.{lumped_events_of}
use Rattle.sil_model.specs.Sizes.{states_of}
use Rattle.sil_model.specs.declared.parts.Subsystem.{Subsystem}
use Rattle.uniformise.specs.Beat.{beat_products}
use Rattle.phase_powers.specs.Products.{powered_products}
use Rattle.phase_way.specs.Ways.{products_by}
use Rattle.phase_way.specs.declared.choice.Way.{Way}

square : (n : ℕ) → n ^ 2 ≡ n * n
square n =
    let none : n ^ 0 ≡ 1 = pow-zero n in
    let one : n ^ 1 ≡ n = omega (arith, pow-suc n 0, ap (λ x. x * n) none) in
    omega (arith, pow-suc n 1, ap (λ x. x * n) one)

cube : (n : ℕ) → n ^ 3 ≡ n * n * n
cube n = omega (arith, pow-suc n 2, ap (λ x. x * n) (square n))

-- by powers, from the states and the products of a beat
pub powered_value : (us : List Subsystem) (order digits s a : ℕ) → s ≡ states_of us → a ≡ beat_products us order
    → s * a + 4 * (s * s * s) * digits + 2 * (s * s) ≡ powered_products us order digits
powered_value us order digits s a e f =
    rw (e, f) (omega (arith, ap (λ x. 4 * x * digits) (cube (states_of us)), square (states_of us)))

-- which are not many
pub powers_few : (s a digits : ℕ) → s ≤ 64 → a ≤ 2 ^ 28 → digits ≤ 64 → s * a + 4 * (s * s * s) * digits + 2 * (s * s) ≤ 2 ^ 40
powers_few s a digits few of_beat small =
    let once : s * a ≤ 64 * 2 ^ 28 = mul-le s a 64 (2 ^ 28) few of_beat in
    let square : s * s ≤ 64 * 64 = mul-le s s 64 64 few few in
    let cube : s * s * s ≤ 64 * 64 * 64 = mul-le (s * s) s (64 * 64) 64 square few in
    let all : s * s * s * digits ≤ 64 * 64 * 64 * 64 = mul-le (s * s * s) digits (64 * 64 * 64) 64 cube small in
    omega (arith, once, square, all)

-- two products for each state and beat are no more than the beats may take
pub few_products : (us : List Subsystem) (order beats : ℕ) → 16 ≤ order → 2 * beats * states_of us ≤ beats * beat_products us order
few_products us order beats least =
    let of_state : 2 ≤ order * (lumped_events_of us + 1) + 2 * order + 1 = omega (arith, least) in
    let of_beat : states_of us * 2 ≤ beat_products us order = mul-le-mul_left (states_of us) of_state in
    omega (arith, mul-le-mul_left beats of_beat)

-- with as many digits or more
pub more_digits : (us : List Subsystem) (order fewer digits : ℕ) → fewer ≤ digits → powered_products us order fewer ≤ powered_products us order digits
more_digits us order fewer digits h = omega (arith, mul-le-mul_left (4 * states_of us ^ 3) h)

-- a way that takes no more than powers, at as many digits as there are, takes no more at any
pub within_powers : (us : List Subsystem) (order beats fewer digits before after : ℕ) (way : Way) → after ≤ before + products_by us order beats fewer way
    → products_by us order beats fewer way ≤ powered_products us order fewer → fewer ≤ digits → after ≤ before + powered_products us order digits
within_powers us order beats fewer digits before after way steps few h = omega (arith, steps, few, more_digits us order fewer digits h)
