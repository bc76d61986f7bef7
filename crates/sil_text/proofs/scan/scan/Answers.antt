use Rattle.std.proofs.Common.{ℕ, ◌+◌, ◌≤◌, List, length, All, sym, ap, ◌∙◌, subst, arith}
use Rattle.std.proofs.lemmas.Bool.Decides.{nat_tests}
use Rattle.std.specs.Char.{IsAsciiDigit}
use Rattle.sil_text.specs.Decimal.{IsExponent}
use Rattle.sil_text.specs.Parts.{fraction_of, after_fraction, exponent_of}
use Rattle.sil_text.specs.Values.{ArePowersOf}
use Rattle.sil_text.proofs.DigitRuns.{leading_are_digits}
use Rattle.sil_text.proofs.TenPowers.{room_for_one, room_for_both}
use Rattle.sil_text.proofs.Scans.{fraction_are_digits, decimal_from_scan, no_decimal_from_exponent, no_decimal_from_lengths, value_from_scan}
use Rattle.sil_text.proofs.scan.scan.Goals as goal
use Rattle.sil_text.proofs.scan.scan.Goals.{then-is_empty-via-then-is_empty, then-is_empty-via-else-is_empty+then-whole-fraction-gt-MOST_DIGITS}

pub returns-in_err-fraction-clause-none : goal.returns-in_err-fraction-clause-none
returns-in_err-fraction-clause-none c =
    let No : List ℕ → Type 0 = λ t. ¬ IsExponent (exponent_of (after_fraction t)) in
    let none = no_decimal_from_exponent c.args.text.now (subst No c.split_digits.ensures.rest c.in_err-fraction.ensures.none) in
    rw c.from_residual.ensures none

pub returns-in_err-powers-clause-none : goal.returns-in_err-powers-clause-none
returns-in_err-powers-clause-none c =
    let No : List ℕ → Type 0 = λ t. ¬ IsExponent (exponent_of t) in
    let rest = c.in_ok-fraction.ensures.some.1 ∙ ap after_fraction c.split_digits.ensures.rest in
    let none = no_decimal_from_exponent c.args.text.now (subst No rest c.in_err-powers.ensures.none) in
    rw c.from_residual-in_err-powers.ensures none

pub returns-then-is_empty-clause-none : goal.returns-then-is_empty-clause-none
returns-then-is_empty-clause-none c =
    let whole = ap length c.split_digits.ensures.digits in
    let fraction = ap length (c.in_ok-fraction.ensures.some.0 ∙ ap fraction_of c.split_digits.ensures.rest) in
    no_decimal_from_lengths c.args.text.now (λ some few. elim c.then-is_empty.branch [
      | then-is_empty-via-then-is_empty w ↦ absurd (grind (arith, nat_tests))
      | then-is_empty-via-else-is_empty+then-whole-fraction-gt-MOST_DIGITS w ↦ absurd (omega arith)
    ])

pub append_digits-requires-clause-digits : goal.append_digits-requires-clause-digits
append_digits-requires-clause-digits c = subst (λ ds. All IsAsciiDigit ds) (sym c.split_digits.ensures.digits) (leading_are_digits c.args.text.now)

pub append_digits-requires-clause-room : goal.append_digits-requires-clause-room
append_digits-requires-clause-room c = room_for_one _ (omega arith)

pub append_digits-requires-2-clause-digits : goal.append_digits-requires-2-clause-digits
append_digits-requires-2-clause-digits c = subst (λ ds. All IsAsciiDigit ds) (sym c.in_ok-fraction.ensures.some.0) (fraction_are_digits c.split_digits.result.1.now)

pub append_digits-requires-2-clause-room : goal.append_digits-requires-2-clause-room
append_digits-requires-2-clause-room c =
    room_for_both c.append_digits.result (length c.split_digits.result.0.now) (length c.in_ok-fraction.fraction.now) c.append_digits.ensures.bound (omega arith)

pub returns-clause-some : goal.returns-clause-some
returns-clause-some c =
    let text = c.args.text.now in
    let whole = c.split_digits.ensures.digits in
    let fraction = c.in_ok-fraction.ensures.some.0 ∙ ap fraction_of c.split_digits.ensures.rest in
    let rest = c.in_ok-fraction.ensures.some.1 ∙ ap after_fraction c.split_digits.ensures.rest in
    let exponent = subst (λ t. IsExponent (exponent_of t)) rest c.in_ok-powers.ensures.some.0 in
    let powers = subst (λ t. ArePowersOf c.in_ok-powers.powers (exponent_of t)) rest c.in_ok-powers.ensures.some.1 in
    let some : 1 ≤ length c.split_digits.result.0.now = grind (arith, nat_tests) in
    let few : length c.split_digits.result.0.now + length c.in_ok-fraction.fraction.now ≤ 24 = omega arith in (
      decimal_from_scan text (omega (arith, ap length whole)) (omega (arith, ap length whole, ap length fraction)) exponent,
      value_from_scan text c.split_digits.result.0.now c.in_ok-fraction.fraction.now c.in_ok-powers.powers c.append_digits.result c.append_digits-2.result whole fraction c.append_digits.ensures.value c.append_digits-2.ensures.value powers,
    )
