use Rattle.std.proofs.Common.{◌≡◌, sym, ap, ◌∙◌, subst}
use Rattle.std.proofs.lemmas.Bool.{false≢true}
use Rattle.std.specs.Str.Parse.{digits_value}
use Rattle.sil_text.specs.Decimal.{AreExponentDigits, minus}
use Rattle.sil_text.specs.Parts.{sign_of, after_sign}
use Rattle.sil_text.proofs.Scans.{powers_of_minus, powers_of_others}
use Rattle.sil_text.proofs.scan.scan_powers.Goals as goal

pub returns-in_err-power-clause-none : goal.returns-in_err-power-clause-none
returns-in_err-power-clause-none c =
    let none : ¬ AreExponentDigits (after_sign c.args.text.now) =
    λ h. c.in_err-power.ensures.none (subst AreExponentDigits (sym c.split_sign-is_minus.ensures.rest) h) in
    rw c.from_residual.ensures none

pub returns-then-is_minus-clause-some : goal.returns-then-is_minus-clause-some
returns-then-is_minus-clause-some c =
    let digits = c.in_ok-power.ensures.some in
    let rest = c.split_sign-is_minus.ensures.rest in
    let sign = c.split_sign-is_minus.ensures.sign.0 c.if-is_minus.true in
    (subst AreExponentDigits rest digits.0, λ letter. powers_of_minus letter _ _ _ sign (digits.1 ∙ ap (digits_value 10) rest) digits.2)

pub returns-else-is_minus-clause-some : goal.returns-else-is_minus-clause-some
returns-else-is_minus-clause-some c =
    let digits = c.in_ok-power.ensures.some in
    let rest = c.split_sign-is_minus.ensures.rest in
    let sign = λ (is_minus : sign_of c.args.text.now ≡ minus). false≢true (sym c.if-is_minus.false ∙ c.split_sign-is_minus.ensures.sign.1 is_minus) in
    (subst AreExponentDigits rest digits.0, λ letter. powers_of_others letter _ _ _ sign (digits.1 ∙ ap (digits_value 10) rest) digits.2)
