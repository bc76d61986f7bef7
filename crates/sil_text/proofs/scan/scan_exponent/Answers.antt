use Rattle.std.proofs.Common.{◌≡◌, ◌⊎◌, get_or, arith, refl}
use Rattle.std.proofs.lemmas.Grind.{common_steps}
use Rattle.std.proofs.lemmas.List.{take_rest}
use Rattle.sil_text.proofs.Scans.{no_text, no_letter, exponent_from_powers, no_exponent_from_powers}
use Rattle.sil_text.proofs.scan.scan_exponent.Goals as goal

pub returns-in-empty-clause-some : goal.returns-in-empty-clause-some
returns-in-empty-clause-some c =
    let none = no_text c.args.text.now c.in-empty.len_below in
    rw none (tt, record { raised = refl; lowered = refl; raised_small = omega arith; lowered_small = omega arith })

pub returns-in-69-clause-some : goal.returns-in-69-clause-some
returns-in-69-clause-some c =
    let text = c.args.text.now in
    let letter : (get_or text 0 0 ≡ 69) ⊎ (get_or text 0 0 ≡ 101) = grind (arith, common_steps) in
    exponent_from_powers text _ c.scan_powers.result c.in-69.len_at_least (take_rest text 1) letter c.scan_powers.ensures.some

pub returns-in-69-clause-none : goal.returns-in-69-clause-none
returns-in-69-clause-none c =
    no_exponent_from_powers c.args.text.now _ c.scan_powers.result c.in-69.len_at_least (take_rest c.args.text.now 1) c.scan_powers.ensures.none

pub returns-in_default-clause-none : goal.returns-in_default-clause-none
returns-in_default-clause-none c =
    no_letter c.args.text.now c.in_default.len_at_least (λ capital. absurd (grind (arith, common_steps))) (λ small. absurd (grind (arith, common_steps)))
