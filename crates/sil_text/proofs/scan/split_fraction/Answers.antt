use Rattle.std.proofs.Common.{◌≡◌, ◌≢◌, ◌-◌, ◌<◌, ◌≤◌, length, get_or, take, drop, sym, ◌∙◌, arith}
use Rattle.std.proofs.lemmas.Grind.{common_steps}
use Rattle.std.proofs.lemmas.List.{take_rest}
use Rattle.sil_text.specs.Parts.{leading_digits}
use Rattle.sil_text.proofs.Scans.{fraction_at_point, fraction_elsewhere, after_fraction_elsewhere, after_fraction_at_point, point_alone}
use Rattle.sil_text.proofs.scan.split_fraction.Goals as goal
use Rattle.sil_text.proofs.scan.split_fraction.Goals.{in_default-via-then-text-lt1, in_default-via-else-text-lt1+in_default-1}

pub returns-then-is_empty-clause-none : goal.returns-then-is_empty-clause-none
returns-then-is_empty-clause-none c =
    let text = c.args.text.now in
    let first : get_or text 0 0 ≡ 46 = omega arith in
    let none : length (leading_digits (take (length text - 1) (drop 1 text))) ≡ 0 = grind (arith, common_steps) in
    point_alone text (take (length text - 1) (drop 1 text)) c.in-46.len_at_least first (take_rest text 1) none

pub returns-else-is_empty-clause-some : goal.returns-else-is_empty-clause-some
returns-else-is_empty-clause-some c =
    let text = c.args.text.now in
    let first : get_or text 0 0 ≡ 46 = omega arith in
    let some : 0 < length (leading_digits (take (length text - 1) (drop 1 text))) = grind (arith, common_steps) in (
      c.split_digits.ensures.digits ∙ sym (fraction_at_point text (take (length text - 1) (drop 1 text)) c.in-46.len_at_least first (take_rest text 1)),
      c.split_digits.ensures.rest ∙ sym (after_fraction_at_point text (take (length text - 1) (drop 1 text)) c.in-46.len_at_least first (take_rest text 1) some),
    )

pub returns-in_default-clause-some : goal.returns-in_default-clause-some
returns-in_default-clause-some c =
    let other : 1 ≤ length c.args.text.now → get_or c.args.text.now 0 0 ≢ 46 = λ some first. elim c.in_default.branch [
      | in_default-via-then-text-lt1 w ↦ absurd (grind (arith, common_steps))
      | in_default-via-else-text-lt1+in_default-1 w ↦ absurd (grind (arith, common_steps))
    ] in
    let none = fraction_elsewhere c.args.text.now other in
    (sym none, sym (after_fraction_elsewhere c.args.text.now none))
