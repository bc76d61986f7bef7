use Rattle.std.proofs.Common.{length, sym, arith}
use Rattle.std.proofs.lemmas.Bool.Decides.{nat_tests}
use Rattle.std.proofs.lemmas.List.Sums.{position_or_len_is}
use Rattle.sil_text.specs.Parts.{is_no_digit}
use Rattle.sil_text.proofs.scan.count_digits.Goals as goal

pub returns-then-not-is_ascii_digit-clause-place : goal.returns-then-not-is_ascii_digit-clause-place
returns-then-not-is_ascii_digit-clause-place c =
    sym (position_or_len_is is_no_digit c.args.text.now c.loop-place.place 0 (omega arith) c.loop-place.invariant (λ _. grind (arith, nat_tests)))

pub returns-clause-place : goal.returns-clause-place
returns-clause-place c =
    sym (position_or_len_is is_no_digit c.args.text.now (length c.args.text.now) 0 (omega arith) (λ k h. c.loop-place.invariant k (omega arith)) (λ h. absurd (omega arith)))
