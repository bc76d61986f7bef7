use Rattle.std.proofs.Common.{◌≡◌, ℕ, ◌<◌, false, get_or}
use Rattle.sil_text.specs.Parts.{is_no_digit}
use Rattle.sil_text.proofs.scan.count_digits.Given as goal

abbrev pub invariant-loop-place : goal.invariant-loop-place
invariant-loop-place l = (k : ℕ) → k < l.place → is_no_digit (get_or l.text k 0) ≡ false
