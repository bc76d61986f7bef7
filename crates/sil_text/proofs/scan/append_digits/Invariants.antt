use Rattle.std.proofs.Common.{◌≡◌, ◌+◌, ◌*◌, ◌^◌, ◌≤◌, take}
use Rattle.std.specs.Str.Parse.{digits_value_after}
use Rattle.sil_text.proofs.scan.append_digits.Given as goal

abbrev pub invariant-loop-digit : goal.invariant-loop-digit
invariant-loop-digit l = record {
  value : l.appended ≡ digits_value_after 10 l.number (take l.digit-index l.digits);
  bound : l.appended + 1 ≤ (l.number + 1) * 10 ^ l.digit-index;
}
