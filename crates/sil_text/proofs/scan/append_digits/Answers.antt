use Rattle.std.proofs.Common.{◌+◌, ◌-◌, ◌*◌, length, get_or, arith, ap, sym, ◌∙◌}
use Rattle.sil_text.proofs.TenPowers.{room_for_digit}
use Rattle.sil_text.proofs.DigitRuns.{digits_value_more}
use Rattle.sil_text.proofs.scan.append_digits.Goals as goal

pub overflow_mul-appended : goal.overflow_mul-appended
overflow_mul-appended c = omega (arith, room_for_digit c.args.number c.loop-digit.appended c.loop-digit.digit-index (length c.args.digits.now) (omega arith) c.loop-digit.invariant.bound c.requires.room)

pub overflow_add-appended : goal.overflow_add-appended
overflow_add-appended c =
    omega (
      arith,
      room_for_digit c.args.number c.loop-digit.appended c.loop-digit.digit-index (length c.args.digits.now) (omega arith) c.loop-digit.invariant.bound c.requires.room,
      c.requires.digits c.loop-digit.digit-index 0 (omega arith),
    )

pub loop-digit-preserved : goal.loop-digit-preserved
loop-digit-preserved c =
    let digit = c.requires.digits c.loop-digit.digit-index 0 (omega arith) in
    record {
      value = ap (λ n. n * 10 + (get_or c.args.digits.now c.loop-digit.digit-index 0 - 48)) c.loop-digit.invariant.value
          ∙ sym (digits_value_more c.args.number c.args.digits.now c.loop-digit.digit-index (omega arith) digit);
      bound = omega (arith, room_for_digit c.args.number c.loop-digit.appended c.loop-digit.digit-index (length c.args.digits.now) (omega arith) c.loop-digit.invariant.bound c.requires.room);
    }
