-- Each text that is written is called for.
use Rattle.std.proofs.Common.{refl, sym, inl}
use Rattle.sil_top.proofs.Kept.{kept_written}
use Rattle.sil_top.proofs.Told.{under}
use Rattle.sil_top.proofs.run.Goals as goal

pub returns-in-Ok : goal.returns-in-Ok
returns-in-Ok g c =
    let answers = rw c.as_mut_slice.ensures.value at c.in-Ok.ensures in
    kept_written _ _ _ _ _ _ _ _ _ (under _ _ _ _ _ _ refl (sym c.deref.ensures.value) answers.answer) _ c.write_text.ensures _ answers

pub returns-in-Err-Usage : goal.returns-in-Err-Usage
returns-in-Err-Usage g c =
    let answers = rw (c.as_mut_slice.ensures.value, c.in-Err-Usage.field-0-is) at c.in-Err-Usage.ensures in
    kept_written _ _ _ _ _ _ _ _ _ (inl (record { status = refl; outside = answers.cause; printed = c.usage_text.ensures })) _
    c.write_text-in-Err-Usage.ensures _ answers

pub returns-in-Err-TooLong : goal.returns-in-Err-TooLong
returns-in-Err-TooLong g c =
    let answers = rw (c.as_mut_slice.ensures.value, c.in-Err-TooLong.field-0-is) at c.in-Err-TooLong.ensures in
    kept_written _ _ _ _ _ _ _ _ _ (under _ _ _ _ _ _ refl (sym c.too_long_text.ensures) answers.cause) _ c.write_text-in-Err-TooLong.ensures _ answers

pub returns-in-Err-Refused : goal.returns-in-Err-Refused
returns-in-Err-Refused g c =
    let answers = rw (c.as_mut_slice.ensures.value, c.in-Err-Refused.field-0-is) at c.in-Err-Refused.ensures in
    kept_written _ _ _ _ _ _ _ _ _ (under _ _ _ _ _ _ refl (sym c.deref-in-Err-Refused.ensures.value) answers.cause) _
    c.write_text-in-Err-Refused.ensures _ answers
