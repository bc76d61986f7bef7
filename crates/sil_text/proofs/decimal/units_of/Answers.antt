use Rattle.std.proofs.Common.{ℕ, ◌+◌, ◌*◌, ◌^◌, Result, sym, subst, arith}
use Rattle.sil_text.specs.declared.fault.TextFault.{TextFault}
use Rattle.sil_text.specs.Reading.{IsCount}
use Rattle.sil_text.proofs.Readings.{count_from_product}
use Rattle.sil_text.proofs.TenPowers.{lowered, lowered_back}
use Rattle.sil_text.proofs.decimal.units_of.Goals as goal

pub returns-then-raised-scanned : goal.returns-then-raised-scanned
returns-then-raised-scanned c =
    let r = c.args.scanned.raised + c.args.places in
    let Counts : Result ℕ TextFault → Type 0 = λ a. IsCount (c.args.scanned.number * 10 ^ r) (10 ^ c.args.scanned.lowered) c.args.greatest a in
    subst Counts (sym c.ok_or.ensures.value)
    (count_from_product c.multiplied_by_tens.result c.args.scanned.number r c.args.scanned.lowered c.args.greatest (omega arith) c.multiplied_by_tens.ensures)

pub returns-in_default : goal.returns-in_default
returns-in_default c = λ units e.
    c.in_default.ensures.none units (lowered_back c.args.scanned.number units (c.args.scanned.raised + c.args.places) c.args.scanned.lowered (omega arith) e)

pub returns-then-units-greatest : goal.returns-then-units-greatest
returns-then-units-greatest c =
    (c.in-Some.units, lowered c.args.scanned.number c.in-Some.units (c.args.scanned.raised + c.args.places) c.args.scanned.lowered (omega arith) c.in-Some.ensures.some, omega arith)

pub returns : goal.returns
returns c =
    (lowered c.args.scanned.number c.in-Some.units (c.args.scanned.raised + c.args.places) c.args.scanned.lowered (omega arith) c.in-Some.ensures.some, omega arith)
