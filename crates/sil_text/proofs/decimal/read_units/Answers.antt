use Rattle.std.proofs.Common.{ℕ, List, Err, subst}
use Rattle.sil_text.specs.declared.fault.TextFault.TheVariants.{NotDecimal}
use Rattle.sil_text.specs.Reading.{IsReading, IsNoDecimal}
use Rattle.sil_text.proofs.Readings.{reading_is, reading_from_value, no_parts}
use Rattle.sil_text.proofs.decimal.read_units.Goals as goal

in_some : (c : goal.After-units_of) → IsReading c.args.places c.args.greatest c.args.s.now c.units_of.result
in_some c =
    let Reads : List ℕ → Type 0 = λ t. IsReading c.args.places c.args.greatest t c.units_of.result in
    subst Reads c.as_bytes.ensures.value
    (reading_from_value c.args.places c.args.greatest c.as_bytes.result.now c.in-Some.scanned c.units_of.result c.in-Some.ensures.some.0 c.in-Some.ensures.some.1 c.units_of.ensures)

in_none : (c : goal.In-None) → IsNoDecimal c.args.s.now
in_none c = subst IsNoDecimal c.as_bytes.ensures.value (no_parts c.as_bytes.result.now c.in-None.ensures.none)

pub returns-in-Some-clause-reads : goal.returns-in-Some-clause-reads
returns-in-Some-clause-reads c = in_some c

pub returns-in-Some-clause-answer : goal.returns-in-Some-clause-answer
returns-in-Some-clause-answer c = reading_is c.args.places c.args.greatest c.args.s.now c.units_of.result (in_some c)

pub returns-in-None-clause-reads : goal.returns-in-None-clause-reads
returns-in-None-clause-reads c = in_none c

pub returns-in-None-clause-answer : goal.returns-in-None-clause-answer
returns-in-None-clause-answer c = reading_is c.args.places c.args.greatest c.args.s.now (Err NotDecimal) (in_none c)
