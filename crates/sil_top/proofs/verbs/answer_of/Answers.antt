-- Each verb's answer is that of the verb that is asked for; whether it reads a file is read off the table.
use Rattle.std.proofs.Common.{true, false, refl}
use Rattle.verb_table.specs.Table.{verb_table}
use Rattle.verb_table.specs.declared.verb.Verb.TheVariants.{Check, Size, Gen, Bench}
use Rattle.sil_top.proofs.FileRows.{at_verb}
use Rattle.sil_top.proofs.verbs.answer_of.Goals as goal

pub returns-in-Check : goal.returns-in-Check
unfolding verb_table
returns-in-Check g c = at_verb _ _ _ _ Check true c.in-Check.is refl c.report_of.ensures

pub returns-in-Size : goal.returns-in-Size
unfolding verb_table
returns-in-Size g c = at_verb _ _ _ _ Size true c.in-Size.is refl c.sizes_of.ensures

pub returns-in-Gen : goal.returns-in-Gen
unfolding verb_table
returns-in-Gen g c = at_verb _ _ _ _ Gen false c.in-Gen.is refl c.file_of.ensures

pub returns-in-Bench : goal.returns-in-Bench
unfolding verb_table
returns-in-Bench g c = at_verb _ _ _ _ Bench false c.in-Bench.is refl c.report_within.ensures
