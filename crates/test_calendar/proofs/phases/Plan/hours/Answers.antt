use Rattle.std.proofs.Common.{arith}
use Rattle.sil_model.specs.Calendar.{Phase}
use Rattle.test_calendar.proofs.phases.Plan.hours.Goals as goal

abbrev none : Phase
none = record { start = 0; hours = 0 }

pub overflow_sub-result : goal.overflow_sub-result
overflow_sub-result c = omega (arith, c.end.ensures.end none, c.start.ensures none)

pub returns-clause-some : goal.returns-clause-some
returns-clause-some c = omega (arith, c.end.ensures.end none, c.start.ensures none, (c.end.ensures.hours none).above)

pub returns-clause-few : goal.returns-clause-few
returns-clause-few c = omega (arith, c.end.ensures.end none, c.start.ensures none, (c.end.ensures.hours none).below)
