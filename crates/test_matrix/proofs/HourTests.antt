-- The group tests after a phase are those of the hour at which the next phase begins.
use Rattle.std.proofs.Common.{ℕ, [], get_or}
use Rattle.std.proofs.lemmas.List.{get_or-map}
use Rattle.sil_model.specs.LoopValue.{LoopValue}
use Rattle.sil_model.specs.Calendar.{test_hours_of, tests_at}
use Rattle.sil_model.specs.Figures.{no_phase}
use Rattle.test_calendar.specs.GroupTests.{group_tests_at}
use Rattle.schedule_laws.proofs.PhasesOfLoop.{next_start}
use Rattle.test_calendar.proofs.GroupNumbers.{group_tests_inside}
use Rattle.test_calendar.proofs.Spread.{spread_at}
use Rattle.test_matrix.specs.HourTests.{AreTestsOf, HourLaw}

pub tests_of_hour : (l : LoopValue) (t : ℕ) → AreTestsOf l.subsystems (group_tests_at l t) (tests_at l t)
tests_of_hour l t = record { exist = group_tests_inside l t; channels = spread_at l t }

pub after_phase : (l : LoopValue) → HourLaw l
after_phase l p h =
    rw (get_or-map (group_tests_at l) (test_hours_of l) p 0 [] h, next_start l p no_phase h)
    (tests_of_hour l (get_or (test_hours_of l) p 0))
