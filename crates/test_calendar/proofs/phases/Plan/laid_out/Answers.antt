use Rattle.std.proofs.Common.{◌≡◌, ◌∙◌, ℕ, ◌<◌, List, length, ap, arith}
use Rattle.std.proofs.lemmas.List.{length-map}
use Rattle.std.specs.Prelude.{map}
use Rattle.sil_model.specs.Calendar.{phases_from, phases_of}
use Rattle.sil_model.specs.LoopValue.{LoopValue, IsValid}
use Rattle.schedule_laws.proofs.PhaseList.{length-phases}
use Rattle.schedule_laws.proofs.PhasesOfLoop.{phases_of_few}
use Rattle.test_calendar.specs.declared.hours.Stop.{Stop}
use Rattle.test_calendar.proofs.TestHours.{phases_found, lasting, tests_found, channels_found}
use Rattle.test_calendar.proofs.phases.Plan.laid_out.Goals as goal

-- as many test hours as phases but one, and no more phases than the mission has hours
few_stops : (l : LoopValue) → IsValid l → (mission : ℕ) (stops : List Stop) → phases_from mission 0 (map (λ (s : Stop). s.hour) stops) ≡ phases_of l → length stops < 350_400
few_stops l v mission stops same = omega (arith, ap length same, length-phases mission 0 (map (λ (s : Stop). s.hour) stops), length-map stops (λ (s : Stop). s.hour), phases_of_few l v, v.mission.below)

pub invariant_of-result : goal.invariant_of-result
invariant_of-result c = record {
  few = few_stops c.args.l.now c.mission-mission.ensures.valid c.mission-mission.result c.in_ok-stops.stops.items (phases_found c.args.l.now c.mission-mission.ensures.valid c.deref.result.now c.mission-mission.result (c.deref.ensures.value ∙ c.in_ok-plans.ensures) c.mission-mission.ensures.mission (map (λ (s : Stop). s.hour) c.in_ok-stops.stops.items) c.in_ok-stops.ensures.hours);
  phases = lasting c.args.l.now c.mission-mission.ensures.valid c.deref.result.now c.mission-mission.result (c.deref.ensures.value ∙ c.in_ok-plans.ensures) c.mission-mission.ensures.mission (map (λ (s : Stop). s.hour) c.in_ok-stops.stops.items) c.in_ok-stops.ensures.hours;
  stops = c.in_ok-stops.ensures.inside;
}

pub returns-clause-phases : goal.returns-clause-phases
returns-clause-phases c = phases_found c.args.l.now c.mission-mission.ensures.valid c.deref.result.now c.mission-mission.result (c.deref.ensures.value ∙ c.in_ok-plans.ensures) c.mission-mission.ensures.mission (map (λ (s : Stop). s.hour) c.in_ok-stops.stops.items) c.in_ok-stops.ensures.hours

pub returns-clause-tests : goal.returns-clause-tests
returns-clause-tests c = tests_found c.args.l.now c.mission-mission.ensures.valid c.deref.result.now c.mission-mission.result (c.deref.ensures.value ∙ c.in_ok-plans.ensures) c.mission-mission.ensures.mission (map (λ (s : Stop). s.hour) c.in_ok-stops.stops.items) c.in_ok-stops.ensures.hours _ c.in_ok-stops.ensures.tests

pub returns-clause-channels : goal.returns-clause-channels
returns-clause-channels c = channels_found c.args.l.now c.mission-mission.ensures.valid c.deref.result.now c.mission-mission.result (c.deref.ensures.value ∙ c.in_ok-plans.ensures) c.mission-mission.ensures.mission (map (λ (s : Stop). s.hour) c.in_ok-stops.stops.items) c.in_ok-stops.ensures.hours _ c.in_ok-stops.ensures.tests
