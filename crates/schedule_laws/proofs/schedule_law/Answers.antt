use Rattle.schedule_laws.proofs.ShortSchedules.{short_mission, short_phase, short_until}
use Rattle.schedule_laws.proofs.ScheduleHours.{hours_of_mission, hours_of_phase}
use Rattle.schedule_laws.proofs.Ends.{end-both}
use Rattle.schedule_laws.proofs.schedule_law.Goals as goal

pub returns : goal.returns
returns c = record {
  mission_short = short_mission;
  phase_short = short_phase;
  until_short = short_until;
  mission_hours = λ l v. hours_of_mission l;
  phase_hours = λ l v. hours_of_phase l;
  mission_whole = λ l v n done left e. end-both l.subsystems n left (short_mission l v done left e);
  phase_whole = λ l v p n done left e. end-both l.subsystems n left (short_phase l v p done left e);
  until_whole = λ l v p n done left e. end-both l.subsystems n left (short_until l v p done left e);
}
