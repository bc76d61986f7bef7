-- Count vectors and events of a loop.
use Rattle.std.specs.Prelude.{ℕ, ◌+◌, ◌≤◌, ◌<◌, List, length, if◌then◌else◌}
use Rattle.sil_model.specs.LoopValue.{LoopValue, IsValid, groups_of}
use Rattle.sil_model.specs.Counts.{IsCounts}
use Rattle.sil_model.specs.declared.parts.Subsystem.{Subsystem}
use Rattle.common_cause.specs.declared.event.LumpEvent.{LumpEvent}
use Rattle.common_cause.specs.LumpedRates.{spans}

-- a count vector of a valid loop
pub record IsCountsOf (l : LoopValue) (cs : List ℕ) : Type 0 where
  pub valid : IsValid l
  pub counts : IsCounts (groups_of l.subsystems) cs

-- the groups of an event are groups of the loop
pub record IsInLoop (us : List Subsystem) (e : LumpEvent) : Type 0 where
  pub subsystem : e.subsystem < length us
  pub groups : e.group + (if e.whole then spans us e.subsystem else 1) ≤ length (groups_of us)
