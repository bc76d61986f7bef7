-- What a phase loses where each subsystem passes its beats for itself.
use Rattle.std.specs.Prelude.{ℕ, ◌+◌, ◌*◌, ◌^◌, ◌<◌, ◌≤◌, List, length}
use Rattle.sil_model.specs.Sizes.{states_of}
use Rattle.sil_model.specs.declared.parts.Subsystem.{Subsystem}
use Rattle.uniformise.specs.Beat.{dwell_loss}
use Rattle.phase_run.specs.Passes.{block_beat_loss}
use Rattle.phase_separate.specs.Subsystems.{matrix_loss}

module _ (us : List Subsystem) (m : ℕ) where
  -- what the vectors of m beats and of sixteen more lack together, at most, for each beat that is summed
  abbrev pub vectors_lack : ℕ
  vectors_lack = 2 * m * matrix_loss us + 3 * (length us * states_of us) + 16 * matrix_loss us + 16 * (m + 16)

  -- the beats are so few, and so many, that they lose no more than beats in blocks may
  pub record LoseLittle : Type 0 where
    pub some : 0 < m
    pub few : m < 2 ^ 15
    pub lowered : states_of us * vectors_lack ≤ 2 ^ 46
    pub all : m * matrix_loss us + (length us + 2) * states_of us + 9 * m + dwell_loss us 16 ≤ m * block_beat_loss us
