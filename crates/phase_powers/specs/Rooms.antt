-- Matrices with their room, which are those of the phase that they are kept of.
use Rattle.std.specs.Prelude.{◌≡◌, ◌≤◌, Option, Some, None, vec_len, All}
use Rattle.vector_laws.specs.Matrix.{Matrix}
use Rattle.phase_powers.specs.Kept.{PhaseValue}
use Rattle.phase_powers.specs.Pairs.{IsPhasePair}
use Rattle.phase_powers.specs.declared.matrices.Matrices.{Matrices}

abbrev pub AreKept : Option PhaseValue → Matrix → Matrix → Type 0
AreKept None end dwell = Unit {0}
AreKept (Some p) end dwell = IsPhasePair p.chain p.order end dwell

pub record AreMatrices (m : Matrices) : Type 0 where
  pub end_size : m.end.size ≡ vec_len m.row
  pub dwell_size : m.dwell.size ≡ vec_len m.row
  pub few : vec_len m.row ≤ 64
  pub four : vec_len m.scratch ≡ 4
  pub scratch_size : All (λ (s : Matrix). s.size ≡ vec_len m.row) m.scratch.items
  pub kept_pair : AreKept m.kept m.end m.dwell
