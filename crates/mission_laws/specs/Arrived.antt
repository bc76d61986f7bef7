-- What is expected of values at the start of a phase, and a vector that stands there.
use Rattle.std.specs.Prelude.{ℕ, zero, suc, ◌^◌, ◌≤◌, List, [], ◌∷◌}
use Rattle.sil_fraction.specs.Fraction.{◌*ℚ◌, ◌≤ℚ◌, whole, ratio}
use Rattle.sil_model.specs.Series.{Values}
use Rattle.sil_model.specs.Calendar.{Phase, phases_of, tests_at, beats_of}
use Rattle.sil_model.specs.LoopValue.{LoopValue}
use Rattle.sil_model.specs.declared.parts.Subsystem.{Subsystem}
use Rattle.lumped_laws.specs.ValueLists.{phase_list, phase_mean_list, test_list}
use Rattle.vector_laws.specs.Vectors.{weigh}

-- the beats of a phase of t hours, by the series up to the order n: what is expected after them, and on average during them
abbrev pub beats_list : List Subsystem → ℕ → ℕ → Values ℕ → Values ℕ
beats_list us n t = phase_list us n (ratio t (beats_of us t)) (beats_of us t)

abbrev pub beats_mean_list : List Subsystem → ℕ → ℕ → Values ℕ → Values ℕ
beats_mean_list us n t = phase_mean_list us n (ratio t (beats_of us t)) (beats_of us t)

module _ (l : LoopValue) (n : ℕ) where
  -- what is expected of values at the start of the phase p of these phases, from each number at the start of the first
  unfoldable pub expected_at : ℕ → List Phase → Values ℕ → Values ℕ
  expected_at zero phases f = f
  expected_at (suc p) [] f = f
  expected_at (suc p) (phase ∷ []) f = f
  expected_at (suc p) (phase ∷ (next ∷ more)) f =
      beats_list l.subsystems n phase.hours (test_list l.subsystems (tests_at l next.start) (expected_at p (next ∷ more) f))

-- a vector at the start of the phase p: by all values it weighs no more than was expected from the start of the mission
abbrev pub HasArrived : LoopValue → ℕ → ℕ → List ℕ → Type 0
HasArrived l order p v = (n : ℕ) → order ≤ n → (f : Values ℕ) → weigh v f ≤ℚ whole (2 ^ 48) *ℚ expected_at l n p (phases_of l) f 0
