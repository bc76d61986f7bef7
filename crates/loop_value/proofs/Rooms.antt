-- The hours of a phase, and those before it, are within those of the mission.
use Rattle.std.proofs.Common.{ℕ, zero, suc, ◌+◌, ◌<◌, ◌≤◌, List, [], ◌∷◌, length, get_or, take, arith}
use Rattle.std.specs.Prelude.{sum_by}
use Rattle.std.proofs.lemmas.List.Sums.{sum_by-cons}
use Rattle.sil_model.specs.Calendar.{Phase, phases_of}
use Rattle.sil_model.specs.LoopValue.{LoopValue}
use Rattle.schedule_laws.proofs.PhasesOfLoop.{phases_of_fill}
use Rattle.mission_laws.specs.Losses.{hours_until}

-- a sum up to a place, and what stands there
until-and-at : (f : Phase → ℕ) (ps : List Phase) (p : ℕ) (d : Phase) → p < length ps → sum_by f (take p ps) + f (get_or ps p d) ≤ sum_by f ps
until-and-at f [] p d h = absurd (omega arith)
until-and-at f (x ∷ ps) zero d h = omega (arith, sum_by-cons f x ps)
until-and-at f (x ∷ ps) (suc p) d h =
    omega (arith, sum_by-cons f x ps, sum_by-cons f x (take p ps), until-and-at f ps p d (omega arith))

module _ (l : LoopValue) (p : ℕ) (d : Phase) (within : p < length (phases_of l)) where
  pub hours-within : hours_until l p + (get_or (phases_of l) p d).hours ≤ l.mission
  hours-within = omega (arith, until-and-at (λ (q : Phase). q.hours) (phases_of l) p d within, phases_of_fill l)
