-- A subsystem of a valid loop is a valid loop for itself.
use Rattle.std.proofs.Common.{ℕ, zero, suc, ◌<◌, List, [], ◌∷◌, length, slice_index_or, arith}
use Rattle.sil_model.specs.LoopValue.{LoopValue, IsValid, IsSubsystemInRange}
use Rattle.sil_model.specs.declared.parts.Subsystem.{Subsystem}
use Rattle.subsystem_power.specs.Powers.{alone_of}

-- an element of a list that has one
pub some_of : {X : Type 0} (xs : List X) (i : ℕ) → i < length xs → X
some_of [] i h = absurd (omega arith)
some_of (x ∷ xs) i h = x

pub alone_valid : (l : LoopValue) (u : Subsystem) → IsValid l → IsSubsystemInRange u → IsValid (alone_of l u)
alone_valid l u valid range = record {
  mission = valid.mission;
  order = valid.order;
  few = record { above = omega arith; below = omega arith };
  subsystems = only;
  names = λ i j d before h. absurd (omega (arith, before, h));
}
  where
    only : (k : ℕ) (d : Subsystem) → k < length (u ∷ []) → IsSubsystemInRange (slice_index_or (u ∷ []) k d)
    only zero d h = range
    only (suc k) d h = absurd (omega arith)
