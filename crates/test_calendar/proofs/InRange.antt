-- A subsystem of a valid loop is in its ranges.
use Rattle.std.proofs.Common.{◌≡◌, ℕ, ◌<◌, length, sym, subst}
use Rattle.std.specs.Prelude.{slice_index_or}
use Rattle.sil_model.specs.declared.parts.Subsystem.{Subsystem}
use Rattle.sil_model.specs.LoopValue.{LoopValue, IsValid, IsSubsystemInRange}

pub in_range : (l : LoopValue) → IsValid l → (i : ℕ) (u : Subsystem) → i < length l.subsystems → ((d : Subsystem) → u ≡ slice_index_or l.subsystems i d) → IsSubsystemInRange u
in_range l v i u h is = subst IsSubsystemInRange (sym (is u)) (v.subsystems i u h)
