-- The chance of a fault at the tests of a group is that of its subsystem.
use Rattle.std.proofs.Common.{◌≡◌, ℕ, ◌<◌, length, get_or, sym, ap, ◌∙◌, arith}
use Rattle.std.proofs.lemmas.List.Elements.{All-get_or}
use Rattle.sil_fraction.specs.Fraction.{Fraction, ratio, whole}
use Rattle.sil_model.specs.LoopValue.{LoopValue, IsValid, groups_of}
use Rattle.sil_model.specs.declared.parts.Group.{Group}
use Rattle.sil_model.specs.declared.parts.Subsystem.{Subsystem}
use Rattle.sil_model.proofs.GroupBounds.{IsGroupFrom, groups-bounds}
use Rattle.lumped_laws.specs.GroupLaws.{IsOfGroup}
use Rattle.lumped_laws.proofs.GroupChannels.{group_laws}
use Rattle.test_matrix.specs.Made.{channels_at}
use Rattle.std.specs.Prelude.{List}

abbrev pub fault_of : Subsystem → Fraction
fault_of u = ratio u.figures.restart_fault 1_000_000

-- each group belongs to a subsystem
pub subsystem_inside : (l : LoopValue) → IsValid l → (g : ℕ) (x : Group) → g < length (groups_of l.subsystems) → x ≡ get_or (groups_of l.subsystems) g x
    → x.subsystem < length l.subsystems
subsystem_inside l v g x h e =
    let bounds : IsGroupFrom 0 l.subsystems (get_or (groups_of l.subsystems) g x) =
    All-get_or (IsGroupFrom 0 l.subsystems) (groups_of l.subsystems) g x h (groups-bounds l v) in
    omega (arith, ap (λ (y : Group). y.subsystem) e, bounds.subsystem)

pub fault_at : (us : List Subsystem) (g : ℕ) (x : Group) (u : Subsystem) → g < length (groups_of us) → x ≡ get_or (groups_of us) g x
    → u ≡ get_or us x.subsystem u
    → (channels_at us g).fault ≡ fault_of u
fault_at us g x u h e k =
    let own : IsOfGroup us (channels_at us g) (get_or (groups_of us) g x) =
    (group_laws us).channels g (record { first = 0; size = 0; fault = whole 0 }) x h in
    own.fault u ∙ ap (λ (y : Group). fault_of (get_or us y.subsystem u)) (sym e) ∙ ap fault_of (sym k)
