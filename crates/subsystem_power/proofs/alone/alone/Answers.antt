use Rattle.std.proofs.Common.{◌≡◌, ◌∙◌}
use Rattle.sil_model.specs.LoopValue.{IsSubsystemInRange}
use Rattle.sil_model.specs.declared.parts.Subsystem.{Subsystem}
use Rattle.subsystem_power.proofs.Valid.{alone_valid}
use Rattle.subsystem_power.proofs.alone.alone.Goals as goal

pub new-requires : goal.new-requires
new-requires c =
    let u : Subsystem = c.subsystem-u.result.now in
    let name : c.in_ok-from_str.field-0 ≡ u.name = c.in_ok-from_str.ensures.keeps_bytes ∙ c.as_str.ensures in
    let range : IsSubsystemInRange u = rw (c.subsystem-u.ensures u) (c.mission.ensures.valid.subsystems c.args.i u c.requires) in
    rw (c.mission.ensures.mission, c.order.ensures, c.in_ok-push.ensures.items, c.in_ok-subsystems.ensures.items, name)
    (alone_valid c.args.l.now u c.mission.ensures.valid range)
