use Rattle.std.proofs.Common.{◌+◌, ◌<◌, List, length, arith, ap, ◌∙◌}
use Rattle.sil_model.specs.declared.parts.Subsystem.{Subsystem}
use Rattle.sil_model.proofs.Groups.{groups-within}
use Rattle.channel_counts.proofs.Subsystems.{at_start, at_next, groups_within, in_range}
use Rattle.common_cause.proofs.Laws.{rates_lumped}
use Rattle.common_cause.proofs.Listed.{subsystems-start, subsystems-next, subsystems-end, length-events}
use Rattle.common_cause.proofs.list.events.Goals as goal

pub loop-i-init : goal.loop-i-init
loop-i-init c = record { left = rw c.new-events.ensures.items (subsystems-start c.args.l.now.subsystems); at = (0, at_start c.args.l.now.subsystems) }

pub push_groups-requires-clause-figures : goal.push_groups-requires-clause-figures
push_groups-requires-clause-figures c =
    (in_range c.args.l.now.subsystems c.len-i-end.ensures.valid.subsystems c.loop-i.i c.subsystem-u.result.now (omega arith)
    (c.subsystem-u.ensures c.subsystem-u.result.now)).figures

pub push_groups-requires-clause-few : goal.push_groups-requires-clause-few
push_groups-requires-clause-few c =
    let all = groups-within c.args.l.now c.len-i-end.ensures.valid in
    let within = groups_within c.args.l.now.subsystems c.loop-i.i c.loop-i.first (c.loop-i.invariant.at.0) c.subsystem-u.result.now
    c.subsystem-u.result.now (omega arith) (c.subsystem-u.ensures c.subsystem-u.result.now) (c.loop-i.invariant.at.1) in
    omega (arith, all.below, within, c.groups-groups.ensures.groups c.loop-i.i)

pub overflow_cast-first : goal.overflow_cast-first
overflow_cast-first c =
    let all = groups-within c.args.l.now c.len-i-end.ensures.valid in
    let within = groups_within c.args.l.now.subsystems c.loop-i.i c.loop-i.first (c.loop-i.invariant.at.0) c.subsystem-u.result.now
    c.subsystem-u.result.now (omega arith) (c.subsystem-u.ensures c.subsystem-u.result.now) (c.loop-i.invariant.at.1) in
    omega (arith, all.below, within)

pub push_common-requires : goal.push_common-requires
push_common-requires c = (in_range c.args.l.now.subsystems c.len-i-end.ensures.valid.subsystems c.loop-i.i c.subsystem-u.result.now (omega arith)
    (c.subsystem-u.ensures c.subsystem-u.result.now)).figures

pub overflow_add-first : goal.overflow_add-first
overflow_add-first c =
    let all = groups-within c.args.l.now c.len-i-end.ensures.valid in
    let within = groups_within c.args.l.now.subsystems c.loop-i.i c.loop-i.first (c.loop-i.invariant.at.0) c.subsystem-u.result.now
    c.subsystem-u.result.now (omega arith) (c.subsystem-u.ensures c.subsystem-u.result.now) (c.loop-i.invariant.at.1) in
    omega (arith, all.below, within, c.groups-groups.ensures.groups c.loop-i.i)

pub loop-i-preserved : goal.loop-i-preserved
loop-i-preserved c =
    let us : List Subsystem = c.args.l.now.subsystems in
    let u : Subsystem = c.subsystem-u.result.now in
    let inside : c.loop-i.i < length us = omega arith in
    record {
      left =
          subsystems-next us c.loop-i.i c.loop-i.first c.groups-groups.result u u c.loop-i.events.items c.push_groups.new.events.items
          c.push_common.new.events.items inside (c.subsystem-u.ensures u) c.loop-i.invariant.left
          (c.groups-groups.ensures.groups c.loop-i.i) c.in_ok-push_groups.ensures c.in_ok-push_common.ensures;
      at = (
        c.loop-i.invariant.at.0 + u.vote.n,
        rw (← c.groups-groups.ensures.groups c.loop-i.i) at (at_next us c.loop-i.i c.loop-i.first
            (c.loop-i.invariant.at.0) u u inside (c.subsystem-u.ensures u) (c.loop-i.invariant.at.1)),
      );
    }

pub returns-clause-listed : goal.returns-clause-listed
returns-clause-listed c = subsystems-end c.args.l.now.subsystems c.loop-i.i c.loop-i.first c.loop-i.events.items (omega arith) c.loop-i.invariant.left

pub returns-clause-number : goal.returns-clause-number
returns-clause-number c = ap length (subsystems-end c.args.l.now.subsystems c.loop-i.i c.loop-i.first c.loop-i.events.items (omega arith)
    c.loop-i.invariant.left) ∙ length-events c.args.l.now.subsystems

pub returns-clause-lumped_rates : goal.returns-clause-lumped_rates
returns-clause-lumped_rates c =
    rw (subsystems-end c.args.l.now.subsystems c.loop-i.i c.loop-i.first c.loop-i.events.items (omega arith) c.loop-i.invariant.left)
    (rates_lumped c.args.l.now.subsystems)
