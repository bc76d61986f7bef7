use Rattle.std.proofs.Common.{arith}
use Rattle.sil_model.proofs.Groups.{groups-within}
use Rattle.channel_counts.proofs.Subsystems.{groups_within}
use Rattle.voting.proofs.Parts.{all-left, is-down, turn-left, turn-within, none-left}
use Rattle.voting.proofs.is_up.Goals as goal

pub loop-i-init : goal.loop-i-init
loop-i-init c = all-left c.args.l.now.subsystems c.args.counts.now

pub counting_in-requires-clause-inside : goal.counting_in-requires-clause-inside
counting_in-requires-clause-inside c =
    turn-within c.args.l.now.subsystems c.args.counts.now c.loop-i.i c.loop-i.first c.subsystem-u.result.now c.subsystem-u.result.now (omega arith)
    (c.subsystem-u.ensures c.subsystem-u.result.now) c.loop-i.invariant
    c.groups-groups.result (c.groups-groups.ensures.groups c.loop-i.i) c.requires

pub counting_in-requires-clause-few : goal.counting_in-requires-clause-few
counting_in-requires-clause-few c =
    let all = groups-within c.args.l.now c.len-i-end.ensures.valid in
    let within = groups_within c.args.l.now.subsystems c.loop-i.i c.loop-i.first c.loop-i.invariant.channel c.subsystem-u.result.now
    c.subsystem-u.result.now (omega arith) (c.subsystem-u.ensures c.subsystem-u.result.now) c.loop-i.invariant.at in
    omega (arith, all.below, within, c.groups-groups.ensures.groups c.loop-i.i)

pub returns-then-counting_in-from : goal.returns-then-counting_in-from
returns-then-counting_in-from c =
    is-down c.args.l.now.subsystems c.args.counts.now c.loop-i.i c.loop-i.first c.subsystem-u.result.now c.subsystem-u.result.now (omega arith)
    (c.subsystem-u.ensures c.subsystem-u.result.now) c.loop-i.invariant
    c.groups-groups.result c.counting_in.result (c.groups-groups.ensures.groups c.loop-i.i) c.counting_in.ensures (omega arith)

pub overflow_add-first : goal.overflow_add-first
overflow_add-first c =
    let all = groups-within c.args.l.now c.len-i-end.ensures.valid in
    let within = groups_within c.args.l.now.subsystems c.loop-i.i c.loop-i.first c.loop-i.invariant.channel c.subsystem-u.result.now
    c.subsystem-u.result.now (omega arith) (c.subsystem-u.ensures c.subsystem-u.result.now) c.loop-i.invariant.at in
    omega (arith, all.below, within, c.groups-groups.ensures.groups c.loop-i.i)

pub loop-i-preserved : goal.loop-i-preserved
loop-i-preserved c =
    turn-left c.args.l.now.subsystems c.args.counts.now c.loop-i.i c.loop-i.first c.subsystem-u.result.now c.subsystem-u.result.now (omega arith)
    (c.subsystem-u.ensures c.subsystem-u.result.now) c.loop-i.invariant
    c.groups-groups.result c.counting_in.result (c.groups-groups.ensures.groups c.loop-i.i) c.counting_in.ensures (omega arith)

pub returns : goal.returns
returns c = none-left c.args.l.now.subsystems c.args.counts.now c.loop-i.i c.loop-i.first (omega arith) c.loop-i.invariant
