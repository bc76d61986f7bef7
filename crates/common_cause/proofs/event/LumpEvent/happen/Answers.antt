use Rattle.std.proofs.Common.{◌≡◌, arith}
use Rattle.common_cause.specs.LumpedRates.{spans, counts_after}
use Rattle.common_cause.proofs.InLoop.{small-counts, after-valid}
use Rattle.common_cause.proofs.event.LumpEvent.happen.Goals as goal

pub move_together-requires-clause-small : goal.move_together-requires-clause-small
move_together-requires-clause-small c = small-counts c.requires.counts

pub move_in-requires-clause-room : goal.move_in-requires-clause-room
move_in-requires-clause-room c = omega (arith, small-counts c.requires.counts c.from-first.result c.args.self.now.to)

pub returns-then-self-clause-valid : goal.returns-then-self-clause-valid
returns-then-self-clause-valid c =
    let after : c.move_together.new.counts ≡ counts_after (spans c.args.l.now.subsystems) c.args.counts.now c.args.self.now =
    rw (c.if-self.true, c.groups.ensures.groups, ← c.from-first.ensures) c.move_together.ensures in
    rw after (after-valid c.args.l.now.subsystems c.args.counts.now c.args.self.now c.requires.event c.requires.counts.counts c.requires.happens)
