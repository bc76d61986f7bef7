use Rattle.tick_runs.proofs.Channels.{ticked, kept}
use Rattle.tick_runs.proofs.tests.blocks.ChannelTick.tick.Goals as goal

pub returns-clause-encloses : goal.returns-clause-encloses
returns-clause-encloses g c = rw (c.from.ensures, c.from-2.ensures) (ticked c.args.self.now.stays c.args.self.now.chance c.args.from.now c.args.to.now c.requires.from c.requires.to)

pub returns-clause-kept : goal.returns-clause-kept
returns-clause-kept g c = rw (c.from.ensures, c.from-2.ensures) (kept c.args.self.now.stays c.args.self.now.chance c.args.from.now c.args.to.now c.requires.from c.requires.to)
