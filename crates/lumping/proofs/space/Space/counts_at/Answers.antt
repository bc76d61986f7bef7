use Rattle.sil_model.specs.LoopValue.{groups_of}
use Rattle.sil_model.specs.Sizes.{states_of}
use Rattle.count_laws.proofs.Numbering.{counts_numbered-valid, number_of-counts_numbered}
use Rattle.lumping.proofs.space.Space.counts_at.Goals as goal

pub write_counts-requires-clause-number : goal.write_counts-requires-clause-number
unfolding states_of
write_counts-requires-clause-number c = rw (c.as_slice.ensures.value, c.self.invariant.groups, c.self.view_is) c.requires.number

pub returns-clause-valid : goal.returns-clause-valid
returns-clause-valid c =
    rw (c.write_counts.ensures, c.as_slice.ensures.value, c.self.invariant.groups, c.self.view_is) (counts_numbered-valid (groups_of c.args.self.now.subsystems) c.args.i)

pub returns-clause-back : goal.returns-clause-back
unfolding states_of
returns-clause-back c =
    rw (c.write_counts.ensures, c.as_slice.ensures.value, c.self.invariant.groups, c.self.view_is) (number_of-counts_numbered (groups_of c.args.self.now.subsystems) c.args.i c.requires.number)
