use Rattle.sil_model.specs.LoopValue.{groups_of}
use Rattle.sil_model.specs.Sizes.{states_of}
use Rattle.count_laws.proofs.Numbering.{number_of-small, counts_numbered-number_of}
use Rattle.lumping.proofs.space.Space.rank.Goals as goal

pub returns-clause-below : goal.returns-clause-below
unfolding states_of
returns-clause-below c =
    rw (c.number_over.ensures, c.as_slice.ensures.value, c.self.invariant.groups, c.self.view_is) (number_of-small (groups_of c.args.self.now.subsystems) c.args.counts.now c.requires)

pub returns-clause-back : goal.returns-clause-back
returns-clause-back c =
    rw (c.number_over.ensures, c.as_slice.ensures.value, c.self.invariant.groups, c.self.view_is) (counts_numbered-number_of (groups_of c.args.self.now.subsystems) c.args.counts.now c.requires)
