use Rattle.std.proofs.Common.{arith, refl, sym, ◌∙◌}
use Rattle.lumping.proofs.Turns.{counts-turn, counts-end}
use Rattle.lumping.proofs.space.write_counts.Goals as goal

pub loop-g-preserved : goal.loop-g-preserved
loop-g-preserved c =
    counts-turn c.args.groups.now c.loop-g.counts c.copy_from_slice.new.self _ c.loop-g.g c.loop-g.rest c.shares-ways.result _ _ c.loop-g-test.true refl (omega arith) c.shares-ways.ensures.shares (c.copy_from_slice.ensures.after ∙ c.counts_in_group-of_group.ensures) c.loop-g.invariant

pub returns : goal.returns
returns c = sym (counts-end c.args.groups.now c.loop-g.counts c.loop-g.g c.loop-g.rest (omega arith) (omega arith)) ∙ c.loop-g.invariant
