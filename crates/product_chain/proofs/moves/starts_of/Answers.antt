use Rattle.std.proofs.Common.{◌≡◌, arith}
use Rattle.product_chain.proofs.Parts.{starts-next, starts-all}
use Rattle.product_chain.proofs.moves.starts_of.Goals as goal

pub loop-j-preserved : goal.loop-j-preserved
loop-j-preserved c =
    starts-next c.args.moves.now c.loop-j.j c.loop-j.end c.end_of_target-end.result c.loop-j.starts.items c.push-in-loop-j.new.self.items
    c.loop-j.invariant c.in_ok-push-2.ensures.items c.requires.order
    c.end_of_target-end.ensures.rising c.end_of_target-end.ensures.within c.end_of_target-end.ensures.targets c.end_of_target-end.ensures.other

pub returns-clause-parts : goal.returns-clause-parts
returns-clause-parts c =
    let all : c.loop-j.j ≡ c.args.size = omega arith in
    starts-all c.args.moves.now c.args.size c.loop-j.end c.loop-j.starts.items (rw all at c.loop-j.invariant) c.requires.below
