use Rattle.std.proofs.Common.{◌≡◌, sum}
use Rattle.phase_separate.specs.Passes.{PassesAlong}
use Rattle.phase_separate.proofs.Phases.{at_end}
use Rattle.phase_separate.proofs.Separate.{separate}
use Rattle.phase_separate.proofs.phase.pass_ends.Goals as goal

pub returns-clause-later : goal.returns-clause-later
returns-clause-later g c =
    let begun : c.copy_from_slice.new.self.items ≡ c.args.start.now = c.copy_from_slice.ensures.items in
    let first : PassesAlong c.args.chain.now c.args.beats c.args.start.now c.pass_along.new.now.items = rw begun at c.pass_along.ensures.passes in
    let a : c.copy_from_slice-2.new.self ≡ c.pass_along.new.now.items = cc in
    let b : c.deref-2.result.now ≡ c.pass_along-2.new.now.items = cc in
    let all : c.sum_of.result ≡ sum c.args.start.now = c.sum_of.ensures in
    at_end c.args.chain.now (separate c.args.chain.now c.requires.valid c.requires.timed) c.args.beats c.requires.little c.args.start.now
    c.requires.start c.requires.mass c.pass_along.new.now.items c.pass_along-2.new.now.items c.lower.new.a first c.pass_along-2.ensures.passes
    (rw (all, a, b) at c.lower.ensures)
