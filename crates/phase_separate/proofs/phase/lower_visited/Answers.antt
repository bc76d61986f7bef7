use Rattle.std.proofs.Common.{◌≡◌, sum}
use Rattle.phase_separate.specs.Passes.{PassesAlong}
use Rattle.phase_separate.proofs.Phases.{sum_of_starts}
use Rattle.phase_separate.proofs.Separate.{separate}
use Rattle.phase_separate.proofs.phase.lower_visited.Goals as goal

pub returns-clause-visited : goal.returns-clause-visited
returns-clause-visited g c =
    let begun : c.copy_from_slice.new.self.items ≡ c.args.visited.now = c.copy_from_slice.ensures.items in
    let passed : PassesAlong c.args.chain.now 16 c.args.visited.now c.pass_along.new.now.items = rw begun at c.pass_along.ensures.passes in
    let z : c.deref.result.now ≡ c.pass_along.new.now.items = cc in
    let all : c.sum_of.result ≡ sum c.args.start.now = c.sum_of.ensures in
    let beats : c.from.result ≡ c.args.beats = c.from.ensures in
    sum_of_starts c.args.chain.now (separate c.args.chain.now c.requires.valid c.requires.timed) c.args.beats c.requires.little c.args.start.now
    c.requires.start c.requires.mass c.args.visited.now c.pass_along.new.now.items c.lower.new.a c.requires.visited passed
    (rw (all, z, beats) at c.lower.ensures)
