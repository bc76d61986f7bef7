use Rattle.std.proofs.Common.{length}
use Rattle.uniformise.specs.Beat.{beat_products}
use Rattle.phase_run.specs.Passes.{beat_products_in_blocks}
use Rattle.phase_run.proofs.OverPlaces.{products_of_tries}
use Rattle.phase_run.proofs.part.pass_part.Goals as goal

pub returns-clause-steps : goal.returns-clause-steps
returns-clause-steps g c =
    products_of_tries (beat_products_in_blocks c.reach.new.self.entries (length c.reach.new.self.places)) (beat_products c.args.chain.now.of.subsystems 16)
    c.args.ladder.now c.args.beats c.pass_over.result c.args.steps.now c.pass_over_few.new.steps c.pass_over.new.steps
    c.pass_over_few.ensures.steps c.pass_over_few.ensures.none c.pass_over.ensures.all c.pass_over.ensures.left (rw c.pass_over_few.ensures.reached at c.pass_over.ensures.steps)
