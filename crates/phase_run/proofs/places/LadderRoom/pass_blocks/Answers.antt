use Rattle.std.proofs.Common.{◌≡◌, ◌+◌, ◌-◌, arith}
use Rattle.uniformise.specs.Beat.{IsStep, beat_products}
use Rattle.phase_run.specs.Passes.{block_beat_loss}
use Rattle.phase_run.proofs.OverPlaces.{blank}
use Rattle.phase_run.proofs.Parts.{passes_in_parts}
use Rattle.phase_run.proofs.Passes.{counted_more}
use Rattle.phase_run.proofs.places.LadderRoom.pass_blocks.Goals as goal

pub returns-clause-passes : goal.returns-clause-passes
returns-clause-passes g c =
    let early : c.pass_part-2.result ≡ 0 = c.pass_part-2.ensures.all (c.early_beats-early.ensures.some (omega arith)) in
    let later : c.pass_part-3.result ≡ 0 = c.pass_part-3.ensures.all (c.early_beats-early.ensures.some (omega arith)) in
    let first : c.early_beats-early.result - c.pass_part-2.result ≡ c.early_beats-early.result = omega arith in
    let second : c.args.beats - c.early_beats-early.result - c.pass_part-3.result ≡ c.args.beats - c.early_beats-early.result = omega arith in
    let all : c.args.beats - 0 ≡ c.early_beats-early.result + (c.args.beats - c.early_beats-early.result) = omega (arith, c.early_beats-early.ensures.few) in
    rw all (passes_in_parts (IsStep c.args.chain.now) 16 (block_beat_loss c.args.chain.now.of.subsystems)
    c.fill.new.self c.pass_part-3.new.dwell c.pass_part-2.new.dwell c.add_all.new.dwell (blank _ c.fill.new.self (c.fill.ensures.after (λ y e. e)))
    c.add_all.ensures c.early_beats-early.result (c.args.beats - c.early_beats-early.result) c.args.v.now c.pass_part-2.new.v c.pass_part-3.new.v
    c.args.dwell.now (rw first at c.pass_part-2.ensures.passes) (rw second at c.pass_part-3.ensures.passes))

pub returns-clause-steps : goal.returns-clause-steps
returns-clause-steps g c =
    let all : c.args.beats - 0 ≡ c.early_beats-early.result + (c.args.beats - c.early_beats-early.result) = omega (arith, c.early_beats-early.ensures.few) in
    let early : c.pass_part-2.result ≡ 0 = c.pass_part-2.ensures.all (c.early_beats-early.ensures.some (omega arith)) in
    let later : c.pass_part-3.result ≡ 0 = c.pass_part-3.ensures.all (c.early_beats-early.ensures.some (omega arith)) in
    let first : c.early_beats-early.result - c.pass_part-2.result ≡ c.early_beats-early.result = omega arith in
    let second : c.args.beats - c.early_beats-early.result - c.pass_part-3.result ≡ c.args.beats - c.early_beats-early.result = omega arith in
    rw all (counted_more c.args.steps.now c.pass_part-3.new.steps c.pass_part-2.new.steps c.early_beats-early.result (c.args.beats - c.early_beats-early.result)
    (beat_products c.args.chain.now.of.subsystems 16) (rw first at c.pass_part-2.ensures.steps) (rw second at c.pass_part-3.ensures.steps))
