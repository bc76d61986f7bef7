use Rattle.std.proofs.Common.{◌≡◌, ℕ, ◌<◌, length, slice_index, arith}
use Rattle.sil_model.specs.Budget.{beat_loss_of}
use Rattle.model_laws.proofs.Rates.{some_beats}
use Rattle.phase_run.specs.Passes.{Passes}
use Rattle.phase_run.proofs.Ends.{runs_phase}
use Rattle.phase_run.proofs.OverPlaces.{blank}
use Rattle.phase_run.proofs.Passes.{passes_joined, products_joined}
use Rattle.phase_run.proofs.by_ladder.run_phase_by_ladder.Goals as goal

pub settle-requires-clause-some : goal.settle-requires-clause-some
settle-requires-clause-some g c = omega (
  arith,
  some_beats c.args.phase.now.chain.now.of.subsystems c.args.phase.now.chain.now.hours,
  c.beats.ensures.timed.enough,
  c.requires.beats,
)

pub returns-clause-runs : goal.returns-clause-runs
returns-clause-runs g c =
    let chain = c.args.phase.now.chain.now in
    let order : ℕ = c.args.phase.now.weights.now in
    let beats : ℕ = c.args.phase.now.beats in
    let some : 0 < beats = omega (arith, some_beats chain.of.subsystems chain.hours, c.beats.ensures.timed.enough, c.requires.beats) in
    let none : (k : ℕ) → k < length c.fill.new.self → slice_index c.fill.new.self k ≡ 0 = blank _ c.fill.new.self (c.fill.ensures.after (λ y e. e)) in
    let passes : Passes chain order (beat_loss_of chain.of.subsystems order) beats c.args.v.now c.pass_beats.new.v c.fill.new.self c.pass_beats.new.dwell =
    passes_joined chain order beats c.pass_blocks-left.result (omega (arith, c.order.ensures.order, c.order.ensures.least))
    c.pass_blocks-left.ensures.left c.args.v.now c.pass_blocks-left.new.v c.pass_beats.new.v c.fill.new.self c.pass_blocks-left.new.dwell
    c.pass_beats.new.dwell c.pass_blocks-left.ensures.passes c.pass_beats.ensures.passes in
    runs_phase chain order beats c.args.phase.now.hours some c.requires.beats c.requires.hours c.args.v.now c.pass_beats.new.v c.fill.new.self
    c.pass_beats.new.dwell none passes c.settle.new.dwell c.settle.ensures.mean c.args.dwell_hours.now c.settle.new.dwell_hours c.settle.ensures.hours
    (omega (arith, c.fill.ensures.len, c.requires.mean)) c.requires.dwell (omega arith)

pub returns-clause-steps : goal.returns-clause-steps
returns-clause-steps g c =
    products_joined c.args.phase.now.chain.now c.args.phase.now.weights.now c.args.phase.now.beats c.pass_blocks-left.result
    (omega (arith, c.order.ensures.order, c.order.ensures.least)) c.pass_blocks-left.ensures.left c.args.steps.now c.pass_blocks-left.new.steps
    c.pass_beats.new.steps c.pass_blocks-left.ensures.steps c.pass_beats.ensures.steps
