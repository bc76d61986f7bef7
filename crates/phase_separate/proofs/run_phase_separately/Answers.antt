use Rattle.std.proofs.Common.{◌≡◌, ℕ, ◌<◌, ◌≤◌, List, length, replicate, slice_index, arith}
use Rattle.std.proofs.lemmas.List.{get_or-replicate, length-replicate}
use Rattle.sil_model.specs.Budget.{beat_loss_of}
use Rattle.sil_model.specs.Sizes.{states_of}
use Rattle.uniformise.specs.Beat.{IsStep}
use Rattle.phase_run.specs.Passes.{Passes, block_beat_loss}
use Rattle.phase_run.proofs.Ends.{runs_phase}
use Rattle.phase_run.proofs.Passes.{passes_raised, block_loss_within}
use Rattle.phase_separate.proofs.run_phase_separately.Goals as goal

pub returns-clause-runs : goal.returns-clause-runs
returns-clause-runs g c =
    let chain = c.args.phase.now.chain.now in
    let us = chain.of.subsystems in
    let order : ℕ = c.args.phase.now.weights.now in
    let beats : ℕ = c.args.phase.now.beats in
    let zeros : List ℕ = replicate (states_of us) 0 in
    let blank : length zeros ≡ states_of us = length-replicate (states_of us) 0 in
    let least : 16 ≤ order = omega (arith, c.order.ensures.order, c.order.ensures.least) in
    let none : (k : ℕ) → k < length zeros → slice_index zeros k ≡ 0 = λ k h. get_or-replicate (states_of us) k 0 0 (omega (arith, blank)) in
    let passes : Passes chain order (beat_loss_of us order) beats c.args.v.now c.pass_beats.new.v zeros c.pass_beats.new.dwell =
    passes_raised (IsStep chain) 16 order (block_beat_loss us) (beat_loss_of us order) beats c.args.v.now c.pass_beats.new.v zeros
    c.pass_beats.new.dwell least (block_loss_within us order least) c.pass_beats.ensures.passes in
    runs_phase chain order beats c.args.phase.now.hours c.requires.little.some c.requires.beats c.requires.hours c.args.v.now c.pass_beats.new.v
    zeros c.pass_beats.new.dwell none passes c.settle.new.dwell c.settle.ensures.mean c.args.dwell_hours.now c.settle.new.dwell_hours
    c.settle.ensures.hours blank c.requires.dwell (omega arith)
