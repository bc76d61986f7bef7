use Rattle.std.proofs.Common.{◌≡◌, ℕ, ◌<◌, List, length, replicate, slice_index, arith}
use Rattle.std.proofs.lemmas.List.{get_or-replicate, length-replicate}
use Rattle.sil_model.specs.Sizes.{states_of}
use Rattle.model_laws.proofs.Rates.{some_beats}
use Rattle.phase_run.proofs.Ends.{runs_phase}
use Rattle.phase_powers.proofs.run_phase_powered.Goals as goal

pub settle-requires-clause-some : goal.settle-requires-clause-some
settle-requires-clause-some g c = omega (
  arith,
  some_beats c.args.phase.now.chain.now.of.subsystems c.args.phase.now.chain.now.hours,
  c.beats.ensures.timed.enough,
  c.requires.beats,
)

pub returns-clause-runs : goal.returns-clause-runs
returns-clause-runs g c =
    let chain = c.args.phase.now.chain.now in
    let size : ℕ = states_of chain.of.subsystems in
    let zeros : List ℕ = replicate size 0 in
    let blank : length zeros ≡ size = length-replicate size 0 in
    let some : 0 < c.args.phase.now.beats = omega (arith, some_beats chain.of.subsystems chain.hours, c.beats.ensures.timed.enough, c.requires.beats) in
    let none : (k : ℕ) → k < length zeros → slice_index zeros k ≡ 0 = λ k h. get_or-replicate size k 0 0 (omega (arith, blank)) in
    runs_phase chain c.args.phase.now.weights.now c.args.phase.now.beats c.args.phase.now.hours some c.requires.beats c.requires.hours c.args.v.now
    c.pass_beats.new.v zeros c.pass_beats.new.dwell none c.pass_beats.ensures.passes c.settle.new.dwell c.settle.ensures.mean
    c.args.dwell_hours.now c.settle.new.dwell_hours c.settle.ensures.hours blank c.requires.dwell (omega arith)
