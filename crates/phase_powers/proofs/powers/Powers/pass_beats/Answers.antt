use Rattle.std.proofs.Common.{◌≡◌, ℕ, ◌<◌, ◌≤◌, List, length, replicate, slice_index, ap, arith}
use Rattle.std.proofs.lemmas.List.{get_or-replicate, length-replicate}
use Rattle.sil_model.specs.Sizes.{states_of}
use Rattle.model_laws.proofs.Rates.{some_beats}
use Rattle.sil_model.specs.Budget.{beat_loss_of}
use Rattle.phase_run.specs.Passes.{Passes}
use Rattle.phase_powers.specs.Kept.{PowersValue}
use Rattle.phase_powers.specs.Pairs.{IsPhasePair}
use Rattle.phase_powers.proofs.Phases.{end_entries, dwell_sum_entries, phase_passes}
use Rattle.phase_powers.proofs.powers.Powers.pass_beats.Given.{Over}
use Rattle.phase_powers.proofs.powers.Powers.pass_beats.Goals as goal

pub pass-requires-clause-end_small : goal.pass-requires-clause-end_small
pass-requires-clause-end_small g c =
    let pair : IsPhasePair c.args.phase.now.chain.now c.args.phase.now.weights.now c.make_ready.new.self.end c.make_ready.new.self.dwell =
    rw c.make_ready.ensures.kept at c.make_ready.ensures.sound.kept_pair in
    end_entries c.args.phase.now.chain.now c.args.phase.now.weights.now c.make_ready.new.self.end c.make_ready.new.self.dwell pair

pub pass-requires-clause-dwell_small : goal.pass-requires-clause-dwell_small
pass-requires-clause-dwell_small g c =
    let pair : IsPhasePair c.args.phase.now.chain.now c.args.phase.now.weights.now c.make_ready.new.self.end c.make_ready.new.self.dwell =
    rw c.make_ready.ensures.kept at c.make_ready.ensures.sound.kept_pair in
    dwell_sum_entries c.args.phase.now.chain.now c.args.phase.now.weights.now c.make_ready.new.self.end c.make_ready.new.self.dwell pair c.beats.ensures.timed.few

module _ (g : Over) (c : goal.After-slice_known-5-1 g) where
  abbrev size : ℕ
  size = states_of c.args.phase.now.chain.now.of.subsystems

  abbrev zeros : List ℕ
  zeros = replicate size 0

  pair : IsPhasePair c.args.phase.now.chain.now c.args.phase.now.weights.now c.make_ready.new.self.end c.make_ready.new.self.dwell
  pair = rw c.make_ready.ensures.kept at c.make_ready.ensures.sound.kept_pair

  blank : length zeros ≡ size
  blank = length-replicate size 0

  none : (k : ℕ) → k < length zeros → slice_index zeros k ≡ 0
  none k h = get_or-replicate size k 0 0 (omega (arith, blank))

  some : 0 < c.args.phase.now.chain.now.beats
  some = omega (arith, some_beats c.args.phase.now.chain.now.of.subsystems c.args.phase.now.chain.now.hours, c.beats.ensures.timed.enough)

  few : size ≤ 64
  few = omega (arith, c.make_ready.ensures.sound.few, c.make_ready.ensures.size, ap (λ (p : PowersValue). p.size) c.self.view_is, c.requires.size)

  least : 16 ≤ c.args.phase.now.weights.now
  least = omega (arith, c.order.ensures.order, c.order.ensures.least)

  passes : Passes c.args.phase.now.chain.now c.args.phase.now.weights.now (beat_loss_of c.args.phase.now.chain.now.of.subsystems c.args.phase.now.weights.now) c.args.phase.now.chain.now.beats
      c.args.v.now c.pass.new.v zeros c.pass.new.dwelt
  passes =
      phase_passes c.args.phase.now.chain.now c.args.phase.now.weights.now c.make_ready.new.self.end c.make_ready.new.self.dwell pair c.args.v.now c.pass.new.v
      zeros c.pass.new.dwelt c.requires.v c.requires.mass c.pass.ensures.ends c.pass.ensures.dwells blank none few least some

pub returns-clause-passes : goal.returns-clause-passes
returns-clause-passes g c = rw c.requires.beats (passes g c)
