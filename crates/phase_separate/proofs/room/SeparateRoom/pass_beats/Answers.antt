use Rattle.std.proofs.Common.{◌≡◌, ℕ, ◌<◌, List, length, replicate, slice_index, ap, ◌∙◌, arith}
use Rattle.std.proofs.Math.Nat.{mul-le-mul_left}
use Rattle.std.proofs.lemmas.List.{get_or-replicate, length-replicate, with_items_is}
use Rattle.std.specs.Vec.{with_items}
use Rattle.sil_model.specs.LoopValue.{LoopValue}
use Rattle.sil_model.specs.Sizes.{states_of}
use Rattle.phase_separate.specs.Ends.{IsAtEnd, IsSumOfStarts, IsDwelling}
use Rattle.phase_separate.specs.Subsystems.{loops_of}
use Rattle.phase_separate.proofs.Begun.{loops_at}
use Rattle.phase_separate.proofs.Phases.{phase_passes}
use Rattle.phase_separate.proofs.room.SeparateRoom.pass_beats.Goals as goal

pub dwell_all-requires-clause-mass : goal.dwell_all-requires-clause-mass
dwell_all-requires-clause-mass g c =
    let of : c.self.inside.of.value ≡ c.args.phase.now.chain.now.of = c.self.view_is ∙ c.requires.same in
    let states : states_of c.self.inside.of.value.subsystems ≡ states_of c.args.phase.now.chain.now.of.subsystems = ap (λ (l : LoopValue). states_of l.subsystems) of in
    let starts : IsSumOfStarts c.args.phase.now.chain.now c.args.phase.now.beats c.args.v.now c.lower_visited.new.visited = c.lower_visited.ensures.visited in
    let visited : c.as_slice-4.result.now ≡ c.lower_visited.new.visited =
    c.as_slice-4.ensures.value ∙ with_items_is (with_items c.self.inside.visited c.visit_all.new.visited) c.lower_visited.new.visited
    (omega (arith, starts.size, c.requires.v, states, c.self.invariant.visited)) in
    rw visited (omega (arith, starts.kept, mul-le-mul_left c.args.phase.now.beats c.requires.mass))

pub invariant_of-self : goal.invariant_of-self
invariant_of-self g c =
    let of : c.self.inside.of.value ≡ c.args.phase.now.chain.now.of = c.self.view_is ∙ c.requires.same in
    record {
      weights = c.self.invariant.weights;
      subsystems =
          rw of
          (ap loops_of (with_items_is (with_items c.self.inside.subsystems c.begin.new.subsystems) c.visit_all.new.subsystems
          (omega (arith, c.visit_all.auto.subsystems, c.begin.auto.subsystems, c.self.inside.subsystems.ok.0)) ∙ c.visit_all.ensures.subsystems)
          ∙ loops_at c.args.phase.now.chain.now c.args.phase.now.beats);
      buffers = rw (← of) at c.lower_visited.ensures.buffers;
      visited = c.self.invariant.visited;
      later = c.self.invariant.later;
    }

pub returns-clause-passes : goal.returns-clause-passes
returns-clause-passes g c =
    let zeros : List ℕ = replicate (states_of c.args.phase.now.chain.now.of.subsystems) 0 in
    let blank : length zeros ≡ states_of c.args.phase.now.chain.now.of.subsystems = length-replicate (states_of c.args.phase.now.chain.now.of.subsystems) 0 in
    let none : (k : ℕ) → k < length zeros → slice_index zeros k ≡ 0 =
    λ k h. get_or-replicate (states_of c.args.phase.now.chain.now.of.subsystems) k 0 0 (omega (arith, blank)) in
    let of : c.self.inside.of.value ≡ c.args.phase.now.chain.now.of = c.self.view_is ∙ c.requires.same in
    let states : states_of c.self.inside.of.value.subsystems ≡ states_of c.args.phase.now.chain.now.of.subsystems = ap (λ (l : LoopValue). states_of l.subsystems) of in
    let starts : IsSumOfStarts c.args.phase.now.chain.now c.args.phase.now.beats c.args.v.now c.lower_visited.new.visited = c.lower_visited.ensures.visited in
    let later : c.as_slice-3.result.now ≡ c.pass_ends.new.later =
    c.as_slice-3.ensures.value ∙ with_items_is c.self.inside.later c.pass_ends.new.later
    (omega (arith, c.pass_ends.auto.later, c.self.invariant.later)) in
    let copied : c.copy_from_slice.new.self ≡ c.pass_ends.new.later = c.copy_from_slice.ensures.after ∙ later in
    let end : IsAtEnd c.args.phase.now.chain.now c.args.phase.now.beats c.args.v.now c.copy_from_slice.new.self = rw copied c.pass_ends.ensures.later in
    let visited : c.as_slice-4.result.now ≡ c.lower_visited.new.visited =
    c.as_slice-4.ensures.value ∙ with_items_is (with_items c.self.inside.visited c.visit_all.new.visited) c.lower_visited.new.visited
    (omega (arith, starts.size, c.requires.v, states, c.self.invariant.visited)) in
    let dwelling : IsDwelling c.args.phase.now.chain.now c.args.phase.now.beats c.lower_visited.new.visited c.dwell_all.new.dwell = rw visited at c.dwell_all.ensures.dwell in
    phase_passes c.args.phase.now.chain.now c.args.phase.now.beats c.requires.little c.args.v.now c.copy_from_slice.new.self c.lower_visited.new.visited zeros c.dwell_all.new.dwell
    c.requires.mass (omega (arith, blank, c.requires.v)) none end starts dwelling
