use Rattle.std.proofs.Common.{◌≡◌, ℕ, ◌<◌, arith, ap, refl, sym, ◌∙◌}
use Rattle.std.specs.Prelude.{Bool, false}
use Rattle.sil_model.specs.State.{FullState, is_up_of}
use Rattle.sil_model.specs.LoopValue.{LoopValue, groups_of}
use Rattle.sil_model.specs.Sizes.{states_of}
use Rattle.sil_model.specs.Counts.{counts_numbered}
use Rattle.count_laws.specs.SameCounts.{IsFull}
use Rattle.lumped_laws.specs.CountsOfState.{number_of_state}
use Rattle.lumped_laws.proofs.States.{counts-numbered, number-small}
use Rattle.test_matrix.proofs.Pushed.{each_more, one_longer}
use Rattle.test_matrix.proofs.tables.votes.Goals as goal

pub loop-i-preserved : goal.loop-i-preserved
loop-i-preserved c = record {
  as_many =
      one_longer (λ k (x : Bool). ℕ) c.loop-i.votes.items c.push.new.self.items c.loop-i.i c.is_up.result false c.loop-i.invariant.as_many
      c.in_ok-push.ensures.items;
  votes =
      each_more
      (λ k x. (s : FullState) → IsFull c.args.l.now.subsystems s → number_of_state c.args.l.now.subsystems s ≡ k → x ≡ is_up_of c.args.l.now.subsystems s)
      c.loop-i.votes.items c.push.new.self.items c.loop-i.i c.is_up.result false c.loop-i.invariant.as_many c.in_ok-push.ensures.items c.loop-i.invariant.votes
      (λ s full at. c.is_up.ensures s (
      sym (counts-numbered c.args.l.now.subsystems s full) ∙ ap (counts_numbered (groups_of c.args.l.now.subsystems)) at
      ∙ ap (λ (l : LoopValue). counts_numbered (groups_of l.subsystems) c.loop-i.i) (sym c.requires.space) ∙ sym c.counts_at.ensures.counts
      ));
}

pub returns : goal.returns
returns c = record {
  as_many = omega (arith, c.loop-i.invariant.as_many, c.size-size.ensures.size, ap (λ (l : LoopValue). states_of l.subsystems) c.requires.space);
  votes = λ s full.
      let small : number_of_state c.args.l.now.subsystems s < states_of c.args.l.now.subsystems = number-small c.args.l.now.subsystems s full in
      c.loop-i.invariant.votes (number_of_state c.args.l.now.subsystems s)
      (omega (arith, small, c.size-size.ensures.size, ap (λ (l : LoopValue). states_of l.subsystems) c.requires.space)) s full refl;
}
