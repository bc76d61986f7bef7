use Rattle.std.proofs.Common.{◌≡◌, ℕ, List, get_or, arith}
use Rattle.std.specs.Prelude.{map}
use Rattle.product_chain.specs.declared.moves.TickRate.{TickRate}
use Rattle.product_chain.specs.declared.step.Step.{Step}
use Rattle.product_chain.specs.Columns.{step_of_move}
use Rattle.product_chain.proofs.Joins.{no_step}
use Rattle.product_chain.proofs.Turns.{moves-turn, known-turn, slow-turn, read-step}
use Rattle.product_chain.proofs.moves.push_moves.Goals as goal

pub loop-step-preserved : goal.loop-step-preserved
loop-step-preserved c =
    let i : ℕ = c.loop-step.step-index in
    let s : Step = get_or c.args.steps.now i no_step in
    let here : s ≡ get_or c.args.steps.now i s = read-step c.args.steps.now i c.loop-step-test.true in
    let before : List Step = map (step_of_move c.args.rates.now.items) c.args.moves.now.items in
    let rates : List TickRate = c.loop-step.rates.items in
    let more = c.in_ok-rate.ensures.more in
    record {
      steps =
          rw c.in_ok-push.ensures.items
          (moves-turn rates more.0 c.rate_number.new.rates.items c.loop-step.moves.items c.args.steps.now i c.in_ok-rate.rate s more.1
          c.loop-step.invariant.known c.loop-step-test.true here before c.loop-step.invariant.steps c.in_ok-rate.ensures.rate.0 c.in_ok-rate.ensures.rate.1);
      known =
          rw c.in_ok-push.ensures.items
          (known-turn rates more.0 c.rate_number.new.rates.items c.loop-step.moves.items c.args.steps.now i c.in_ok-rate.rate s more.1
          c.loop-step.invariant.known c.loop-step-test.true here c.in_ok-rate.ensures.number);
      slow = λ us all old.
          slow-turn rates more.0 c.rate_number.new.rates.items c.loop-step.moves.items c.args.steps.now i c.in_ok-rate.rate s more.1
          c.loop-step.invariant.known c.loop-step-test.true here us more.2 all (c.loop-step.invariant.slow us all old);
      numbered = c.in_ok-rate.ensures.numbered;
      few = omega arith;
    }
