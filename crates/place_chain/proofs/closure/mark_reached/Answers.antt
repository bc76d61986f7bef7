use Rattle.std.proofs.Common.{◌≡◌, length}
use Rattle.place_chain.proofs.closure.mark_reached.Goals as goal

pub loop-init : goal.loop-init
loop-init c = record { kept = λ i e. e; least = λ P on has i e. has i e }

pub loop-preserved : goal.loop-preserved
loop-preserved c =
    let long : length c.mark_round.new.marks ≡ length c.loop.marks = c.mark_round.auto.marks in
    record {
      kept = λ i e. c.mark_round.ensures.kept i (c.loop.invariant.kept i e);
      least = λ P on has i e. c.mark_round.ensures.least P (rw long at on) (c.loop.invariant.least P (rw long at on) has) i e;
    }

pub returns-clause-least : goal.returns-clause-least
returns-clause-least c =
    let long : length c.mark_round.new.marks ≡ length c.loop.marks = c.mark_round.auto.marks in
    let first : length c.loop.marks ≡ length c.args.marks.now = c.loop.auto.marks in
    λ P on has i e. c.mark_round.ensures.least P (rw (← first) at on) (c.loop.invariant.least P (rw (← first) at on) has) i e
