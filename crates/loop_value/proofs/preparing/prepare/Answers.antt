use Rattle.std.proofs.Common.{◌≡◌, ◌<◌, ◌^◌, List, ℕ, length, replicate, set, ap, ◌∙◌, arith}
use Rattle.std.proofs.lemmas.List.{length-replicate, length-set}
use Rattle.sil_model.specs.LoopValue.{LoopValue}
use Rattle.sil_model.specs.Sizes.{states_of}
use Rattle.phase_way.specs.Rooms.{RoomsValue}
use Rattle.loop_value.specs.Mission.{HasReached}
use Rattle.loop_value.proofs.Starts.{reached_start}
use Rattle.loop_value.proofs.preparing.prepare.Goals as goal

as_many : (size states : ℕ) (xs : List ℕ) → size ≡ states → xs ≡ replicate size 0 → length xs ≡ states
as_many size states xs e h = ap (λ (ys : List ℕ). length ys) h ∙ length-replicate size 0 ∙ e

as_many_set : (size states : ℕ) (xs : List ℕ) → size ≡ states → xs ≡ set (replicate size 0) 0 (2 ^ 48) → length xs ≡ states
as_many_set size states xs e h =
    let zeros : List ℕ = replicate size 0 in
    ap (λ (ys : List ℕ). length ys) h ∙ length-set zeros 0 (2 ^ 48) ∙ length-replicate size 0 ∙ e

started : (l : LoopValue) (order size : ℕ) (dwell v : List ℕ) → 0 < size → dwell ≡ replicate size 0 → v ≡ set (replicate size 0) 0 (2 ^ 48) → HasReached l order 0 dwell v 0 0
started l order size dwell v some e h = rw (e, h) (reached_start size some l order)

pub returns-clause-ready : goal.returns-clause-ready
returns-clause-ready c =
    let states = c.size-size.ensures.size ∙ ap (λ (l : LoopValue). states_of l.subsystems) c.in_ok-space.ensures in
    record {
      rooms = ap (λ (r : RoomsValue). r.of) c.in_ok-rooms.ensures;
      tests = c.in_ok-tests.ensures;
      up_length = c.in_ok-up.ensures.length;
      up = c.in_ok-up.ensures.up;
      rates_length = c.in_ok-rates.ensures.length;
      rates = c.in_ok-rates.ensures.rates;
      rates_within = c.in_ok-rates.ensures.within;
      v = as_many_set c.size-size.result (states_of c.args.l.now.subsystems) c.in_ok-v.v.items states c.in_ok-v.ensures;
      mean = as_many c.size-size.result (states_of c.args.l.now.subsystems) c.in_ok-mean.mean.items states c.in_ok-mean.ensures;
      dwell = as_many c.size-size.result (states_of c.args.l.now.subsystems) c.in_ok-dwell.dwell.items states c.in_ok-dwell.ensures;
    }

pub returns-clause-start : goal.returns-clause-start
returns-clause-start c =
    started c.args.l.now c.args.order c.size-size.result c.in_ok-dwell.dwell.items c.in_ok-v.v.items (omega (arith, c.size-size.ensures.some)) c.in_ok-dwell.ensures c.in_ok-v.ensures
