use Rattle.std.proofs.Common.{◌≡◌, ℕ, suc, ◌+◌, ◌^◌, ◌<◌, ◌≤◌, length, vec_len, refl, arith}
use Rattle.std.proofs.Math.Nat.{pow-le-pow_right}
use Rattle.std.proofs.lemmas.Bool.{false≢true}
use Rattle.beat_ladder.specs.Powers.{MayServe}
use Rattle.beat_ladder.proofs.Rungs.{beats-le, may_close}
use Rattle.beat_ladder.proofs.Ladders.{one_rung, rung_more}
use Rattle.beat_ladder.proofs.ladder.Ladder.new.Goals as goal

-- fewer beats than those of the last rung
fewer : (e last beats : ℕ) → e < last + 1 → 2 ^ last ≤ beats → 2 ^ e ≤ beats
fewer e last beats h needed = let g : e ≤ last = omega arith in omega (arith, pow-le-pow_right {n = 2} (omega arith) {i = e} {j = last} g)

doubled : (e : ℕ) → 2 ^ (e + 1) ≡ 2 ^ e + 2 ^ e
doubled e = let n : e + 1 ≡ suc e = omega arith in rw n (omega arith)

pub loop-exponent-init : goal.loop-exponent-init
loop-exponent-init c = record {
  len = omega (arith, c.in_ok-push.ensures.len, c.in_ok-rungs.ensures.len);
  held = rw (c.in_ok-push.ensures.items, c.in_ok-rungs.ensures.items) (one_rung c.in_ok-one_beat.field-0 c.in_ok-one_beat.ensures);
  needed = omega arith;
}

pub loop-exponent-preserved : goal.loop-exponent-preserved
loop-exponent-preserved c =
    let which : c.index.result.now.exponent ≡ c.loop-exponent.exponent =
    rw (c.index.ensures) (c.loop-exponent.invariant.held.exponents c.loop-exponent.exponent c.index.result.now (omega arith)) in
    let next : c.in_ok-next.next.exponent ≡ length c.loop-exponent.rungs.items = omega (arith, c.in_ok-next.ensures, which) in
    record {
      len = omega (arith, c.in_ok-push-2.ensures.len, c.loop-exponent.invariant.len);
      held = rw c.in_ok-push-2.ensures.items (rung_more c.loop-exponent.rungs.items c.in_ok-next.next (omega arith) c.loop-exponent.invariant.held next
          (c.if-not-is_close.ensures.0 refl));
      needed = omega (arith, doubled c.loop-exponent.exponent, beats-le c.loop-exponent.exponent (omega arith));
    }

pub returns-then-beats-exponent-clause-short : goal.returns-then-beats-exponent-clause-short
returns-then-beats-exponent-clause-short c =
    λ e h. fewer e c.loop-exponent.exponent c.args.beats (omega (arith, c.loop-exponent.invariant.len)) c.loop-exponent.invariant.needed

pub returns-then-not-is_close-clause-short : goal.returns-then-not-is_close-clause-short
returns-then-not-is_close-clause-short c =
    λ e h. fewer e c.loop-exponent.exponent c.args.beats (omega (arith, c.loop-exponent.invariant.len)) c.loop-exponent.invariant.needed

pub returns-then-not-is_close-clause-full : goal.returns-then-not-is_close-clause-full
returns-then-not-is_close-clause-full c = λ h few may.
    let r = c.in_ok-next.next in
    let which : c.index.result.now.exponent ≡ c.loop-exponent.exponent =
    rw (c.index.ensures) (c.loop-exponent.invariant.held.exponents c.loop-exponent.exponent c.index.result.now (omega arith)) in
    let e : vec_len c.loop-exponent.rungs ≡ c.in_ok-next.next.exponent = omega (arith, c.loop-exponent.invariant.len, c.in_ok-next.ensures, which) in
    let m : MayServe c.in_ok-next.next.exponent = rw e at may in
    false≢true (c.if-not-is_close.ensures.1 (may_close r.exponent r.low r.numbers.items r.held r.tails.items r.tailed m))

pub returns-clause-short : goal.returns-clause-short
returns-clause-short c =
    λ e h. fewer e c.loop-exponent.exponent c.args.beats (omega (arith, c.loop-exponent.invariant.len)) c.loop-exponent.invariant.needed
