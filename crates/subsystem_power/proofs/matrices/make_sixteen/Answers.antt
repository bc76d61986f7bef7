use Rattle.std.proofs.Common.{◌≡◌, ℕ, suc, ◌+◌, ◌^◌, ◌<◌, ◌∙◌, arith}
use Rattle.std.proofs.Math.Nat.{pow-suc}
use Rattle.std.proofs.lemmas.Nat.{pow_pos}
use Rattle.subsystem_power.proofs.matrices.make_sixteen.Goals as goal

pub loop-preserved : goal.loop-preserved
loop-preserved g c =
    let i = c.loop.invariant in
    let k : ℕ = c.loop.counter in
    let next : k + 1 ≡ suc k = omega arith in
    let twice : 2 ^ (k + 1) ≡ 2 ^ k + 2 ^ k = rw next (omega (arith, pow-suc 2 k)) in
    let some : 0 < 2 ^ k = pow_pos k in
    let made : c.swap.new.x ≡ c.follow.new.both = c.swap.ensures.x_after in
    record {
      sixteen = rw made (c.follow.ensures.size ∙ i.sixteen);
      product = rw c.swap.ensures.y_after i.sixteen;
      rows = rw made c.follow.ensures.rows;
      power = λ chain one. rw (made, twice) (c.follow.ensures.power chain (2 ^ k) (2 ^ k) some (i.power chain one) (i.power chain one));
      steps = omega (arith, rw i.sixteen at c.follow.ensures.steps, i.steps);
    }
