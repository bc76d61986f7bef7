use Rattle.std.proofs.Common.{◌≡◌, arith}
use Rattle.std.proofs.lemmas.List.Elements.{All-push}
use Rattle.vector_laws.specs.Matrix.{Matrix}
use Rattle.phase_powers.proofs.matrices.Matrices.new.Goals as goal

pub loop-preserved : goal.loop-preserved
loop-preserved c = record {
  number = omega (arith, c.in_ok-push.ensures.len, c.loop.invariant.number);
  sizes = rw c.in_ok-push.ensures.items
      (All-push (λ (m : Matrix). m.size ≡ c.args.size) c.loop.scratch.items c.in_ok-new.field-0 c.loop.invariant.sizes c.in_ok-new.ensures.size);
}
