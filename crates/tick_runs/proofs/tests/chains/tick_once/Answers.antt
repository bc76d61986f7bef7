use Rattle.std.proofs.Common.{◌≡◌, ℕ, ◌+◌, ◌<◌, List, length, get_or, arith, length-set}
use Rattle.std.proofs.lemmas.List.{get_or_read}
use Rattle.vector_laws.proofs.Masses.{place-le, sum-more}
use Rattle.tick_runs.proofs.tests.chains.tick_once.Goals as goal

pub overflow_add-index_mut : goal.overflow_add-index_mut
overflow_add-index_mut g c =
    let v : List ℕ = c.loop-i.vector.items in
    let i : ℕ = (get_or c.args.from.now c.loop-i.i-index (0, 0)).0 in
    let inside : i < length v = omega arith in
    let here : c.index_mut.result.now ≡ get_or v i 0 = get_or_read v i c.index_mut.result.now inside c.index_mut.ensures.value 0 in
    omega (arith, here, place-le v i, c.loop-i.invariant.mass)

pub loop-i-preserved : goal.loop-i-preserved
loop-i-preserved g c =
    let v : List ℕ = c.loop-i.vector.items in
    let i : ℕ = (get_or c.args.from.now c.loop-i.i-index (0, 0)).0 in
    let mass : ℕ = (get_or c.args.from.now c.loop-i.i-index (0, 0)).1 in
    let inside : i < length v = omega arith in
    let here : c.index_mut.result.now ≡ get_or v i 0 = get_or_read v i c.index_mut.result.now inside c.index_mut.ensures.value 0 in
    record {
      size = omega (arith, length-set v i (c.index_mut.result.now + mass), c.loop-i.invariant.size);
      mass = rw here (omega (arith, sum-more v i mass inside, c.loop-i.invariant.mass));
    }
