use Rattle.std.proofs.Common.{◌≡◌, ◌+◌, get_or, refl, sym, arith}
use Rattle.std.specs.Prelude.{not}
use Rattle.sil_fraction.proofs.Sums.{sum-none}
use Rattle.test_matrix.specs.Halves.{number_if}
use Rattle.test_matrix.specs.Halves.{up_at}
use Rattle.test_matrix.proofs.Halves.{one_of_both}
use Rattle.vector_laws.proofs.Masses.{part-le}
use Rattle.test_matrix.proofs.Products.{next_part}
use Rattle.test_matrix.proofs.whole.sides.Goals as goal

pub loop-j-init : goal.loop-j-init
loop-j-init c = record { up = sym (sum-none _); down = sym (sum-none _); both = omega (arith, sum-none (λ k. get_or c.args.v.now k 0)) }

pub overflow_add-up : goal.overflow_add-up
overflow_add-up c =
    omega (
      arith,
      c.requires.mass,
      c.loop-j.invariant.both,
      c.counted-up.ensures,
      one_of_both (up_at c.args.is_up.now c.loop-j.j) (get_or c.args.v.now c.loop-j.j 0),
      part-le c.args.v.now c.loop-j.j (omega arith),
    )

pub overflow_add-down : goal.overflow_add-down
overflow_add-down c =
    omega (
      arith,
      c.requires.mass,
      c.loop-j.invariant.both,
      c.counted-down.ensures,
      one_of_both (up_at c.args.is_up.now c.loop-j.j) (get_or c.args.v.now c.loop-j.j 0),
      part-le c.args.v.now c.loop-j.j (omega arith),
    )

pub loop-j-preserved : goal.loop-j-preserved
loop-j-preserved c =
    let both : c.loop-j.down + c.loop-j.up + get_or c.args.v.now c.loop-j.j 0 ≡ _ =
    next_part c.loop-j.j (λ k. get_or c.args.v.now k 0) (c.loop-j.down + c.loop-j.up) (get_or c.args.v.now c.loop-j.j 0) c.loop-j.invariant.both refl in
    record {
      up =
          next_part c.loop-j.j (λ k. number_if (up_at c.args.is_up.now k) (get_or c.args.v.now k 0)) c.loop-j.up c.counted-up.result c.loop-j.invariant.up
          c.counted-up.ensures;
      down =
          next_part c.loop-j.j (λ k. number_if (not (up_at c.args.is_up.now k)) (get_or c.args.v.now k 0)) c.loop-j.down c.counted-down.result
          c.loop-j.invariant.down c.counted-down.ensures;
      both =
          omega (arith, both, c.counted-up.ensures, c.counted-down.ensures, one_of_both (up_at c.args.is_up.now c.loop-j.j) (get_or c.args.v.now c.loop-j.j 0));
    }
