use Rattle.std.proofs.Common.{◌≡◌, arith, get_or, sym, ap, ◌∙◌}
use Rattle.std.proofs.lemmas.List.{get_or-map}
use Rattle.interval_fixed.specs.DotValue.{DotValue}
use Rattle.vector_laws.proofs.Masses.{place-le}
use Rattle.test_matrix.specs.Spread.{sums_of}
use Rattle.test_matrix.proofs.spread.round_down.Goals as goal

pub overflow_cast-v : goal.overflow_cast-v
overflow_cast-v c =
    let at : get_or (sums_of c.args.sums.now) c.loop-j.j 0 ≡ c.index-sums-j.result.sum =
    get_or-map (λ (d : DotValue). d.sum) c.args.sums.now c.loop-j.j c.index-sums-j.result 0 (omega arith) ∙ ap (λ (d : DotValue). d.sum) (sym c.index-sums-j.is) in
    omega (arith, at, place-le (sums_of c.args.sums.now) c.loop-j.j, c.requires.small, c.down.ensures.floor)
