use Rattle.std.proofs.Common.{◌≡◌, ℕ, ◌*◌, ◌^◌, ◌≤◌, length, get_or, arith}
use Rattle.std.proofs.lemmas.List.{take_all}
use Rattle.vector_laws.proofs.Masses.{place-le}
use Rattle.product_chain.specs.Columns.{given}
use Rattle.product_chain.proofs.Given.{given-small}
use Rattle.product_chain.proofs.gathering.given_down.Goals as goal

pub overflow_cast-result : goal.overflow_cast-result
overflow_cast-result g c =
    let small : (i : ℕ) → get_or c.args.from.now i 0 ≤ 2 ^ 48 = λ i. omega (arith, place-le c.args.from.now i, c.requires.mass) in
    let most : given (λ i. get_or c.args.from.now i 0) c.args.column.now ≤ length c.args.column.now * 2 ^ 96 =
    given-small (λ i. get_or c.args.from.now i 0) small c.args.column.now c.requires.weights in
    let sum : c.loop-entry.sum.sum ≡ given (λ i. get_or c.args.from.now i 0) c.args.column.now =
    rw (take_all c.loop-entry.entry-index c.args.column.now c.loop-entry-test.false) at c.loop-entry.invariant.sum in
    omega (arith, most, sum, c.down.ensures.floor, c.requires.few)
