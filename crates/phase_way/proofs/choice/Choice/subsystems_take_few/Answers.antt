use Rattle.std.proofs.Common.{◌*◌, ◌≤◌, ap, arith}
use Rattle.phase_way.proofs.Products.{few_products}
use Rattle.phase_way.proofs.choice.Choice.subsystems_take_few.Goals as goal

pub returns-then-products-beats-clause-few : goal.returns-then-products-beats-clause-few
returns-then-products-beats-clause-few c = λ t.
    let us = c.args.self.now.of.value.subsystems in
    let of = rw c.in-Some.is at c.requires.choice.extent in
    let products : c.products-products.result ≤ 2 * c.args.beats * c.args.self.now.states = c.if-products-beats.true in
    omega (
      arith,
      rw of.0 at c.products-products.ensures.value,
      products,
      ap (λ n. 2 * c.args.beats * n) c.requires.choice.states,
      few_products us c.args.self.now.order c.args.beats c.requires.choice.least,
    )
