use Rattle.std.proofs.Common.{arith}
use Rattle.phase_way.proofs.Products.{powered_value, powers_few}
use Rattle.phase_way.proofs.choice.Choice.products_by_powers.Goals as goal

pub overflow_mul-result-4 : goal.overflow_mul-result-4
overflow_mul-result-4 c = omega (arith, powers_few c.args.self.now.states c.products_of_beat.result c.args.digits c.requires.few c.products_of_beat.ensures.small c.requires.digits)

pub overflow_add-result : goal.overflow_add-result
overflow_add-result c = omega (arith, powers_few c.args.self.now.states c.products_of_beat.result c.args.digits c.requires.few c.products_of_beat.ensures.small c.requires.digits)

pub overflow_add-result-2 : goal.overflow_add-result-2
overflow_add-result-2 c = omega (arith, powers_few c.args.self.now.states c.products_of_beat.result c.args.digits c.requires.few c.products_of_beat.ensures.small c.requires.digits)

pub returns : goal.returns
returns c = powered_value c.args.self.now.of.value.subsystems c.args.self.now.order c.args.digits c.args.self.now.states c.products_of_beat.result
    c.requires.choice.states c.products_of_beat.ensures.value
