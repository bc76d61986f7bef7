use Rattle.std.proofs.Common.{◌≡◌, ◌+◌, ◌*◌, ◌^◌, length, get_or, refl, sym, ap, ◌∙◌, arith}
use Rattle.std.proofs.Math.Nat.{div-add-mod}
use Rattle.sil_fraction.specs.Sum.{sum_below}
use Rattle.sil_fraction.proofs.Sums.{sum-none}
use Rattle.loop_value.proofs.Places.{next_place}
use Rattle.loop_value.proofs.ends.entries.Goals as goal

pub loop-i-init : goal.loop-i-init
loop-i-init g c = record { products = c.new-sum.ensures.sum ∙ sym (sum-none _); number = c.new-sum.ensures.number; counted = omega arith }

pub loop-i-preserved : goal.loop-i-preserved
loop-i-preserved g c = record {
  products = c.add_product.ensures.sum ∙ ap (λ x. c.loop-i.sum.sum + get_or c.args.means.now c.loop-i.i 0 * x) c.from.ensures
      ∙ next_place c.loop-i.i (λ k. get_or c.args.means.now k 0 * get_or c.args.rates.now k 0) c.loop-i.sum.sum
      (get_or c.args.means.now c.loop-i.i 0 * get_or c.args.rates.now c.loop-i.i 0) c.loop-i.invariant.products refl;
  number = omega (arith, c.add_product.ensures.number, c.loop-i.invariant.number);
  counted = omega (arith, c.add_product.ensures.steps, c.loop-i.invariant.counted);
}

pub returns-clause-sum : goal.returns-clause-sum
returns-clause-sum g c =
    let e : c.loop-i.i ≡ length c.args.means.now = omega (arith, c.loop-i-test.false, c.loop-i.auto.i-end) in
    let all : c.loop-i.sum.sum ≡ sum_below (length c.args.means.now) (λ k. get_or c.args.means.now k 0 * get_or c.args.rates.now k 0) =
    c.loop-i.invariant.products ∙ ap (λ n. sum_below n (λ k. get_or c.args.means.now k 0 * get_or c.args.rates.now k 0)) e in
    omega (arith, all, c.add_product-3.ensures.sum, c.add_product-2.ensures.sum, div-add-mod c.args.more (2 ^ 48))
