use Rattle.std.proofs.Common.{ℕ, get_or, ap, suc, sym, ◌∙◌, arith}
use Rattle.interval_fixed.specs.DotValue.{DotValue}
use Rattle.test_matrix.specs.Rows.{row_at}
use Rattle.test_matrix.proofs.Dots.{mass_of_no_dots, weigh_of_no_dots}
use Rattle.test_matrix.proofs.Numbers.{term_of_sum}
use Rattle.test_matrix.proofs.Products.{spread_sum_none, spread_sum_next, spread_mass_none, spread_mass_next}
use Rattle.vector_laws.proofs.Masses.{place-le}
use Rattle.test_matrix.proofs.spread.spread_all.Goals as goal

pub loop-i-init : goal.loop-i-init
loop-i-init g c = record {
  spread =
      λ f. spread_sum_none c.args.rows.now c.args.works.now c.args.settled.now c.args.failed.now c.args.v.now
      _ f (weigh_of_no_dots c.args.sums.now c.requires.empty f);
  mass = mass_of_no_dots c.args.sums.now c.requires.empty ∙ sym (spread_mass_none c.args.rows.now c.args.works.now c.args.v.now);
  number = λ j d h. omega (arith, ap (λ (d : DotValue). d.number) (c.requires.empty j d h));
  count = omega arith;
}

pub add_spread-requires-clause-first : goal.add_spread-requires-clause-first
add_spread-requires-clause-first g c = omega (arith, c.requires.mass, place-le c.args.v.now c.loop-i.i)

pub add_spread-requires-clause-second : goal.add_spread-requires-clause-second
add_spread-requires-clause-second g c = λ k h.
    let m : ℕ = get_or c.args.works.now c.loop-i.i 0 in
    omega (arith, term_of_sum (suc m) k (row_at c.args.rows.now m) h, c.requires.rows m (c.requires.tables.few c.loop-i.i (omega arith)))

pub add_spread-requires-clause-number : goal.add_spread-requires-clause-number
add_spread-requires-clause-number g c = λ j d h. omega (arith, c.loop-i.invariant.number j d h)

pub loop-i-preserved : goal.loop-i-preserved
loop-i-preserved g c = record {
  spread =
      λ f. spread_sum_next c.args.rows.now c.args.works.now c.args.settled.now c.args.failed.now c.args.v.now
      c.loop-i.i _ _ f (c.loop-i.invariant.spread f) (c.add_spread.ensures.spread f);
  mass = c.add_spread.ensures.mass ∙ rw c.loop-i.invariant.mass (spread_mass_next c.args.rows.now c.args.works.now c.args.v.now c.loop-i.i);
  number =
      λ j d h. omega (
        arith,
        c.loop-i.invariant.number j d (omega arith),
        c.add_spread.ensures.number j d (omega arith),
        c.requires.tables.few c.loop-i.i (omega arith),
      );
  count = omega (arith, c.loop-i.invariant.count, c.requires.tables.few c.loop-i.i (omega arith));
}
