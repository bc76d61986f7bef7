use Rattle.std.proofs.Common.{◌≡◌, ◌*◌, ◌<◌, length, get_or, sym, ap, ◌∙◌, arith, suc, sum}
use Rattle.std.proofs.lemmas.List.{length-map}
use Rattle.vector_laws.specs.Vectors.{weigh}
use Rattle.test_matrix.specs.Spread.{sums_of}
use Rattle.test_matrix.proofs.Products.{walk_none, spread_none, spread_nothing, mass_none, mass_next, spread_next, walk_next}
use Rattle.test_matrix.proofs.Dots.{sums_after, number_after}
use Rattle.test_matrix.proofs.spread.add_spread.Goals as goal

pub returns-then-x-eq0-clause-spread : goal.returns-then-x-eq0-clause-spread
returns-then-x-eq0-clause-spread g c = λ f. spread_nothing _ _ c.args.x c.if-x-eq0.true

pub loop-k-init : goal.loop-k-init
loop-k-init g c = record {
  at = walk_none _ _;
  below = c.requires.place;
  spread = λ f. spread_none _ _;
  number = λ j d h. omega arith;
  count = omega arith;
  mass = mass_none _ _ _;
}

pub loop-k-preserved : goal.loop-k-preserved
loop-k-preserved g c =
    let inside : c.loop-k.at < length c.loop-k.sums = c.loop-k.invariant.below in
    let below : c.loop-k.at < length (sums_of c.loop-k.sums) = rw length-map inside in
    let s : sums_of c.add_at.new.sums ≡ _ =
    sums_after c.loop-k.sums c.add_at.new.sums c.loop-k.at (c.args.x * get_or c.args.row.now c.loop-k.k 0) inside c.add_at.ensures.value in
    record {
      at = ap (λ i. get_or c.args.failed.now i 0) c.loop-k.invariant.at ∙ sym (walk_next c.args.failed.now c.loop-k.k c.args.place);
      below = let h : get_or c.args.failed.now c.loop-k.at 0 < length c.args.sums.now = c.requires.failed.below c.loop-k.at (omega arith) in omega arith;
      spread =
          λ f. ap (λ v. weigh v f) s
          ∙ spread_next c.args.row.now c.args.failed.now (sums_of c.args.sums.now) (sums_of c.loop-k.sums)
          c.loop-k.k c.loop-k.at c.args.place c.args.x below f c.loop-k.invariant.at (c.loop-k.invariant.spread f);
      number =
          λ j d h. omega (
            arith,
            c.loop-k.invariant.number j d (omega arith),
            number_after c.loop-k.sums c.add_at.new.sums c.loop-k.at (c.args.x * get_or c.args.row.now c.loop-k.k 0) inside c.add_at.ensures.value j d,
          );
      count = omega arith;
      mass =
          ap sum s ∙ mass_next c.args.row.now c.args.failed.now (sums_of c.args.sums.now) (sums_of c.loop-k.sums)
          c.loop-k.k c.loop-k.at c.args.place c.args.x below c.loop-k.invariant.mass;
    }

pub returns-clause-spread : goal.returns-clause-spread
returns-clause-spread g c = λ f. let e : c.loop-k.k ≡ suc c.args.works = omega arith in rw e at (c.loop-k.invariant.spread f)
