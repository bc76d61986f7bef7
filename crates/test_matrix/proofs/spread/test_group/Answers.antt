use Rattle.std.proofs.Common.{◌≡◌, length, arith}
use Rattle.std.proofs.lemmas.List.{length-map}
use Rattle.test_matrix.specs.Spread.{sums_of}
use Rattle.test_matrix.proofs.Apply.{mass_within, encloses, loses, makes_nothing}
use Rattle.test_matrix.proofs.spread.test_group.Goals as goal

pub round_down-requires-clause-small : goal.round_down-requires-clause-small
round_down-requires-clause-small g c =
    omega (arith, c.spread_all.ensures.mass, mass_within c.args.rows.now c.args.works.now c.args.v.now c.requires.tables.few c.requires.rows, c.requires.mass)

pub returns-clause-encloses : goal.returns-clause-encloses
returns-clause-encloses g c = λ r small f.
    let same : length (sums_of c.spread_all.new.sums) ≡ length c.args.v.now = rw length-map (omega arith) in
    encloses c.args.rows.now c.args.works.now c.args.settled.now c.args.failed.now c.args.v.now (sums_of c.spread_all.new.sums) c.round_down.new.v
    c.requires.tables.few same c.round_down.ensures r small f (c.spread_all.ensures.spread f)

pub returns-clause-loses : goal.returns-clause-loses
returns-clause-loses g c =
    let same : length (sums_of c.spread_all.new.sums) ≡ length c.args.v.now = rw length-map (omega arith) in
    loses c.args.rows.now c.args.works.now c.args.settled.now c.args.failed.now c.args.v.now (sums_of c.spread_all.new.sums) c.round_down.new.v
    c.requires.tables.few same c.round_down.ensures c.spread_all.ensures.mass

pub returns-clause-kept : goal.returns-clause-kept
returns-clause-kept g c =
    let same : length (sums_of c.spread_all.new.sums) ≡ length c.args.v.now = rw length-map (omega arith) in
    makes_nothing c.args.rows.now c.args.works.now c.args.settled.now c.args.failed.now c.args.v.now (sums_of c.spread_all.new.sums) c.round_down.new.v
    c.requires.tables.few same c.round_down.ensures c.spread_all.ensures.mass c.requires.rows
