use Rattle.std.proofs.Common.{◌≡◌, ◌+◌, ◌-◌, ◌^◌, arith, sum}
use Rattle.test_matrix.specs.Halves.{mass_up}
use Rattle.test_matrix.specs.Hours.{hour_list}
use Rattle.test_matrix.proofs.Lists.{hour-const, hour-add}
use Rattle.test_matrix.proofs.Halves.{split_mass, whole_encloses, whole_least, whole_most, mass_after, sides}
use Rattle.test_matrix.proofs.whole.test_hour.Goals as goal

pub test_groups-requires-clause-mass : goal.test_groups-requires-clause-mass
test_groups-requires-clause-mass g c =
    omega (arith, c.requires.mass, split_mass c.args.is_up.now c.args.v.now c.split.new.v c.split.new.down c.split.ensures)

pub test_groups-requires-clause-ready : goal.test_groups-requires-clause-ready
test_groups-requires-clause-ready g c = rw c.split.ensures.room_kept c.requires.ready

pub close-requires-clause-mass : goal.close-requires-clause-mass
close-requires-clause-mass g c =
    omega (arith, c.requires.mass, c.test_groups.ensures.kept, split_mass c.args.is_up.now c.args.v.now c.split.new.v c.split.new.down c.split.ensures)

pub returns-clause-encloses : goal.returns-clause-encloses
returns-clause-encloses g c = λ chance below.
    whole_encloses c.args.is_up.now (hour_list chance c.args.groups.now c.args.tests.now)
    c.args.v.now c.split.new.v c.split.new.down c.test_groups.new.up c.test_groups.new.down c.close.new.up
    c.split.ensures c.close.ensures.joined (omega arith) (omega arith) (c.test_groups.ensures.up chance below) (c.test_groups.ensures.down chance below)

pub returns-clause-lo : goal.returns-clause-lo
returns-clause-lo g c = λ chance likely below.
    rw c.close.ensures.lo
    (whole_least c.args.is_up.now (hour_list chance c.args.groups.now c.args.tests.now)
    c.args.v.now c.split.new.v c.split.new.down c.test_groups.new.up c.test_groups.new.down c.close.new.up
    c.split.ensures c.close.ensures.joined (omega arith) (omega arith) (c.test_groups.ensures.up chance below) (c.test_groups.ensures.down chance below)
    (hour-const chance likely c.args.groups.now c.args.tests.now) (hour-add chance likely c.args.groups.now c.args.tests.now))

pub returns-clause-hi : goal.returns-clause-hi
returns-clause-hi g c = λ chance likely below.
    let stays : 2 ^ 48 - c.close.result.hi ≡ mass_up c.args.is_up.now c.test_groups.new.up + sum c.test_groups.new.down =
    omega (
      arith,
      c.close.ensures.hi,
      c.test_groups.ensures.kept,
      c.requires.mass,
      split_mass c.args.is_up.now c.args.v.now c.split.new.v c.split.new.down c.split.ensures,
      sides c.test_groups.new.up c.test_groups.new.down c.close.new.up c.close.ensures.joined c.args.is_up.now,
      mass_after c.test_groups.new.up c.test_groups.new.down c.close.new.up c.close.ensures.joined,
    ) in
    rw stays
    (whole_most c.args.is_up.now (hour_list chance c.args.groups.now c.args.tests.now)
    c.args.v.now c.split.new.v c.split.new.down c.test_groups.new.up c.test_groups.new.down c.close.new.up
    c.split.ensures c.close.ensures.joined (omega arith) (omega arith) (c.test_groups.ensures.up chance below) (c.test_groups.ensures.down chance below)
    (hour-const chance likely c.args.groups.now c.args.tests.now) (hour-add chance likely c.args.groups.now c.args.tests.now))

pub returns-clause-width : goal.returns-clause-width
returns-clause-width g c =
    omega (
      arith,
      c.close.ensures.lo,
      c.close.ensures.hi,
      c.test_groups.ensures.kept,
      c.requires.mass,
      split_mass c.args.is_up.now c.args.v.now c.split.new.v c.split.new.down c.split.ensures,
      sides c.test_groups.new.up c.test_groups.new.down c.close.new.up c.close.ensures.joined c.args.is_up.now,
      mass_after c.test_groups.new.up c.test_groups.new.down c.close.new.up c.close.ensures.joined,
    )

pub returns-clause-loses : goal.returns-clause-loses
returns-clause-loses g c = λ lack enough.
    let e = c.split.ensures.room_kept in
    omega (
      arith,
      rw e at (c.test_groups.ensures.loses lack enough),
      split_mass c.args.is_up.now c.args.v.now c.split.new.v c.split.new.down c.split.ensures,
      mass_after c.test_groups.new.up c.test_groups.new.down c.close.new.up c.close.ensures.joined,
    )

pub returns-clause-kept : goal.returns-clause-kept
returns-clause-kept g c =
    omega (
      arith,
      c.test_groups.ensures.kept,
      split_mass c.args.is_up.now c.args.v.now c.split.new.v c.split.new.down c.split.ensures,
      mass_after c.test_groups.new.up c.test_groups.new.down c.close.new.up c.close.ensures.joined,
    )
