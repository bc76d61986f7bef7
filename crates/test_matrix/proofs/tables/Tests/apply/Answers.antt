use Rattle.std.proofs.Common.{ℕ, ◌*◌, ◌+◌, ◌<◌, ◌≤◌, length, get_or, arith}
use Rattle.std.proofs.Math.Nat.{mul-le-mul_left}
use Rattle.std.proofs.lemmas.List.Elements.{All-get_or}
use Rattle.sil_model.specs.LoopValue.{groups_of}
use Rattle.sil_model.specs.Sizes.{states_of}
use Rattle.test_calendar.specs.declared.groups.GroupTest.{GroupTest}
use Rattle.test_matrix.specs.Made.{AreAllTables, AreVotes}
use Rattle.test_matrix.proofs.Bounds.{after, least, most, loss}
use Rattle.test_matrix.proofs.tables.Tests.apply.Given as given
use Rattle.test_matrix.proofs.tables.Tests.apply.Goals as goal

module _ (g : given.Over) (c : goal.After-self-2-1 g) where
  tables : AreAllTables c.args.self.now.subsystems c.as_slice.result.now
  tables = rw (c.self.view_is, ← c.as_slice.ensures.value) at c.self.invariant.tables

  votes : AreVotes c.args.self.now.subsystems c.as_slice-2.result.now
  votes = rw (c.self.view_is, ← c.as_slice-2.ensures.value) at c.self.invariant.votes

  exist : (k : ℕ) (e : GroupTest) → k < length c.args.tests.now → (get_or c.args.tests.now k e).group < length c.as_slice.result.now
  exist k e h =
      omega (
        arith,
        tables.count,
        All-get_or (λ (t : GroupTest). t.group < length (groups_of c.args.self.now.subsystems)) c.args.tests.now k e h c.requires.exist,
      )

pub returns-clause-encloses : goal.returns-clause-encloses
returns-clause-encloses g c =
    after c.args.self.now.subsystems c.as_slice.result.now (tables g c) c.args.tests.now (exist g c) c.args.v.now
    c.requires.length c.test_hour.new.v c.test_hour.ensures.encloses

pub returns-clause-lo : goal.returns-clause-lo
returns-clause-lo g c =
    least c.args.self.now.subsystems c.as_slice.result.now (tables g c) c.args.tests.now (exist g c) c.args.v.now c.requires.length
    c.as_slice-2.result.now (votes g c) c.test_hour.result.lo c.test_hour.ensures.lo

pub returns-clause-hi : goal.returns-clause-hi
returns-clause-hi g c =
    most c.args.self.now.subsystems c.as_slice.result.now (tables g c) c.args.tests.now (exist g c) c.args.v.now c.requires.length
    c.as_slice-2.result.now (votes g c) c.test_hour.result.hi c.test_hour.ensures.hi

pub returns-clause-loss : goal.returns-clause-loss
returns-clause-loss g c =
    loss c.args.self.now.subsystems c.as_slice.result.now (tables g c) c.args.tests.now (exist g c) c.args.v.now
    c.requires.length c.test_hour.new.v c.test_hour.ensures.loses

pub returns-clause-width : goal.returns-clause-width
returns-clause-width g c = omega (arith, c.test_hour.ensures.width)

pub returns-clause-steps : goal.returns-clause-steps
returns-clause-steps g c =
    let few : length c.args.tests.now * (18 * length c.args.v.now) ≤ length c.args.tests.now * (18 * states_of c.args.self.now.subsystems + 200) =
    mul-le-mul_left (length c.args.tests.now) (omega (arith, c.requires.length)) in
    omega (arith, c.test_hour.ensures.count, few)
