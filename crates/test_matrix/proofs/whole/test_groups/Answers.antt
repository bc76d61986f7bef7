use Rattle.std.proofs.Common.{ℕ, ◌≡◌, ◌+◌, ◌<◌, length, get_or, arith, sum}
use Rattle.sil_fraction.proofs.Laws.{le_refl}
use Rattle.std.specs.Prelude.{false}
use Rattle.test_matrix.specs.declared.places.GroupTables.{GroupTables}
use Rattle.test_calendar.specs.declared.groups.GroupTest.{GroupTest}
use Rattle.test_matrix.proofs.Lists.{hour_more, loss_more, count_more, none_yet}
use Rattle.test_matrix.proofs.whole.test_groups.Goals as goal

pub loop-test-init : goal.loop-test-init
loop-test-init g c = record {
  up = λ chance b f. rw none_yet (le_refl _);
  down = λ chance b f. rw none_yet (le_refl _);
  loses = λ lack h. omega arith;
  kept = omega arith;
  count = omega arith;
}

pub loop-test-preserved : goal.loop-test-preserved
loop-test-preserved g c =
    let e : GroupTest = record { group = 0; full = false } in
    let i : ℕ = c.loop-test.test-index in
    let t : GroupTables = c.index-groups-from.result in
    let at : t ≡ get_or c.args.groups.now (get_or c.args.tests.now i e).group t = rw c.from.ensures at c.index-groups-from.is in
    let h : i < length c.args.tests.now = c.loop-test-test.true in
    let k : (get_or c.args.tests.now i e).group < length c.args.groups.now = c.requires.exist i e h in
    record {
      up =
          λ chance b. hour_more c.args.groups.now c.args.tests.now i e t h k at c.args.up.now c.loop-test.up
          c.test_both.new.up c.test_both.ensures.up chance b (c.loop-test.invariant.up chance b);
      down =
          λ chance b. hour_more c.args.groups.now c.args.tests.now i e t h k at c.args.down.now c.loop-test.down
          c.test_both.new.down c.test_both.ensures.down chance b (c.loop-test.invariant.down chance b);
      loses =
          λ lack enough. loss_more c.args.groups.now c.args.tests.now i e t h k at lack (length c.loop-test.up)
          _ _ (sum c.loop-test.up + sum c.loop-test.down) _ enough (omega arith) (c.test_both.ensures.loses lack) (c.loop-test.invariant.loses lack enough);
      kept = omega (arith, c.test_both.ensures.kept, c.loop-test.invariant.kept);
      count = count_more i _ _ _ _ _ (omega arith) c.loop-test.invariant.count c.test_both.ensures.count;
    }

pub test_both-requires-clause-ready : goal.test_both-requires-clause-ready
test_both-requires-clause-ready g c =
    let none : GroupTest = record { group = 0; full = false } in
    let t : GroupTables = c.index-groups-from.result in
    let e : length c.loop-test.up ≡ length c.args.up.now = omega arith in
    let h : c.from.result < length c.args.groups.now = rw c.from.ensures (c.requires.exist c.loop-test.test-index none c.loop-test-test.true) in
    rw e (rw (← c.index-groups-from.is) at (c.requires.ready c.from.result t h))

pub returns-clause-loses : goal.returns-clause-loses
returns-clause-loses g c = λ lack enough.
    let all : c.loop-test.test-index ≡ length c.args.tests.now = omega arith in
    let same : length c.loop-test.up ≡ length c.args.up.now = omega arith in
    rw (all, same) at (c.loop-test.invariant.loses lack enough)
