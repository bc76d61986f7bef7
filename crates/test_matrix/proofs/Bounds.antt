-- What the tests of an hour leave of a vector and what passes at them, against the tests of the channels.
use Rattle.std.proofs.Common.{◌≡◌, ℕ, ◌+◌, ◌-◌, ◌*◌, ◌^◌, ◌<◌, ◌≤◌, List, length, get_or, refl, arith, sum}
use Rattle.std.specs.Prelude.{Bool, false}
use Rattle.std.proofs.Math.Nat.{mul-le-mul_left}
use Rattle.sil_fraction.specs.Fraction.{Fraction, ◌-ℚ◌, ◌≤ℚ◌, whole}
use Rattle.vector_laws.proofs.Weighing.{weigh-same}
use Rattle.sil_model.specs.Series.{Values}
use Rattle.sil_model.specs.Sizes.{states_of}
use Rattle.sil_model.specs.declared.parts.Subsystem.{Subsystem}
use Rattle.test_calendar.specs.GroupTests.{spread_over}
use Rattle.test_calendar.specs.declared.groups.GroupTest.{GroupTest}
use Rattle.lumped_laws.specs.ValueLists.{test_list, passing}
use Rattle.vector_laws.specs.Vectors.{weigh, lack}
use Rattle.test_matrix.specs.Hours.{hour_list, passing_by, AreBelow, AreLikely, LackAtMost}
use Rattle.test_matrix.specs.Made.{AreAllTables, AreVotes}
use Rattle.test_matrix.specs.declared.places.GroupTables.{GroupTables}
use Rattle.test_matrix.proofs.Agree.{chance, are_below, are_likely, lack_little, test_list-is, passing-is}

module _ (us : List Subsystem) (groups : List GroupTables) (are : AreAllTables us groups) (tests : List GroupTest)
    (exist : (k : ℕ) (e : GroupTest) → k < length tests → (get_or tests k e).group < length groups)
    (v : List ℕ) (long : length v ≡ states_of us) where
  abbrev by_tables : Values ℕ → Values ℕ
  by_tables = hour_list (chance us groups are) groups tests

  after_bound : (w : List ℕ) (f : Values ℕ) → weigh w f ≤ℚ weigh v (by_tables f) → weigh w f ≤ℚ weigh v (test_list us (spread_over us tests) f)
  after_bound w f h =
      rw (weigh-same v (test_list us (spread_over us tests) f) (by_tables f) (λ i l. test_list-is us groups are tests exist f i (omega arith))) h

  -- no more is there afterwards than expected
  pub after : (w : List ℕ) → ((r : ℕ → Fraction) → AreBelow r groups → (f : Values ℕ) → weigh w f ≤ℚ weigh v (hour_list r groups tests f))
      → (f : Values ℕ) → weigh w f ≤ℚ weigh v (test_list us (spread_over us tests) f)
  after w h f = after_bound w f (h (chance us groups are) (are_below us groups are) f)

  module _ (ups : List Bool) (votes : AreVotes us ups) where
    abbrev up : ℕ → Bool
    up i = get_or ups i false

    passing_at : (i : ℕ) → i < length v → passing us (spread_over us tests) i ≡ passing_by up by_tables i
    passing_at i l = passing-is us groups are tests exist ups votes i (omega arith)

    -- no more has passed than expected
    pub least : (lo : ℕ) → ((r : ℕ → Fraction) → AreLikely r → AreBelow r groups → whole lo ≤ℚ weigh v (passing_by up (hour_list r groups tests)))
        → whole lo ≤ℚ weigh v (passing us (spread_over us tests))
    least lo h =
        rw (weigh-same v (passing us (spread_over us tests)) (passing_by up by_tables) passing_at)
        (h (chance us groups are) (are_likely us groups are) (are_below us groups are))

    -- and no more has not passed
    pub most : (hi : ℕ)
        → ((r : ℕ → Fraction) → AreLikely r → AreBelow r groups → whole (2 ^ 48 - hi) ≤ℚ weigh v (λ i. whole 1 -ℚ passing_by up (hour_list r groups tests) i))
        → whole (2 ^ 48 - hi) ≤ℚ weigh v (λ i. whole 1 -ℚ passing us (spread_over us tests) i)
    most hi h =
        rw (weigh-same v (λ i. whole 1 -ℚ passing us (spread_over us tests) i) (λ i. whole 1 -ℚ passing_by up by_tables i) (λ i l. rw (passing_at i l) refl))
        (h (chance us groups are) (are_likely us groups are) (are_below us groups are))

  -- little is lost
  pub loss : (w : List ℕ) → ((n : ℕ) → LackAtMost n groups → sum v ≤ sum w + length tests * (n + 2 * length v))
      → lack w ≤ lack v + length tests * (2 * (states_of us + 32))
  loss w h =
      let few : length tests * (44 + 2 * length v) ≤ length tests * (2 * (states_of us + 32)) = mul-le-mul_left (length tests) (omega arith) in
      omega (arith, h 44 (lack_little us groups are), few)
