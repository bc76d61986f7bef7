-- The tests of an hour, from the split of a vector to its two parts put together.
use Rattle.std.proofs.Common.{◌≡◌, ℕ, ◌+◌, ◌<◌, List, length, get_or, sym, ap, ◌∙◌, arith, sum}
use Rattle.std.specs.Prelude.{Bool, true, false, not}
use Rattle.sil_fraction.specs.Fraction.{Fraction, ◌+ℚ◌, ◌-ℚ◌, ◌*ℚ◌, ◌≤ℚ◌, whole}
use Rattle.sil_fraction.specs.Sum.{total_below}
use Rattle.sil_fraction.proofs.Sums.{below-same, sum-add, sum-same}
use Rattle.sil_model.specs.Series.{Values}
use Rattle.vector_laws.specs.Vectors.{weigh}
use Rattle.test_matrix.specs.Halves.{number_if}
use Rattle.test_matrix.specs.Halves.{up_at, IsSplit, IsJoined, mass_up, mass_down}
use Rattle.vector_laws.proofs.Masses.{sum_of}
use Rattle.test_matrix.specs.Hours.{passing_by}
use Rattle.test_matrix.proofs.Hour.{hour_encloses, passed_least, passed_most}

-- a number is on one side or the other
pub one_of_both : (b : Bool) (n : ℕ) → number_if (not b) n + number_if b n ≡ n
one_of_both true n = omega arith
one_of_both false n = omega arith

pub sides_mass : (ups : List Bool) (v : List ℕ) → mass_down ups v + mass_up ups v ≡ sum v
sides_mass ups v = sym (sum-add (length v) _ _) ∙ sum-same (length v) _ _ (λ j h. one_of_both (up_at ups j) (get_or v j 0)) ∙ sym (sum_of v)

-- a split keeps the mass
pub split_mass : (ups : List Bool) (v kept moved : List ℕ) → IsSplit ups v kept moved → sum kept + sum moved ≡ sum v
split_mass ups v kept moved is =
    rw (sum_of kept, sum_of moved, sum_of v, is.room_kept, is.room_moved) (
    sym (sum-add (length v) (λ i. get_or kept i 0) (λ i. get_or moved i 0))
    ∙ sum-same (length v) _ _ (λ i h. rw (is.at_up i h, is.at_down i h) (omega (arith, one_of_both (up_at ups i) (get_or v i 0))))
    )

-- and so do the two parts put together
module _ (first second w : List ℕ) (is : IsJoined first second w) where
  pub mass_after : sum first + sum second ≡ sum w
  mass_after =
      rw (sum_of first, sum_of second, sum_of w, is.room_first, is.room_second) (
      sym (sum-add (length w) (λ i. get_or first i 0) (λ i. get_or second i 0)) ∙ sum-same (length w) _ _ (λ i h. sym (is.sums i h))
      )

  -- what passes and what does not make the whole
  pub sides : (ups : List Bool) → mass_down ups first + (mass_up ups first + sum second) ≡ sum w
  sides ups = omega (arith, sides_mass ups first, mass_after)

-- an hour of tests P: v is split, both parts go through the tests, and are put together
module _ (ups : List Bool) (P : Values ℕ → Values ℕ) (v kept moved first second w : List ℕ)
    (split : IsSplit ups v kept moved) (joined : IsJoined first second w)
    (same_first : length first ≡ length v) (same_second : length second ≡ length v)
    (first_encloses : (f : Values ℕ) → weigh first f ≤ℚ weigh kept (P f))
    (second_encloses : (f : Values ℕ) → weigh second f ≤ℚ weigh moved (P f)) where
  abbrev S : ℕ
  S = length v

  abbrev at : List ℕ → ℕ → ℕ
  at xs i = get_or xs i 0

  same_whole : length w ≡ length v
  same_whole = omega (arith, joined.room_first, same_first)

  first_below : (f : Values ℕ) → total_below S (λ i. whole (at first i) *ℚ f i) ≤ℚ total_below S (λ i. whole (at kept i) *ℚ P f i)
  unfolding weigh
  first_below f = rw (same_first, split.room_kept) at (first_encloses f)

  second_below : (f : Values ℕ) → total_below S (λ i. whole (at second i) *ℚ f i) ≤ℚ total_below S (λ i. whole (at moved i) *ℚ P f i)
  unfolding weigh
  second_below f = rw (same_second, split.room_moved) at (second_encloses f)

  pub whole_encloses : (f : Values ℕ) → weigh w f ≤ℚ weigh v (P f)
  unfolding weigh
  whole_encloses f =
      let sums : total_below S (λ i. whole (at w i) *ℚ f i) ≡ total_below S (λ i. whole (at first i + at second i) *ℚ f i) =
      below-same S _ _ (λ i h. ap (λ n. whole n *ℚ f i) (joined.sums i (omega (arith, same_whole)))) in
      rw (same_whole, sums)
      (hour_encloses S (up_at ups) P (at v) (at kept) (at moved) (at first) (at second) split.at_up split.at_down first_below second_below f)

  module _ (constant : (x : Fraction) → P (λ j. x) ≡ (λ j. x)) (adds : (f g : Values ℕ) → P (λ j. f j +ℚ g j) ≡ (λ j. P f j +ℚ P g j)) where
    constant_at : (x : Fraction) (i : ℕ) → i < S → P (λ j. x) i ≡ x
    constant_at x i h = ap (λ (f : Values ℕ). f i) (constant x)

    adds_at : (f g : Values ℕ) (i : ℕ) → i < S → P (λ j. f j +ℚ g j) i ≡ P f i +ℚ P g i
    adds_at f g i h = ap (λ (f : Values ℕ). f i) (adds f g)

    pub whole_least : whole (mass_down ups first) ≤ℚ weigh v (passing_by (up_at ups) P)
    unfolding weigh
    whole_least =
        rw same_first
        (passed_least S (up_at ups) P (at v) (at kept) (at moved) (at first) (at second) split.at_up split.at_down first_below second_below constant_at adds_at)

    pub whole_most : whole (mass_up ups first + sum second) ≤ℚ weigh v (λ i. whole 1 -ℚ passing_by (up_at ups) P i)
    unfolding weigh
    whole_most =
        rw (sum_of second, same_first, same_second)
        (passed_most S (up_at ups) P (at v) (at kept) (at moved) (at first) (at second) split.at_up split.at_down first_below second_below constant_at adds_at)
