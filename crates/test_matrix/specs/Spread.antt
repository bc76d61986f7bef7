-- What the tests of a group make of a vector, by tables of places.
use Rattle.std.specs.Prelude.{◌≡◌, ℕ, zero, suc, ◌*◌, ◌<◌, List, length, map, slice_index}
use Rattle.sil_fraction.specs.Fraction.{Fraction, ◌*ℚ◌, whole}
use Rattle.sil_fraction.specs.Sum.{total_below, sum_below}
use Rattle.sil_model.specs.Series.{Values}
use Rattle.interval_fixed.specs.DotValue.{DotValue}
use Rattle.test_matrix.specs.Rows.{by_chance, row_at}

-- the sums of several sums of products
abbrev pub sums_of : List DotValue → List ℕ
sums_of dots = map (λ (d : DotValue). d.sum) dots

-- numbers below size, as many
pub record ArePlaces (size : ℕ) (xs : List ℕ) : Type 0 where
  pub as_many : length xs ≡ size
  pub below : (i : ℕ) → i < size → slice_index xs i < size

-- tables of a group that fit vectors of the length size
pub record IsFit (size : ℕ) (works settled failed : List ℕ) : Type 0 where
  pub as_many : length works ≡ size
  pub few : (i : ℕ) → i < size → slice_index works i < 9
  pub settled_places : ArePlaces size settled
  pub failed_places : ArePlaces size failed

-- the place that k failures lead to, one after another
unfoldable pub walk : List ℕ → ℕ → ℕ → ℕ
walk failed zero place = place
walk failed (suc k) place = slice_index failed (walk failed k place)

-- what is expected of f after a group's tests, at each place: works says how many channels work there, and settled where
-- the tests leave the others
unfoldable pub group_list : Fraction → List ℕ → List ℕ → List ℕ → Values ℕ → Values ℕ
group_list r works settled failed f i = by_chance r (slice_index works i) (λ a b. f (walk failed b (slice_index settled i)))

module _ (rows : List (List ℕ)) (works : List ℕ) where
  -- the sums of products that the first n numbers of v become, weighed by f
  unfoldable pub spread_sum : ℕ → List ℕ → List ℕ → List ℕ → Values ℕ → Fraction
  spread_sum n settled failed v f =
      total_below n
      (λ i. whole (slice_index v i) *ℚ total_below (suc (slice_index works i))
      (λ k. whole (row_at rows (slice_index works i) k) *ℚ f (walk failed k (slice_index settled i))))

  -- and added up
  unfoldable pub spread_mass : ℕ → List ℕ → ℕ
  spread_mass n v = sum_below n (λ i. slice_index v i * sum_below (suc (slice_index works i)) (row_at rows (slice_index works i)))
