-- The laws of vectors, as they are cited by name.
use Rattle.std.specs.Prelude.{◌≡◌, ℕ, ◌+◌, ◌*◌, ◌/◌, ◌<◌, ◌≤◌, List, length, map, sum, slice_index, slice_set}
use Rattle.sil_fraction.specs.Fraction.{Fraction, ◌+ℚ◌, ◌*ℚ◌, ◌≤ℚ◌, whole}
use Rattle.sil_fraction.specs.Sum.{total_below}
use Rattle.sil_model.specs.Series.{Values}
use Rattle.vector_laws.specs.Vectors.{weigh}

-- each number of `out` is that of `sums` divided by P, rounded down
pub record AreFloors (P : ℕ) (sums out : List ℕ) : Type 0 where
  pub same_length : length out ≡ length sums
  pub floor : (k : ℕ) → k < length out → slice_index out k ≡ slice_index sums k / P

-- each number of `more` is that of `sums` and `a` times that of `v`
pub record IsSumWith (a : ℕ) (sums v more : List ℕ) : Type 0 where
  pub more_length : length more ≡ length v
  pub sums_length : length sums ≡ length v
  pub added : (k : ℕ) → k < length v → slice_index more k ≡ slice_index sums k + a * slice_index v k

-- what a vector weighs, by its values and by its numbers
pub record WeighLaws (v : List ℕ) : Type 0 where
  pub of_sums : (f g : Values ℕ) → weigh v (λ i. f i +ℚ g i) ≡ weigh v f +ℚ weigh v g
  pub scaled : (c : Fraction) (f : Values ℕ) → weigh v (λ i. c *ℚ f i) ≡ c *ℚ weigh v f
  pub exchanged : (n : ℕ) (g : ℕ → Values ℕ) → weigh v (λ i. total_below n (λ k. g k i)) ≡ total_below n (λ k. weigh v (g k))
  pub constant : (c : Fraction) → weigh v (λ i. c) ≡ whole (sum v) *ℚ c
  pub value_by_value : (f g : Values ℕ) → ((i : ℕ) → i < length v → f i ≤ℚ g i) → weigh v f ≤ℚ weigh v g
  pub number_by_number : (w : List ℕ) (f : Values ℕ) → length v ≡ length w → ((i : ℕ) → i < length v → slice_index v i ≤ slice_index w i)
      → weigh v f ≤ℚ weigh w f
  pub of_nothing : (f : Values ℕ) → sum v ≡ 0 → weigh v f ≡ whole 0
  pub one_more : (j y : ℕ) (f : Values ℕ) → j < length v → weigh (slice_set v j (slice_index v j + y)) f ≡ weigh v f +ℚ whole y *ℚ f j
  pub one_more_mass : (j y : ℕ) → j < length v → sum (slice_set v j (slice_index v j + y)) ≡ sum v + y
  pub scaled_numbers : (a : ℕ) (f : Values ℕ) → weigh (map (λ n. a * n) v) f ≡ whole a *ℚ weigh v f
  pub scaled_mass : (a : ℕ) → sum (map (λ n. a * n) v) ≡ a * sum v
  pub with_another : (a : ℕ) (w more : List ℕ) → IsSumWith a v w more → (f : Values ℕ) → weigh more f ≡ weigh v f +ℚ whole a *ℚ weigh w f
  pub mass_with_another : (a : ℕ) (w more : List ℕ) → IsSumWith a v w more → sum more ≡ sum v + a * sum w

-- floors weigh no more than what they are floors of, and lack less than one unit at each place
pub record FloorLaws (P : ℕ) (sums out : List ℕ) : Type 0 where
  pub weighed : (f : Values ℕ) → weigh out f *ℚ whole P ≤ℚ weigh sums f
  pub most : P * sum out ≤ sum sums
  pub least : sum sums ≤ P * sum out + P * length out
