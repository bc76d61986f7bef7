-- The rows of a matrix, by their entries.
use Rattle.std.proofs.Common.{◌≡◌, ℕ, ◌+◌, ◌^◌, ◌<◌, ◌≤◌, length, get_or, slice_index, sum, List, sym, ap, ◌∙◌, arith}
use Rattle.std.proofs.lemmas.Grind.{same_number_lists}
use Rattle.std.proofs.lemmas.List.FromFn.{get_or-map-range_with_len, length-map-range_with_len}
use Rattle.sil_fraction.specs.Fraction.{Fraction, ◌*ℚ◌, ◌≤ℚ◌, whole}
use Rattle.sil_fraction.specs.Sum.{total_below, sum_below}
use Rattle.sil_fraction.proofs.Sums.{below-same, sum-same}
use Rattle.sil_model.specs.Series.{Values}
use Rattle.vector_laws.specs.Vectors.{weigh}
use Rattle.vector_laws.proofs.Masses.{sum_of}
use Rattle.vector_laws.proofs.Weighing.{weigh-below}
use Rattle.vector_laws.specs.Matrix.{Matrix, entry_of}
use Rattle.vector_laws.specs.Rows.{row_of, IsBelowOperator, EachRowAtMost, EachRowNear}

module _ (m : Matrix) (i : ℕ) where
  -- the sum of the row, and what it weighs
  abbrev pub row_sum : ℕ
  row_sum = sum_below m.size (entry_of m i)

  abbrev pub row_weight : Values ℕ → Fraction
  row_weight f = total_below m.size (λ j. whole (entry_of m i j) *ℚ f j)

  pub length-row_of : length (row_of m i) ≡ m.size
  unfolding row_of
  length-row_of = length-map-range_with_len (entry_of m i) 0 m.size

  pub row_of-at : (j : ℕ) → j < m.size → get_or (row_of m i) j 0 ≡ entry_of m i j
  unfolding row_of
  row_of-at j h = get_or-map-range_with_len (entry_of m i) 0 m.size j j 0 h (omega arith)

  pub sum-row_of : sum (row_of m i) ≡ row_sum
  sum-row_of = sum_of (row_of m i) ∙ rw length-row_of (sum-same m.size _ _ row_of-at)

  pub weigh-row_of : (f : Values ℕ) → weigh (row_of m i) f ≡ row_weight f
  weigh-row_of f = weigh-below (row_of m i) f ∙ rw length-row_of (below-same m.size _ _ (λ j h. ap (λ n. whole n *ℚ f j) (row_of-at j h)))

-- a row is known by its entries
pub row_is : (m : Matrix) (i : ℕ) (row : List ℕ) → length row ≡ m.size → ((j : ℕ) → j < m.size → entry_of m i j ≡ slice_index row j) → row_of m i ≡ row
row_is m i row long h = same_number_lists (row_of m i) row (length-row_of m i ∙ sym long)
    (λ j p. let inside : j < m.size = omega (arith, length-row_of m i) in row_of-at m i j inside ∙ h j inside)

pub same_row : (m n : Matrix) (i : ℕ) → m.size ≡ n.size → ((j : ℕ) → j < m.size → entry_of m i j ≡ entry_of n i j) → row_of m i ≡ row_of n i
same_row m n i size h = row_is m i (row_of n i) (length-row_of n i ∙ sym size)
    (λ j p. h j p ∙ sym (row_of-at n i j (omega (arith, size))))

-- what is said of each row, by its entries
module _ (m : Matrix) where
  pub row_below : (T : Values ℕ → Values ℕ) → IsBelowOperator m T → (i : ℕ) → i < m.size → (f : Values ℕ) → row_weight m i f ≤ℚ whole (2 ^ 48) *ℚ T f i
  row_below T h i p f = rw weigh-row_of at (h.row i p f)

  pub are_below : (T : Values ℕ → Values ℕ) → ((i : ℕ) → i < m.size → (f : Values ℕ) → row_weight m i f ≤ℚ whole (2 ^ 48) *ℚ T f i) → IsBelowOperator m T
  are_below T h = record { row = λ i p f. rw weigh-row_of (h i p f) }

  pub row_most : (most : ℕ) → EachRowAtMost m most → (i : ℕ) → i < m.size → row_sum m i ≤ most
  row_most most h i p = omega (arith, sum-row_of m i, h.row i p)

  pub are_most : (most : ℕ) → ((i : ℕ) → i < m.size → row_sum m i ≤ most) → EachRowAtMost m most
  are_most most h = record { row = λ i p. omega (arith, sum-row_of m i, h i p) }

  pub row_near : (all lack : ℕ) → EachRowNear m all lack → (i : ℕ) → i < m.size → all ≤ row_sum m i + lack
  row_near all lack h i p = omega (arith, sum-row_of m i, h.row i p)

  pub are_near : (all lack : ℕ) → ((i : ℕ) → i < m.size → all ≤ row_sum m i + lack) → EachRowNear m all lack
  are_near all lack h = record { row = λ i p. omega (arith, sum-row_of m i, h i p) }
