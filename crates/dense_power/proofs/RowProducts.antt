-- A row of whole numbers times a matrix, rounded down: what it weighs, that it is no greater, and what it lacks.
use Rattle.std.proofs.Common.{◌≡◌, ℕ, ◌+◌, ◌*◌, ◌^◌, ◌<◌, ◌≤◌, List, length, sum, slice_index, ap, ◌∙◌, arith}
use Rattle.sil_fraction.specs.Fraction.{◌*ℚ◌, ◌≤ℚ◌, whole}
use Rattle.sil_fraction.specs.Sum.{sum_below}
use Rattle.sil_fraction.proofs.Sums.{below-same, sum-same}
use Rattle.sil_model.specs.Series.{Values}
use Rattle.vector_laws.specs.Vectors.{weigh}
use Rattle.vector_laws.proofs.Masses.{sum_of}
use Rattle.vector_laws.proofs.Weighing.{weigh-below}
use Rattle.vector_laws.specs.Matrix.{Matrix, entry_of, IsRowProductDown}
use Rattle.vector_laws.specs.Rows.{IsBelowOperator, EachRowAtMost, EachRowNear}
use Rattle.vector_laws.proofs.RowVectors.{row_below, row_most, row_near}
use Rattle.dense_power.proofs.Products.{rounded, sum-rounded-most, sum-rounded-least}
use Rattle.dense_power.proofs.Weights.{weight, weight-rounded-le}

unit_some : 0 < 2 ^ 48
unit_some = omega arith

module _ (row : List ℕ) (m : Matrix) (out : List ℕ) (long : length row ≡ m.size) (product : IsRowProductDown row m out) where
  abbrev numbers : ℕ → ℕ
  numbers = rounded m.size (2 ^ 48) unit_some (slice_index row) (entry_of m)

  row_mass : sum row ≡ sum_below m.size (slice_index row)
  row_mass = sum_of row ∙ ap (λ n. sum_below n (slice_index row)) long

  row_weighs : (f : Values ℕ) → weigh row f ≡ weight m.size (slice_index row) f
  row_weighs f = weigh-below row f ∙ ap (λ n. weight n (slice_index row) f) long

  out_mass : sum out ≡ sum_below m.size numbers
  out_mass = sum_of out ∙ ap (λ n. sum_below n (slice_index out)) product.size ∙ sum-same m.size _ _ (λ j h. product.floor j h)

  out_weighs : (f : Values ℕ) → weigh out f ≡ weight m.size numbers f
  out_weighs f = weigh-below out f ∙ ap (λ n. weight n (slice_index out) f) product.size
      ∙ below-same m.size _ _ (λ j h. ap (λ x. whole x *ℚ f j) (product.floor j h))

  -- it weighs no more than the row by what is expected of the values
  pub product_weighs : (T : Values ℕ → Values ℕ) → IsBelowOperator m T → (f : Values ℕ) → weigh out f ≤ℚ weigh row (T f)
  product_weighs T below f =
      rw (out_weighs f, row_weighs (T f))
      (weight-rounded-le m.size (2 ^ 48) unit_some (slice_index row) (entry_of m) f (T f) (λ k h. row_below m T below k h f))

  -- where each row of the matrix comes to at most t
  pub product_most : (t : ℕ) → EachRowAtMost m (t * 2 ^ 48) → sum out ≤ t * sum row
  product_most t rows =
      omega (
        arith,
        out_mass,
        ap (λ s. t * s) row_mass,
        sum-rounded-most m.size (2 ^ 48) unit_some (slice_index row) (entry_of m) t (λ k h. row_most m (t * 2 ^ 48) rows k h),
      )

  -- and lacks so much of t at most
  pub product_least : (t lack : ℕ) → sum row ≤ 2 ^ 48 → EachRowNear m (t * 2 ^ 48) lack → t * sum row ≤ sum out + (m.size + lack)
  product_least t lack mass rows =
      omega (
        arith,
        out_mass,
        ap (λ s. t * s) row_mass,
        sum-rounded-least m.size (2 ^ 48) unit_some (slice_index row) (entry_of m) t lack (omega (arith, row_mass)) (λ k h. row_near m (t * 2 ^ 48) lack rows k h),
      )
