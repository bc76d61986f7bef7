-- The beats of two matrices one after the other: their product, rounded down.
use Rattle.std.proofs.Common.{◌≡◌, ℕ, ◌+◌, ◌-◌, ◌*◌, ◌/◌, ◌^◌, ◌<◌, ◌≤◌, length, sum, slice_index, ap, ◌∙◌, sym, arith}
use Rattle.sil_fraction.specs.Fraction.{◌*ℚ◌, ◌≤ℚ◌, whole}
use Rattle.sil_fraction.proofs.Laws.{le_trans, le_of_same}
use Rattle.sil_model.specs.Series.{Values, times}
use Rattle.sil_model.specs.Sizes.{states_of}
use Rattle.model_laws.proofs.Operators.{times-add}
use Rattle.lumped_laws.specs.ValueLists.{beat_list}
use Rattle.vector_laws.specs.Vectors.{weigh}
use Rattle.product_chain.specs.Kept.{ChainValue}
use Rattle.uniformise.specs.Beat.{hours_of_beat, vector_loss}
use Rattle.vector_laws.specs.Matrix.{Matrix, entry_of, IsProductDown, IsRowProductDown}
use Rattle.vector_laws.specs.Rows.{row_of, EachRowAtMost, EachRowNear}
use Rattle.dense_power.specs.Powers.{end_lack_of}
use Rattle.dense_power.proofs.Lacks.{without_size}
use Rattle.dense_power.proofs.Products.{sum-same_row}
use Rattle.dense_power.proofs.RowProducts.{product_weighs, product_most, product_least}
use Rattle.vector_laws.proofs.RowVectors.{length-row_of, row_of-at}
use Rattle.subsystem_power.specs.Rooms.{IsSparePower}

module _ (first second both : Matrix) (same : second.size ≡ first.size) (is : both.size ≡ first.size) (product : IsProductDown first second both) where
  in_first : (i : ℕ) → i < both.size → i < first.size
  in_first i h = omega (arith, is)

  row_long : (i : ℕ) → length (row_of first i) ≡ second.size
  row_long i = length-row_of first i ∙ sym same

  -- row i of the product is row i of the first times the second
  row_product : (i : ℕ) → i < first.size → IsRowProductDown (row_of first i) second (row_of both i)
  row_product i h = record {
    size = length-row_of both i ∙ is ∙ sym same;
    floor = λ j p.
        row_of-at both i j (omega (arith, is, same)) ∙ product.floor i j h (omega (arith, same))
        ∙ ap (λ s. s / 2 ^ 48)
        (sum-same_row first.size second.size (entry_of first i) (slice_index (row_of first i)) (λ k. entry_of second k j) (sym same)
        (λ k q. sym (row_of-at first i k (omega (arith, same)))));
  }

  module _ (second_rows : EachRowAtMost second (2 ^ 48)) where
    row_most : (i : ℕ) → i < first.size → sum (row_of both i) ≤ 1 * sum (row_of first i)
    row_most i h = product_most (row_of first i) second (row_of both i) (row_long i) (row_product i h) 1
        (record { row = λ k p. omega (arith, second_rows.row k p) })

    pub product_rows : EachRowAtMost first (2 ^ 48) → EachRowAtMost both (2 ^ 48)
    product_rows first_rows = record { row = λ i h. omega (arith, row_most i (in_first i h), first_rows.row i (in_first i h)) }

  module _ (c : ChainValue) (order m n : ℕ) (some : 0 < n) (begins : IsSparePower c order m first) (goes_on : IsSparePower c order n second) where
    abbrev states : ℕ
    states = states_of c.of.subsystems

    abbrev loss : ℕ
    loss = vector_loss c.of.subsystems order

    abbrev beat_at : ℕ → Values ℕ → Values ℕ
    beat_at N = beat_list c.of.subsystems N (hours_of_beat c)

    row_weighs : (N : ℕ) → order ≤ N → (i : ℕ) → i < first.size → (f : Values ℕ) → weigh (row_of both i) f ≤ℚ whole (2 ^ 48) *ℚ times (beat_at N) (m + n) f i
    row_weighs N within i h f =
        le_trans _ _ _
        (product_weighs (row_of first i) second (row_of both i) (row_long i) (row_product i h) (times (beat_at N) n) (goes_on.below N within) f)
        (le_trans _ _ _ ((begins.below N within).row i h (times (beat_at N) n f))
        (le_of_same _ _ (ap (λ (g : Values ℕ). whole (2 ^ 48) *ℚ g i) (sym (times-add (beat_at N) m n f)))))

    row_near : (i : ℕ) → i < first.size → 2 ^ 48 + states ≤ sum (row_of both i) + end_lack_of states loss (m + n)
    row_near i h =
        let spare : ℕ = end_lack_of states loss n - states in
        let is_spare : spare + states ≡ end_lack_of states loss n = without_size states loss n some in
        let each : EachRowNear second (1 * 2 ^ 48) spare = record { row = λ k p. omega (arith, goes_on.near.row k p, is_spare) } in
        omega (
          arith,
          product_least (row_of first i) second (row_of both i) (row_long i) (row_product i h) 1 spare (begins.rows.row i h) each,
          begins.near.row i h,
          goes_on.size,
          is_spare,
        )

    pub product_power : IsSparePower c order (m + n) both
    product_power = record {
      size = is ∙ begins.size;
      below = λ N within. record { row = λ i h f. row_weighs N within i (in_first i h) f };
      rows = product_rows goes_on.rows begins.rows;
      near = record { row = λ i h. row_near i (in_first i h) };
    }
