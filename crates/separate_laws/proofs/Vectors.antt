-- A matrix along a digit of a vector, rounded down: what it weighs, that it is no greater, and what it lacks.
use Rattle.std.proofs.Common.{◌≡◌, ℕ, ◌+◌, ◌*◌, ◌/◌, ◌^◌, ◌<◌, ◌≤◌, List, length, sum, slice_index, sym, ap, ◌∙◌, arith}
use mathlib.Core.Path.{fun_ext}
use Rattle.std.proofs.Math.Nat.{div-mul-le_self, mod-add-div, mul-le-mul_left, le_of_mul-le-mul_left}
use Rattle.std.proofs.lemmas.Nat.{mod_below}
use Rattle.sil_fraction.specs.Fraction.{Fraction, ◌*ℚ◌, ◌≤ℚ◌, whole}
use Rattle.sil_fraction.specs.Sum.{total_below, sum_below}
use Rattle.sil_fraction.proofs.Laws.{mul_comm, mul_assoc, le_trans, le_of_same, le-whole, mul-le-right, mul-le-left, whole-mul, whole-le, front}
use Rattle.sil_fraction.proofs.Sums.{below-le, below-same, mul-below, mul-one, whole-sum, sum-le, sum-add, sum-mul, le_from_scaled}
use Rattle.sil_model.specs.Series.{Values}
use Rattle.vector_laws.specs.Vectors.{weigh}
use Rattle.vector_laws.proofs.Masses.{sum_of, sum-constant}
use Rattle.vector_laws.proofs.Weighing.{weigh-below, weigh-ones}
use Rattle.vector_laws.specs.Matrix.{Matrix, entry_of}
use Rattle.vector_laws.specs.Rows.{IsBelowOperator, EachRowAtMost, EachRowNear}
use Rattle.vector_laws.proofs.RowVectors.{row_weight, row_sum, row_below, row_most, row_near}
use Rattle.separate_laws.specs.Digits.{digit_of, with_digit, along, IsAlongDown}
use Rattle.separate_laws.proofs.DigitNumbers.{digit-small, digit-with, with-with, with-digit}
use Rattle.separate_laws.proofs.DigitSums.{digits-exchanged}

-- a sum of products that is rounded down, times the unit and a value
floor-spread : (P n : ℕ) (x y : ℕ → ℕ) (z : Fraction)
    → whole P *ℚ (whole (sum_below n (λ a. x a * y a) / P) *ℚ z) ≤ℚ total_below n (λ a. whole (x a) *ℚ (whole (y a) *ℚ z))
floor-spread P n x y z =
    let all : ℕ = sum_below n (λ a. x a * y a) in
    let floor : whole (all / P) *ℚ whole P ≤ℚ whole all = rw (← whole-mul (all / P) P) (whole-le _ _ (div-mul-le_self all P)) in
    let spread : whole all *ℚ z ≡ total_below n (λ a. whole (x a) *ℚ (whole (y a) *ℚ z)) =
    ap (λ s. s *ℚ z) (whole-sum n (λ a. x a * y a)) ∙ mul_comm _ _ ∙ mul-below n z (λ a. whole (x a * y a))
    ∙ ap (total_below n) (fun_ext (λ a. mul_comm z _ ∙ ap (λ s. s *ℚ z) (whole-mul (x a) (y a)) ∙ mul_assoc _ _ _)) in
    le_trans _ _ _ (le_of_same _ _ (sym (mul_assoc _ _ _) ∙ ap (λ s. s *ℚ z) (mul_comm _ _))) (rw spread at (mul-le-right _ _ z floor))

module _ (stride more : ℕ) (m : Matrix) (v out : List ℕ) (some : 0 < stride) (exist : 0 < m.size) (long : length v ≡ stride * m.size * more)
    (down : IsAlongDown stride m v out) where
  abbrev digit : ℕ → ℕ
  digit i = digit_of stride m.size i

  abbrev changed : ℕ → ℕ → ℕ
  changed i b = with_digit stride m.size i b

  -- what the number j of `out` takes from the number of v with the digit a, by the value f j
  abbrev part : Values ℕ → ℕ → ℕ → Fraction
  part f j a = whole (slice_index v (changed j a)) *ℚ (whole (entry_of m a (digit j)) *ℚ f j)

  each_place : (f : Values ℕ) (j : ℕ) → j < length v → whole (2 ^ 48) *ℚ (whole (slice_index out j) *ℚ f j) ≤ℚ total_below m.size (part f j)
  each_place f j h = rw (down.floor j h) (floor-spread (2 ^ 48) m.size (λ a. slice_index v (changed j a)) (λ a. entry_of m a (digit j)) (f j))

  -- what the number i of v gives to those with another digit
  gives : (f : Values ℕ) (i : ℕ) → total_below m.size (λ b. part f (changed i b) (digit i))
      ≡ whole (slice_index v i) *ℚ row_weight m (digit i) (λ b. f (changed i b))
  gives f i =
      let own : (b : ℕ) → b < m.size → changed (changed i b) (digit i) ≡ i =
      λ b p. with-with stride m.size some i b (digit i) p ∙ with-digit stride m.size some i in
      below-same m.size _ _ (λ b p. ap (λ x. whole (slice_index v x) *ℚ (whole (entry_of m (digit i) (digit (changed i b))) *ℚ f (changed i b))) (own b p)
      ∙ ap (λ x. whole (slice_index v i) *ℚ (whole (entry_of m (digit i) x) *ℚ f (changed i b))) (digit-with stride m.size some i b p))
      ∙ sym (mul-below m.size (whole (slice_index v i)) (λ b. whole (entry_of m (digit i) b) *ℚ f (changed i b)))

  -- the same sum, by the numbers that take and by those that give
  turned : (f : Values ℕ) → total_below (length v) (λ j. total_below m.size (part f j))
      ≡ total_below (length v) (λ i. whole (slice_index v i) *ℚ row_weight m (digit i) (λ b. f (changed i b)))
  turned f = ap (λ n. total_below n (λ j. total_below m.size (part f j))) long ∙ digits-exchanged stride m.size more (part f)
      ∙ ap (λ n. total_below n (λ i. total_below m.size (λ b. part f (changed i b) (digit i)))) (sym long)
      ∙ ap (total_below (length v)) (fun_ext (gives f))

  weigh_out : (f : Values ℕ) → weigh out f ≡ total_below (length v) (λ j. whole (slice_index out j) *ℚ f j)
  weigh_out f = weigh-below out f ∙ ap (λ n. total_below n (λ j. whole (slice_index out j) *ℚ f j)) down.size

  -- where the rows weigh at most 2^48 times the values G
  pub along-weighs : (f G : Values ℕ) → ((i : ℕ) → row_weight m (digit i) (λ b. f (changed i b)) ≤ℚ whole (2 ^ 48) *ℚ G i) → weigh out f ≤ℚ weigh v G
  along-weighs f G rows =
      let P : Fraction = whole (2 ^ 48) in
      let first : P *ℚ total_below (length v) (λ j. whole (slice_index out j) *ℚ f j) ≤ℚ total_below (length v) (λ j. total_below m.size (part f j)) =
      rw mul-below (below-le (length v) _ _ (each_place f)) in
      let second : total_below (length v) (λ i. whole (slice_index v i) *ℚ row_weight m (digit i) (λ b. f (changed i b)))
      ≤ℚ P *ℚ total_below (length v) (λ i. whole (slice_index v i) *ℚ G i) =
      rw mul-below (below-le (length v) _ _ (λ i h. le_trans _ _ _ (mul-le-left (whole (slice_index v i)) _ _ (rows i))
      (le_of_same _ _ (front (whole (slice_index v i)) P (G i))))) in
      le_from_scaled (2 ^ 48) _ _ (omega arith) (rw (mul_comm (weigh out f) P, mul_comm (weigh v G) P, weigh_out f, weigh-below v G)
      (le_trans _ _ _ first (rw (turned f) second)))

  pub along-weighed : (T : Values ℕ → Values ℕ) → IsBelowOperator m T → (f : Values ℕ) → weigh out f ≤ℚ weigh v (along stride m.size T f)
  along-weighed T below f = along-weighs f (along stride m.size T f) (λ i. row_below m T below (digit i) (digit-small stride m.size some i exist) (λ b. f (changed i b)))

  -- each row by the value 1
  row-ones : (i : ℕ) → row_weight m i (λ b. whole 1) ≡ whole (row_sum m i)
  row-ones i = ap (total_below m.size) (fun_ext (λ b. mul-one (whole (entry_of m i b)))) ∙ sym (whole-sum m.size (entry_of m i))

  -- where no row comes to more than 1
  pub along-kept : EachRowAtMost m (2 ^ 48) → sum out ≤ sum v
  along-kept rows =
      let ones : Values ℕ = λ i. whole 1 in
      let row : (i : ℕ) → row_weight m (digit i) ones ≤ℚ whole (2 ^ 48) *ℚ whole 1 =
      λ i. rw mul-one (le_trans _ _ _ (le_of_same _ _ (row-ones (digit i)))
      (whole-le _ _ (row_most m (2 ^ 48) rows (digit i) (digit-small stride m.size some i exist)))) in
      le-whole (sum out) (sum v) (rw (weigh-ones out, weigh-ones v) at (along-weighs ones ones row))

  -- the sum of the products that number j of `out` comes from
  abbrev taken : ℕ → ℕ
  taken j = sum_below m.size (λ a. slice_index v (changed j a) * entry_of m a (digit j))

  abbrev all-taken : ℕ
  all-taken = sum_below (length v) taken

  -- what each number gives to all rows
  abbrev all-given : ℕ
  all-given = sum_below (length v) (λ i. slice_index v i * row_sum m (digit i))

  taken-parts : (j : ℕ) → whole (taken j) ≡ total_below m.size (part (λ i. whole 1) j)
  taken-parts j = whole-sum m.size (λ a. slice_index v (changed j a) * entry_of m a (digit j))
      ∙ ap (total_below m.size) (fun_ext (λ a. whole-mul (slice_index v (changed j a)) (entry_of m a (digit j))
      ∙ ap (λ x. whole (slice_index v (changed j a)) *ℚ x) (sym (mul-one (whole (entry_of m a (digit j)))))))

  given-parts : (i : ℕ) → whole (slice_index v i) *ℚ row_weight m (digit i) (λ b. whole 1) ≡ whole (slice_index v i * row_sum m (digit i))
  given-parts i = ap (λ x. whole (slice_index v i) *ℚ x) (row-ones (digit i)) ∙ sym (whole-mul (slice_index v i) (row_sum m (digit i)))

  taken-given : whole all-taken ≡ whole all-given
  taken-given = whole-sum (length v) taken ∙ ap (total_below (length v)) (fun_ext taken-parts) ∙ turned (λ i. whole 1)
      ∙ ap (total_below (length v)) (fun_ext given-parts) ∙ sym (whole-sum (length v) (λ i. slice_index v i * row_sum m (digit i)))

  -- the floors lack less than one unit each
  taken-least : all-taken ≤ 2 ^ 48 * sum out + length v * 2 ^ 48
  taken-least =
      let P : ℕ = 2 ^ 48 in
      let each : (j : ℕ) → j < length v → taken j ≤ P * slice_index out j + P =
      λ j h. omega (arith, mod-add-div (taken j) P, mod_below (taken j) P (omega arith), ap (λ x. P * x) (down.floor j h)) in
      let sums : sum_below (length v) (λ j. P * slice_index out j + P) ≡ P * sum out + length v * P =
      sum-add (length v) (λ j. P * slice_index out j) (λ j. P) ∙ ap (λ s. s + sum_below (length v) (λ j. P)) (sum-mul (length v) P (λ j. slice_index out j))
      ∙ ap (λ s. P * sum_below (length v) (λ j. slice_index out j) + s) (sum-constant (length v) P)
      ∙ ap (λ s. P * s + length v * P) (sym (rw down.size at (sum_of out))) in
      rw sums at (sum-le (length v) taken (λ j. P * slice_index out j + P) each)

  -- where each row lacks so little of the whole
  given-least : (lack : ℕ) → EachRowNear m (2 ^ 48) lack → 2 ^ 48 * sum v ≤ all-given + lack * sum v
  given-least lack near =
      let P : ℕ = 2 ^ 48 in
      let each : (i : ℕ) → i < length v → P * slice_index v i ≤ slice_index v i * row_sum m (digit i) + lack * slice_index v i =
      λ i h. omega (arith, mul-le-mul_left (slice_index v i) (row_near m P lack near (digit i) (digit-small stride m.size some i exist))) in
      let left : sum_below (length v) (λ i. P * slice_index v i) ≡ P * sum v = sum-mul (length v) P (λ i. slice_index v i) ∙ ap (λ s. P * s) (sym (sum_of v)) in
      let right : sum_below (length v) (λ i. slice_index v i * row_sum m (digit i) + lack * slice_index v i) ≡ all-given + lack * sum v =
      sum-add (length v) (λ i. slice_index v i * row_sum m (digit i)) (λ i. lack * slice_index v i)
      ∙ ap (λ s. all-given + s) (sum-mul (length v) lack (λ i. slice_index v i) ∙ ap (λ s. lack * s) (sym (sum_of v))) in
      rw (left, right) at (sum-le (length v) _ _ each)

  -- what is lacked where the vector comes to at most t times the whole
  pub along-least : (t lack : ℕ) → EachRowNear m (2 ^ 48) lack → sum v ≤ t * 2 ^ 48 → sum v ≤ sum out + t * lack + length v
  along-least t lack near few =
      let P : ℕ = 2 ^ 48 in
      let same : all-given ≤ all-taken = le-whole _ _ (le_of_same _ _ (sym taken-given)) in
      let little : lack * sum v ≤ lack * (t * P) = mul-le-mul_left lack few in
      let scaled : P * sum v ≤ P * (sum out + t * lack + length v) = omega (arith, given-least lack near, taken-least, same, little) in
      le_of_mul-le-mul_left scaled (omega arith)
