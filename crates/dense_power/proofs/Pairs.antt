-- The end matrix and the dwell sum of a number of beats, against those of one beat: what they weigh, how great they are, and what they lack.
use Rattle.std.proofs.Common.{◌≡◌, ℕ, ◌+◌, ◌-◌, ◌*◌, ◌^◌, ◌<◌, ◌≤◌, refl, sym, ap, ◌∙◌, arith, lit<}
use mathlib.Core.Path.{fun_ext}
use Rattle.sil_fraction.specs.Fraction.{◌+ℚ◌, ◌*ℚ◌, ◌≤ℚ◌, whole}
use Rattle.sil_fraction.specs.Sum.{total_below, sum_below}
use Rattle.sil_fraction.proofs.Laws.{le_trans, le_of_same, mul-add, whole-add, zero-add}
use Rattle.sil_fraction.proofs.Sums.{below-same, below-add, below-append, add-le-add, add-mul, sum-same, sum-add}
use Rattle.sil_model.specs.Series.{Values, times}
use Rattle.model_laws.specs.Polynomial.{IsLinear, means_of}
use Rattle.model_laws.proofs.Operators.{times-linear, times-add, summed}
use Rattle.vector_laws.specs.Matrix.{Matrix, entry_of, EachEntryAtMost}
use Rattle.vector_laws.specs.Rows.{IsBelowOperator, EachRowAtMost, EachRowNear}
use Rattle.dense_power.specs.Powers.{end_lack_of, dwell_lack_of, IsJoined}
use Rattle.vector_laws.proofs.RowVectors.{row_sum, row_weight, row_below, are_below, row_most, are_most, row_near, are_near}
use Rattle.dense_power.proofs.Products.{rounded, term-le-sum, sum-rounded-le, sum-rounded-ge}
use Rattle.dense_power.proofs.Weights.{weight, weight-rounded-le}
use Rattle.dense_power.proofs.Lacks.{dwell_joined, without_size}

unit_some : 0 < 2 ^ 48
unit_some = omega arith

-- no entry is greater than its row
pub entries_of_rows : (m : Matrix) (most : ℕ) → EachRowAtMost m most → EachEntryAtMost m most
entries_of_rows m most h = record { entry = λ i j p q. omega (arith, term-le-sum m.size j (entry_of m i) q, row_most m most h i p) }

-- row i of a times the matrix b, rounded down
module _ (a b : Matrix) (same_size : b.size ≡ a.size) (i : ℕ) where
  -- the numbers that come out
  abbrev out : ℕ → ℕ
  out = rounded a.size (2 ^ 48) unit_some (entry_of a i) (entry_of b)

  b_sum : (k : ℕ) → row_sum b k ≡ sum_below a.size (entry_of b k)
  b_sum k = ap (λ n. sum_below n (entry_of b k)) same_size

  out-weight-le : (f g : Values ℕ) → ((k : ℕ) → k < b.size → row_weight b k f ≤ℚ whole (2 ^ 48) *ℚ g k) → weight a.size out f ≤ℚ row_weight a i g
  out-weight-le f g rows = weight-rounded-le a.size (2 ^ 48) unit_some (entry_of a i) (entry_of b) f g
      (λ k h. le_trans _ _ _ (le_of_same _ _ (ap (λ n. total_below n (λ j. whole (entry_of b k j) *ℚ f j)) (sym same_size)))
      (rows k (omega (arith, same_size))))

  out-sum-le : (most : ℕ) → row_sum a i ≤ 2 ^ 48 → EachRowAtMost b most → sum_below a.size out ≤ most
  out-sum-le most mass rows = sum-rounded-le a.size (2 ^ 48) unit_some (entry_of a i) (entry_of b) most mass
      (λ k h. omega (arith, b_sum k, row_most b most rows k (omega (arith, same_size))))

  out-sum-ge : (t lack l : ℕ) → row_sum a i ≤ 2 ^ 48 → 2 ^ 48 ≤ row_sum a i + l → EachRowNear b (t * 2 ^ 48) lack
      → t * 2 ^ 48 ≤ sum_below a.size out + (a.size + lack + t * l)
  out-sum-ge t lack l mass near rows =
      sum-rounded-ge a.size (2 ^ 48) unit_some (entry_of a i) (entry_of b) t lack l mass near
      (λ k h. omega (arith, b_sum k, row_near b (t * 2 ^ 48) lack rows k (omega (arith, same_size))))

-- a pair of matrices that stands for so many beats of the pair of one beat
pub record IsPair (one_end one_dwell : Matrix) (beats : ℕ) (end dwell : Matrix) : Type 0 where
  pub end_size : end.size ≡ one_end.size
  pub dwell_size : dwell.size ≡ one_end.size
  pub ends : (G : Values ℕ → Values ℕ) → IsBelowOperator one_end G → IsBelowOperator end (times G beats)
  pub dwells : (G M : Values ℕ → Values ℕ) → IsLinear G → IsBelowOperator one_end G → IsBelowOperator one_dwell M → IsBelowOperator dwell (means_of G M beats)
  pub end_rows : EachRowAtMost end (2 ^ 48)
  pub dwell_rows : EachRowAtMost dwell (beats * 2 ^ 48)
  -- the size is to spare
  pub end_near : (r : ℕ) → EachRowNear one_end (2 ^ 48) r → EachRowNear end (2 ^ 48 + one_end.size) (end_lack_of one_end.size r beats)
  pub dwell_near : (r d : ℕ) → EachRowNear one_end (2 ^ 48) r → EachRowNear one_dwell (2 ^ 48) d
      → EachRowNear dwell (beats * 2 ^ 48) (dwell_lack_of one_end.size r d beats)

-- one beat
pub one_beat : (end dwell : Matrix) → dwell.size ≡ end.size → EachRowAtMost end (2 ^ 48) → EachRowAtMost dwell (2 ^ 48) → IsPair end dwell 1 end dwell
one_beat end dwell size end_rows dwell_rows = record {
  end_size = refl;
  dwell_size = size;
  ends = λ G h. h;
  dwells = λ G M l h k. record { row = λ i p f. le_trans _ _ _ (k.row i p f) (le_of_same _ _ (ap (λ x. whole (2 ^ 48) *ℚ x) (sym (zero-add (M f i))))) };
  end_rows = end_rows;
  dwell_rows = record { row = λ i p. omega (arith, dwell_rows.row i p) };
  end_near = λ r h. record { row = λ i p. omega (arith, h.row i p) };
  dwell_near = λ r d h k. record { row = λ i p. omega (arith, k.row i p) };
}

-- the means of m beats, and of n beats after them
means-add : (G M : Values ℕ → Values ℕ) → IsLinear G → (m n : ℕ) (f : Values ℕ) (i : ℕ) → means_of G M m f i
    +ℚ times G m (means_of G M n f) i ≡ means_of G M (m + n) f i
means-add G M l m n f i =
    ap (λ s. means_of G M m f i +ℚ s)
    (ap (λ (h : Values ℕ). h i) (summed (times G m) (times-linear G l m) n (λ j. times G j (M f)))
    ∙ ap (total_below n) (fun_ext (λ j. ap (λ (h : Values ℕ). h i) (sym (times-add G m j (M f))))))
    ∙ sym (below-append m n (λ j. times G j (M f) i))

-- the beats of two pairs one after the other
module _ (one_end one_dwell : Matrix) (m n : ℕ) (some_m : 0 < m) (some_n : 0 < n)
    (first_end first_dwell second_end second_dwell end dwell : Matrix)
    (first : IsPair one_end one_dwell m first_end first_dwell) (second : IsPair one_end one_dwell n second_end second_dwell)
    (joined : IsJoined first_end first_dwell second_end second_dwell end dwell) where
  second_size : second_end.size ≡ first_end.size
  second_size = second.end_size ∙ sym first.end_size

  later_size : second_dwell.size ≡ first_end.size
  later_size = second.dwell_size ∙ sym first.end_size

  first_size : first_dwell.size ≡ first_end.size
  first_size = first.dwell_size ∙ sym first.end_size

  -- the row i of the new matrices
  module _ (i : ℕ) (h : i < first_end.size) where
    abbrev end_out : ℕ → ℕ
    end_out = out first_end second_end second_size i

    abbrev dwell_out : ℕ → ℕ
    dwell_out = out first_end second_dwell later_size i

    end-sum : row_sum end i ≡ sum_below first_end.size end_out
    end-sum = ap (λ n. sum_below n (entry_of end i)) joined.end_size ∙ sum-same first_end.size _ _ (λ j p. joined.ends.floor i j h p)

    end-weight : (f : Values ℕ) → row_weight end i f ≡ weight first_end.size end_out f
    end-weight f = ap (λ n. total_below n (λ j. whole (entry_of end i j) *ℚ f j)) joined.end_size
        ∙ below-same first_end.size _ _ (λ j p. ap (λ x. whole x *ℚ f j) (joined.ends.floor i j h p))

    dwell-sum : row_sum dwell i ≡ row_sum first_dwell i + sum_below first_end.size dwell_out
    dwell-sum =
        ap (λ n. sum_below n (entry_of dwell i)) joined.dwell_size ∙ sum-same first_end.size _ _ (λ j p. joined.dwells i j h p)
        ∙ sum-add first_end.size (entry_of first_dwell i) dwell_out
        ∙ ap (λ n. sum_below n (entry_of first_dwell i) + sum_below first_end.size dwell_out) (sym first_size)

    dwell-weight : (f : Values ℕ) → row_weight dwell i f ≡ row_weight first_dwell i f +ℚ weight first_end.size dwell_out f
    dwell-weight f =
        ap (λ n. total_below n (λ j. whole (entry_of dwell i j) *ℚ f j)) joined.dwell_size
        ∙ below-same first_end.size _ _ (λ j p. ap (λ x. whole x *ℚ f j) (joined.dwells i j h p) ∙ ap (λ s. s *ℚ f j) (whole-add _ _) ∙ add-mul _ _ (f j))
        ∙ below-add first_end.size (λ j. whole (entry_of first_dwell i j) *ℚ f j) (λ j. whole (dwell_out j) *ℚ f j)
        ∙ ap (λ n. total_below n (λ j. whole (entry_of first_dwell i j) *ℚ f j) +ℚ weight first_end.size dwell_out f) (sym first_size)

    mass : row_sum first_end i ≤ 2 ^ 48
    mass = row_most first_end (2 ^ 48) first.end_rows i h

    end_row : row_sum end i ≤ 2 ^ 48
    end_row = omega (arith, end-sum, out-sum-le first_end second_end second_size i (2 ^ 48) mass second.end_rows)

    dwell_row : row_sum dwell i ≤ (m + n) * 2 ^ 48
    dwell_row = omega (
      arith,
      dwell-sum,
      row_most first_dwell (m * 2 ^ 48) first.dwell_rows i (omega (arith, first_size)),
      out-sum-le first_end second_dwell later_size i (n * 2 ^ 48) mass second.dwell_rows,
    )

    below_end : (G : Values ℕ → Values ℕ) → IsBelowOperator one_end G → (f : Values ℕ) → row_weight end i f ≤ℚ whole (2 ^ 48) *ℚ times G (m + n) f i
    below_end G below f =
        le_trans _ _ _ (le_of_same _ _ (end-weight f))
        (le_trans _ _ _ (out-weight-le first_end second_end second_size i f (times G n f) (λ k p. row_below second_end (times G n) (second.ends G below) k p f))
        (le_trans _ _ _ (row_below first_end (times G m) (first.ends G below) i h (times G n f))
        (le_of_same _ _ (ap (λ (g : Values ℕ). whole (2 ^ 48) *ℚ g i) (sym (times-add G m n f))))))

    below_dwell : (G M : Values ℕ → Values ℕ) → IsLinear G → IsBelowOperator one_end G → IsBelowOperator one_dwell M
        → (f : Values ℕ) → row_weight dwell i f ≤ℚ whole (2 ^ 48) *ℚ means_of G M (m + n) f i
    below_dwell G M linear below means f =
        le_trans _ _ _ (le_of_same _ _ (dwell-weight f))
        (le_trans _ _ _ (add-le-add _ _ _ _ (row_below first_dwell (means_of G M m) (first.dwells G M linear below means) i (omega (arith, first_size)) f)
        (le_trans _ _ _ (out-weight-le first_end second_dwell later_size i f (means_of G M n f)
        (λ k p. row_below second_dwell (means_of G M n) (second.dwells G M linear below means) k p f))
        (row_below first_end (times G m) (first.ends G below) i h (means_of G M n f))))
        (le_of_same _ _ (sym (mul-add (whole (2 ^ 48)) _ _) ∙ ap (λ x. whole (2 ^ 48) *ℚ x) (means-add G M linear m n f i))))

    end_row_near : (r : ℕ) → EachRowNear one_end (2 ^ 48) r → 2 ^ 48 + one_end.size ≤ row_sum end i + end_lack_of one_end.size r (m + n)
    end_row_near r near =
        let s : ℕ = one_end.size in
        let l : ℕ = end_lack_of s r m - s in
        let d : ℕ = end_lack_of s r n - s in
        let le : l + s ≡ end_lack_of s r m = without_size s r m some_m in
        let de : d + s ≡ end_lack_of s r n = without_size s r n some_n in
        let a : 2 ^ 48 ≤ row_sum first_end i + l =
        omega (arith, row_near first_end (2 ^ 48 + one_end.size) (end_lack_of one_end.size r m) (first.end_near r near) i h, le) in
        let b : EachRowNear second_end (1 * 2 ^ 48) d =
        are_near second_end (1 * 2 ^ 48) d
        (λ k p. omega (arith, row_near second_end (2 ^ 48 + one_end.size) (end_lack_of one_end.size r n) (second.end_near r near) k p, de)) in
        omega (arith, end-sum, out-sum-ge first_end second_end second_size i 1 d l mass a b, first.end_size, le, de)

    dwell_row_near : (r d : ℕ) → EachRowNear one_end (2 ^ 48) r → EachRowNear one_dwell (2 ^ 48) d → (m + n) * 2 ^ 48
        ≤ row_sum dwell i + dwell_lack_of one_end.size r d (m + n)
    dwell_row_near r d near mean =
        let s : ℕ = one_end.size in
        let l : ℕ = end_lack_of s r m - s in
        let le : l + s ≡ end_lack_of s r m = without_size s r m some_m in
        let a : 2 ^ 48 ≤ row_sum first_end i + l =
        omega (arith, row_near first_end (2 ^ 48 + one_end.size) (end_lack_of one_end.size r m) (first.end_near r near) i h, le) in
        let b : n * 2 ^ 48 ≤ sum_below first_end.size dwell_out + (first_end.size + dwell_lack_of s r d n + n * l) =
        out-sum-ge first_end second_dwell later_size i n (dwell_lack_of s r d n) l mass a (second.dwell_near r d near mean) in
        omega (
          arith,
          dwell-sum,
          b,
          row_near first_dwell (m * 2 ^ 48) (dwell_lack_of one_end.size r d m) (first.dwell_near r d near mean) i (omega (arith, first_size)),
          first.end_size,
          dwell_joined s r d l m n some_m some_n le,
        )

  end_in : (i : ℕ) → i < end.size → i < first_end.size
  end_in i p = omega (arith, joined.end_size)

  dwell_in : (i : ℕ) → i < dwell.size → i < first_end.size
  dwell_in i p = omega (arith, joined.dwell_size)

  pub joined_pair : IsPair one_end one_dwell (m + n) end dwell
  joined_pair = record {
    end_size = joined.end_size ∙ first.end_size;
    dwell_size = joined.dwell_size ∙ first.end_size;
    ends = λ G h. are_below end (times G (m + n)) (λ i p f. below_end i (end_in i p) G h f);
    dwells = λ G M l h k. are_below dwell (means_of G M (m + n)) (λ i p f. below_dwell i (dwell_in i p) G M l h k f);
    end_rows = are_most end (2 ^ 48) (λ i p. end_row i (end_in i p));
    dwell_rows = are_most dwell ((m + n) * 2 ^ 48) (λ i p. dwell_row i (dwell_in i p));
    end_near = λ r h. are_near end (2 ^ 48 + one_end.size) (end_lack_of one_end.size r (m + n)) (λ i p. end_row_near i (end_in i p) r h);
    dwell_near = λ r d h k. are_near dwell ((m + n) * 2 ^ 48) (dwell_lack_of one_end.size r d (m + n)) (λ i p. dwell_row_near i (dwell_in i p) r d h k);
  }

-- the entries of a dwell sum of few enough beats
pub dwell_entries : (m : Matrix) (beats : ℕ) → beats ≤ 1_000_000 → EachRowAtMost m (beats * 2 ^ 48) → EachEntryAtMost m (2 ^ 68)
dwell_entries m beats few h = record { entry = λ i j p q. omega (arith, (entries_of_rows m (beats * 2 ^ 48) h).entry i j p q) }

-- a pair and the same once more
pub twice : (one_end one_dwell : Matrix) (m : ℕ) (first_end first_dwell end dwell : Matrix) → 0 < m → IsPair one_end one_dwell m first_end first_dwell
    → IsJoined first_end first_dwell first_end first_dwell end dwell → IsPair one_end one_dwell (m + m) end dwell
twice one_end one_dwell m first_end first_dwell end dwell some pair joined =
    joined_pair one_end one_dwell m m some some first_end first_dwell first_end first_dwell end dwell pair pair joined

-- a pair and one beat more
pub one_more : (one_end one_dwell : Matrix) (m : ℕ) (first_end first_dwell end dwell : Matrix) → 0 < m
    → one_dwell.size ≡ one_end.size → EachRowAtMost one_end (2 ^ 48) → EachRowAtMost one_dwell (2 ^ 48)
    → IsPair one_end one_dwell m first_end first_dwell → IsJoined first_end first_dwell one_end one_dwell end dwell → IsPair one_end one_dwell (m + 1) end dwell
one_more one_end one_dwell m first_end first_dwell end dwell some size end_rows dwell_rows pair joined =
    joined_pair one_end one_dwell m 1 some (lit< tt) first_end first_dwell one_end one_dwell end dwell pair
    (one_beat one_end one_dwell size end_rows dwell_rows) joined
