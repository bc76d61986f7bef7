-- Sums over lists in another order, and over parts.
use Rattle.std.proofs.Common.{◌≡◌, ℕ, zero, suc, ◌+◌, ◌-◌, ◌<◌, ◌≤◌, inl, inr, List, [], ◌∷◌, ◌++◌, length, get_or, set, take, refl, sym, ap, ◌∙◌, arith, add-one, get_or-set_same, get_or-set_other, length-set}
use Rattle.std.specs.Prelude.{slice_range, sum_by}
use Rattle.std.specs.List as lists
use Rattle.std.specs.List.Sorted.{IsPermutation}
use Rattle.std.proofs.lemmas.Bool.{cases_lt}
use Rattle.std.proofs.lemmas.List.Sums.{sum_by-cons}
use Rattle.std.proofs.lemmas.List.Sorted.{IsPermutation-keeps}
use Rattle.sil_fraction.specs.Fraction.{Fraction, ◌+ℚ◌, whole}
use Rattle.sil_fraction.specs.Sum.{total, total_below}
use Rattle.sil_fraction.proofs.Laws.{add_comm, add_assoc, le_antisymm, le_of_same, add-le-cancel_right, whole-add}
use Rattle.sil_fraction.proofs.Sums.{total-append}
use Rattle.product_chain.specs.Columns.{AreParts, part}

cancel : (x y z : Fraction) → x +ℚ z ≡ y +ℚ z → x ≡ y
cancel x y z e = le_antisymm x y (add-le-cancel_right x y z (le_of_same _ _ e)) (add-le-cancel_right y x z (le_of_same _ _ (sym e)))

module _ {A : Type 0} (g : A → Fraction) where
  total-set : (l : List A) (i : ℕ) (y d : A) → i < length l → total g (set l i y) +ℚ g (get_or l i d) ≡ total g l +ℚ g y
  total-set [] i y d h = absurd (omega arith)
  total-set (x ∷ l) zero y d h = shuffle (g y) (total g l) (g x)
    where
      shuffle : (a b c : Fraction) → (a +ℚ b) +ℚ c ≡ (c +ℚ b) +ℚ a
      shuffle a b c = grind (arith, add_assoc, add_comm)
  total-set (x ∷ l) (suc i) y d h = add_assoc _ _ _ ∙ ap (λ t. g x +ℚ t) (total-set l i y d (omega arith)) ∙ sym (add_assoc _ _ _)

  total-swap : (l : List A) (i j : ℕ) → i < length l → j < length l → total g (lists.swap l i j) ≡ total g l
  total-swap [] i j h k = refl
  total-swap (d ∷ l) i j h k =
      let xs : List A = d ∷ l in
      let a : A = get_or xs i d in
      let b : A = get_or xs j d in
      let there : get_or (set xs i b) j d ≡ b = elim (cases_lt i j) [
        | inl p ↦ get_or-set_other xs i j b d (λ e. absurd (omega arith))
        | inr p ↦ elim (cases_lt j i) [
          | inl q ↦ get_or-set_other xs i j b d (λ e. absurd (omega arith))
          | inr q ↦ let e : j ≡ i = omega arith in ap (λ n. get_or (set xs i b) n d) e ∙ get_or-set_same xs i b d h
        ]
      ] in
      let first : total g (set (set xs i b) j a) +ℚ g b ≡ total g (set xs i b) +ℚ g a =
      rw there at (total-set (set xs i b) j a d (omega (arith, length-set xs i b))) in
      cancel _ _ (g b) (first ∙ total-set xs i b d h)

  pub total-permutation : (xs ys : List A) → IsPermutation xs ys → total g ys ≡ total g xs
  total-permutation xs ys p = IsPermutation-keeps xs (λ l. total g l ≡ total g xs) refl (λ l i j h k e. total-swap l i j h k ∙ e) ys p

  take-none : (n : ℕ) → let none : List A = [] in none ≡ take n none
  take-none zero = refl
  take-none (suc n) = refl

  -- a sum over the parts of a list
  take-part : (a b : ℕ) (xs : List A) → a ≤ b → take b xs ≡ take a xs ++ slice_range xs a b
  take-part zero b xs h = let e : b - 0 ≡ b = omega arith in rw e refl
  take-part (suc a) zero xs h = absurd (omega arith)
  take-part (suc a) (suc b) [] h = take-none (suc b - suc a)
  take-part (suc a) (suc b) (x ∷ xs) h = let e : suc b - suc a ≡ b - a = omega arith in rw e (ap (λ ys. x ∷ ys) (take-part a b xs (omega arith)))

  module _ (n : ℕ) (starts : List ℕ) (xs : List A) (p : AreParts n starts xs) where
    parts-total : (j : ℕ) → j ≤ n → total_below j (λ k. total g (part starts xs k)) ≡ total g (take (get_or starts j 0) xs)
    parts-total zero h = rw p.first refl
    parts-total (suc j) h =
        let n : j + 1 ≡ suc j = add-one j in
        let up : get_or starts j 0 ≤ get_or starts (suc j) 0 = rw n at (p.rising j (omega arith)) in
        ap (λ m. total_below j (λ k. total g (part starts xs k)) +ℚ total g (slice_range xs (get_or starts j 0) (get_or starts m 0))) n
        ∙ ap (λ t. t +ℚ total g (slice_range xs (get_or starts j 0) (get_or starts (suc j) 0))) (parts-total j (omega arith))
        ∙ sym (ap (total g) (take-part (get_or starts j 0) (get_or starts (suc j) 0) xs up) ∙ total-append g _ _)

    pub all-parts : total_below n (λ k. total g (part starts xs k)) ≡ total g xs
    all-parts = parts-total n (omega arith) ∙ ap (total g) (rw p.last (take-whole xs))
      where
        take-whole : (ys : List A) → take (length ys) ys ≡ ys
        take-whole [] = refl
        take-whole (y ∷ ys) = ap (λ zs. y ∷ zs) (take-whole ys)

-- whole numbers
pub whole-sum_by : {A : Type 0} (f : A → ℕ) (xs : List A) → whole (sum_by f xs) ≡ total (λ x. whole (f x)) xs
whole-sum_by f [] = refl
whole-sum_by f (x ∷ xs) = rw (sum_by-cons f x xs, whole-add, whole-sum_by f xs) refl
