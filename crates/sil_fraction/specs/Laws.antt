-- The laws of fractions, as they are cited by name.
use Rattle.std.specs.Prelude.{◌≡◌, ℕ, ◌+◌, ◌*◌, ◌<◌, ◌≤◌, ◌⊎◌, List, ◌++◌}
use Rattle.sil_fraction.specs.Fraction.{Fraction, ◌+ℚ◌, ◌-ℚ◌, ◌*ℚ◌, ◌≤ℚ◌, whole, ratio, inverse}
use Rattle.sil_fraction.specs.Sum.{total, total_below}

-- the order is total, and equal in both directions means equal
pub record OrderLaws : Type 0 where
  pub reflexive : (x : Fraction) → x ≤ℚ x
  pub transitive : (x y z : Fraction) → x ≤ℚ y → y ≤ℚ z → x ≤ℚ z
  pub antisymmetric : (x y : Fraction) → x ≤ℚ y → y ≤ℚ x → x ≡ y
  pub total_order : (x y : Fraction) → (x ≤ℚ y) ⊎ (y ≤ℚ x)
  pub none_below_zero : (x : Fraction) → whole 0 ≤ℚ x
  pub sums_keep_it : (a b c d : Fraction) → a ≤ℚ b → c ≤ℚ d → a +ℚ c ≤ℚ b +ℚ d
  pub products_keep_it : (a b c d : Fraction) → a ≤ℚ b → c ≤ℚ d → a *ℚ c ≤ℚ b *ℚ d
  pub sums_cancel : (x y z : Fraction) → x +ℚ z ≤ℚ y +ℚ z → x ≤ℚ y

-- sums, products, differences and inverses
pub record RingLaws : Type 0 where
  pub sums_commute : (x y : Fraction) → x +ℚ y ≡ y +ℚ x
  pub sums_associate : (x y z : Fraction) → (x +ℚ y) +ℚ z ≡ x +ℚ (y +ℚ z)
  pub zero_adds_nothing : (x : Fraction) → whole 0 +ℚ x ≡ x
  pub products_commute : (x y : Fraction) → x *ℚ y ≡ y *ℚ x
  pub products_associate : (x y z : Fraction) → (x *ℚ y) *ℚ z ≡ x *ℚ (y *ℚ z)
  pub one_times : (x : Fraction) → whole 1 *ℚ x ≡ x
  pub zero_times : (x : Fraction) → whole 0 *ℚ x ≡ whole 0
  pub products_distribute : (x y z : Fraction) → x *ℚ (y +ℚ z) ≡ x *ℚ y +ℚ x *ℚ z
  pub differences : (x y : Fraction) → y ≤ℚ x → (x -ℚ y) +ℚ y ≡ x
  pub inverses : (x : Fraction) → (x ≡ whole 0 → ⊥) → x *ℚ inverse x ≡ whole 1

-- whole numbers and quotients of them
pub record WholeLaws : Type 0 where
  pub sums : (m n : ℕ) → whole (m + n) ≡ whole m +ℚ whole n
  pub products : (m n : ℕ) → whole (m * n) ≡ whole m *ℚ whole n
  pub keep_order : (m n : ℕ) → m ≤ n → whole m ≤ℚ whole n
  pub show_order : (m n : ℕ) → whole m ≤ℚ whole n → m ≤ n
  pub same_quotient : (m d n e : ℕ) → 0 < d → 0 < e → m * e ≡ n * d → ratio m d ≡ ratio n e
  pub quotient_keeps_order : (m d n e : ℕ) → 0 < d → 0 < e → m * e ≤ n * d → ratio m d ≤ℚ ratio n e
  pub quotient_shows_order : (m d n e : ℕ) → 0 < d → 0 < e → ratio m d ≤ℚ ratio n e → m * e ≤ n * d

-- finite sums
pub record FiniteSumLaws : Type 0 where
  pub of_sums : (n : ℕ) (f g : ℕ → Fraction) → total_below n (λ k. f k +ℚ g k) ≡ total_below n f +ℚ total_below n g
  pub scaled : (n : ℕ) (c : Fraction) (f : ℕ → Fraction) → c *ℚ total_below n f ≡ total_below n (λ k. c *ℚ f k)
  pub term_by_term : (n : ℕ) (f g : ℕ → Fraction) → ((k : ℕ) → k < n → f k ≤ℚ g k) → total_below n f ≤ℚ total_below n g
  pub split_at : (m n : ℕ) (f : ℕ → Fraction) → total_below (m + n) f ≡ total_below m f +ℚ total_below n (λ k. f (m + k))
  pub exchanged : (m n : ℕ) (f : ℕ → ℕ → Fraction) → total_below m (λ i. total_below n (f i)) ≡ total_below n (λ k. total_below m (λ i. f i k))
  pub of_lists : (f : ℕ → Fraction) (xs ys : List ℕ) → total f (xs ++ ys) ≡ total f xs +ℚ total f ys
