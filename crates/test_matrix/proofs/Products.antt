-- Sums of products that grow product by product, and place by place.
use Rattle.std.proofs.Common.{◌≡◌, ℕ, suc, ◌+◌, ◌*◌, ◌<◌, List, length, refl, sym, ◌∙◌, arith, set, get_or, add-one, sum}
use Rattle.sil_fraction.specs.Fraction.{Fraction, ◌+ℚ◌, ◌*ℚ◌, whole}
use Rattle.sil_fraction.specs.Sum.{total_below, sum_below}
use Rattle.sil_fraction.proofs.Laws.{add_assoc, whole-mul, mul-add, mul_assoc}
use Rattle.sil_fraction.proofs.Sums.{trivial}
use Rattle.sil_model.specs.Series.{Values}
use Rattle.vector_laws.specs.Vectors.{weigh}
use Rattle.vector_laws.proofs.Masses.{sum-more}
use Rattle.vector_laws.proofs.Weighing.{weigh-more}
use Rattle.test_matrix.specs.Rows.{row_at}
use Rattle.test_matrix.specs.Spread.{walk, spread_sum, spread_mass}

pub sum_next : (n : ℕ) (f : ℕ → ℕ) → sum_below (n + 1) f ≡ sum_below n f + f n
unfolding sum_below
sum_next n f = rw add-one refl

pub next_part : (k : ℕ) (f : ℕ → ℕ) (s x : ℕ) → s ≡ sum_below k f → x ≡ f k → s + x ≡ sum_below (k + 1) f
next_part k f s x h g = omega (arith, sum_next k f, h, g)

-- where failures lead, one failure after another
pub walk_none : (failed : List ℕ) (place : ℕ) → place ≡ walk failed 0 place
unfolding walk
walk_none failed place = refl

pub walk_next : (failed : List ℕ) (k place : ℕ) → walk failed (k + 1) place ≡ get_or failed (walk failed k place) 0
unfolding walk
walk_next failed k place = rw add-one refl

-- no product yet
pub spread_none : (w : Fraction) (x : ℕ) → w ≡ w +ℚ whole x *ℚ whole 0
spread_none w x = sym (simp trivial)

-- nothing is there
pub spread_nothing : (w y : Fraction) (x : ℕ) → x ≡ 0 → w ≡ w +ℚ whole x *ℚ y
spread_nothing w y x h = rw h (sym (simp trivial))

pub mass_none : (m x : ℕ) (f : ℕ → ℕ) → m ≡ m + x * sum_below 0 f
unfolding sum_below
mass_none m x f = omega arith

-- one product more
module _ (row failed old now : List ℕ) (k at place x : ℕ) (inside : at < length now) where
  abbrev product : ℕ
  product = x * get_or row k 0

  pub spread_next : (f : Values ℕ) → at ≡ walk failed k place
      → weigh now f ≡ weigh old f +ℚ whole x *ℚ total_below k (λ k. whole (get_or row k 0) *ℚ f (walk failed k place))
      → weigh (set now at (get_or now at 0 + product)) f
      ≡ weigh old f +ℚ whole x *ℚ total_below (k + 1) (λ k. whole (get_or row k 0) *ℚ f (walk failed k place))
  spread_next f e i = weigh-more now at product f inside ∙ rw (i, add-one, mul-add, whole-mul, mul_assoc, e, add_assoc) refl

  pub mass_next : sum now ≡ sum old + x * sum_below k (λ k. get_or row k 0)
      → sum (set now at (get_or now at 0 + product)) ≡ sum old + x * sum_below (k + 1) (λ k. get_or row k 0)
  mass_next e = sum-more now at product inside ∙ rw (e, sum_next k (λ k. get_or row k 0)) (omega arith)

-- the first places of a spread, and one place more
module _ (rows : List (List ℕ)) (works settled failed v : List ℕ) where
  abbrev row_sum : ℕ → Values ℕ → Fraction
  row_sum n f =
      total_below (suc (get_or works n 0)) (λ k. whole (row_at rows (get_or works n 0) k) *ℚ f (walk failed k (get_or settled n 0)))

  pub spread_sum_none : (w : Fraction) (f : Values ℕ) → w ≡ whole 0 → w ≡ spread_sum rows works 0 settled failed v f
  unfolding spread_sum
  spread_sum_none w f h = h

  pub spread_sum_next : (n : ℕ) (a b : Fraction) (f : Values ℕ) → a ≡ spread_sum rows works n settled failed v f
      → b ≡ a +ℚ whole (get_or v n 0) *ℚ row_sum n f
      → b ≡ spread_sum rows works (n + 1) settled failed v f
  unfolding spread_sum
  spread_sum_next n a b f h g = g ∙ rw (h, add-one) refl

module _ (rows : List (List ℕ)) (works v : List ℕ) where
  pub spread_mass_none : spread_mass rows works 0 v ≡ 0
  unfolding spread_mass sum_below
  spread_mass_none = refl

  pub spread_mass_next : (n : ℕ)
      → spread_mass rows works n v + get_or v n 0 * sum_below (suc (get_or works n 0)) (row_at rows (get_or works n 0)) ≡ spread_mass rows works (n + 1) v
  unfolding spread_mass sum_below
  spread_mass_next n = rw add-one refl
