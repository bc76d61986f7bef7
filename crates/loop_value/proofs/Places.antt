-- The places of a vector: what is written to all, sums over them one by one, and the two sides.
use Rattle.std.proofs.Common.{◌≡◌, ℕ, ◌+◌, ◌^◌, ◌<◌, ◌≤◌, true, false, List, ◌++◌, length, sum, get_or, take, drop, sym, ap, ◌∙◌, arith}
use Rattle.std.proofs.Math.Seq.{take-append_seam}
use Rattle.std.specs.Prelude.{Bool, if◌then◌else◌}
use Rattle.sil_fraction.specs.Sum.{sum_below}
use Rattle.sil_fraction.proofs.Sums.{sum-none, sum-next, sum-add, sum-same}
use Rattle.vector_laws.proofs.Masses.{part-le, sum_of}
use Rattle.loop_value.specs.Ends.{sum_down, sum_up}

-- what is written through a slice of the whole
pub written : (n : ℕ) (new old : List ℕ) → length new ≡ length old → n ≡ length old → take n (new ++ drop (length new) old) ≡ new
written n new old as_many all = rw (all, ← as_many) (take-append_seam new (drop (length new) old))

-- one place more
pub next_place : (k : ℕ) (f : ℕ → ℕ) (s x : ℕ) → s ≡ sum_below k f → x ≡ f k → s + x ≡ sum_below (k + 1) f
next_place k f s x e g = omega (arith, e, g, sum-next k f)

-- a number counts on one of both sides
one_side : (up : Bool) (x : ℕ) → (if up then 0 else x) + (if up then x else 0) ≡ x
one_side true x = omega arith
one_side false x = omega arith

module _ (up : List Bool) (v : List ℕ) where
  abbrev down_at : ℕ → ℕ
  down_at i = if get_or up i false then 0 else get_or v i 0

  abbrev up_at : ℕ → ℕ
  up_at i = if get_or up i false then get_or v i 0 else 0

  both : (k : ℕ) → sum_below k down_at + sum_below k up_at ≡ sum_below k (λ i. get_or v i 0)
  both k = sym (sum-add k down_at up_at) ∙ sum-same k _ (λ i. get_or v i 0) (λ i h. one_side (get_or up i false) (get_or v i 0))

  -- what is down and what is up come to all
  pub sides_all : sum_down up v + sum_up up v ≡ sum v
  sides_all = both (length v) ∙ sym (sum_of v)

-- the sides of the first k places
pub record AreSidesBelow (k : ℕ) (up : List Bool) (v : List ℕ) (down above : ℕ) : Type 0 where
  pub is_down : down ≡ sum_below k (down_at up v)
  pub is_up : above ≡ sum_below k (up_at up v)

module _ (up : List Bool) (v : List ℕ) where
  pub sides-none : (down above : ℕ) → down ≡ 0 → above ≡ 0 → AreSidesBelow 0 up v down above
  sides-none down above d u = record { is_down = d ∙ sym (sum-none _); is_up = u ∙ sym (sum-none _) }

  module _ (k down above : ℕ) (are : AreSidesBelow k up v down above) where
    together : down + above ≡ sum_below k (λ i. get_or v i 0)
    together = omega (arith, are.is_down, are.is_up, both up v k)

    pub sides-room : k < length v → sum v ≤ 2 ^ 48 → (x : ℕ) → x ≡ get_or v k 0 → down + above + x ≤ 2 ^ 48
    sides-room within mass x e = omega (arith, together, part-le v k within, mass, e)

    pub sides-more : (x down' above' : ℕ) → x ≡ get_or v k 0 → down' ≡ down + (if get_or up k false then 0 else x) → above' ≡ above + (if get_or up k false then x else 0)
        → AreSidesBelow (k + 1) up v down' above'
    sides-more x down' above' e d u = record {
      is_down = d ∙ next_place k (down_at up v) down _ are.is_down (ap (λ (y : ℕ). if get_or up k false then 0 else y) e);
      is_up = u ∙ next_place k (up_at up v) above _ are.is_up (ap (λ (y : ℕ). if get_or up k false then y else 0) e);
    }

  module _ (k down above : ℕ) (are : AreSidesBelow k up v down above) (end : k ≡ length v) where
    pub sides-down : down ≡ sum_down up v
    sides-down = are.is_down ∙ ap (λ (n : ℕ). sum_below n (down_at up v)) end

    pub sides-up : above ≡ sum_up up v
    sides-up = are.is_up ∙ ap (λ (n : ℕ). sum_below n (up_at up v)) end
