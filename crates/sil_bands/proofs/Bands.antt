-- An interval has one band, and which it is.
use Rattle.std.proofs.Common.{◌≡◌, ◌∙◌, ℕ, zero, suc, ◌*◌, ◌<◌, ◌≤◌, Bool, true, false, refl, sym, ap, subst, arith}
use Rattle.std.specs.Prelude.{nat_lt, ◌==◌, if◌then◌else◌}
use Rattle.std.proofs.lemmas.Bool.{false≢true}
use Rattle.std.proofs.lemmas.Bool.Decides.{nat_tests, Decides-eqb}
use Rattle.sil_bands.specs.BandOf.{place_of, band_at, pfd_band_of, HasOneBand}
use Rattle.sil_model.specs.Bands.{IsInBand, IsBandOf, pfd_edge}
use Rattle.sil_model.specs.declared.answers.Band.{Band}
use Rattle.sil_model.specs.declared.answers.Band.TheVariants.{Beyond4, Sil4, Sil3, Sil2, Sil1, NoSil, Undecided}

-- a number lies in one band
one_at : (edge x : ℕ) (b c : Band) → IsInBand edge b x → IsInBand edge c x → b ≡ c
one_at edge x Undecided c h k = absurd h
one_at edge x b Undecided h k = absurd k
one_at edge x Beyond4 Beyond4 h k = refl
one_at edge x Sil4 Sil4 h k = refl
one_at edge x Sil3 Sil3 h k = refl
one_at edge x Sil2 Sil2 h k = refl
one_at edge x Sil1 Sil1 h k = refl
one_at edge x NoSil NoSil h k = refl
one_at edge x b c h k = let none : ⊥ = omega (arith, h, k) in absurd none

pub one_band : (edge lo hi : ℕ) (b c : Band) → IsBandOf edge lo hi b → IsBandOf edge lo hi c → b ≡ c
one_band edge lo hi Undecided Undecided h k = refl
one_band edge lo hi Undecided c h k = absurd (h c k.0 k.1)
one_band edge lo hi b Undecided h k = absurd (k b h.0 h.1)
one_band edge lo hi b c h k = one_at edge lo b c h.0 k.0

-- the band that the function names holds the number
below : (x y : ℕ) → true ≡ nat_lt x y → x < y
below x y h = grind (arith, nat_tests)

above : (x y : ℕ) → false ≡ nat_lt x y → y ≤ x
above x y h = grind (arith, nat_tests)

module _ (edge x : ℕ) where
  by_tests : (a b c d e : Bool) → a ≡ nat_lt x edge → b ≡ nat_lt x (10 * edge) → c ≡ nat_lt x (100 * edge) → d ≡ nat_lt x (1000 * edge) → e ≡ nat_lt x (10_000 * edge)
      → IsInBand edge (if a then Beyond4 else if b then Sil4 else if c then Sil3 else if d then Sil2 else if e then Sil1 else NoSil) x
  by_tests true b c d e p q r s t = below _ _ p
  by_tests false true c d e p q r s t = (above _ _ p, below _ _ q)
  by_tests false false true d e p q r s t = (above _ _ q, below _ _ r)
  by_tests false false false true e p q r s t = (above _ _ r, below _ _ s)
  by_tests false false false false true p q r s t = (above _ _ s, below _ _ t)
  by_tests false false false false false p q r s t = above _ _ t

  in_band : IsInBand edge (band_at edge x) x
  in_band = by_tests (nat_lt x edge) (nat_lt x (10 * edge)) (nat_lt x (100 * edge)) (nat_lt x (1000 * edge)) (nat_lt x (10_000 * edge)) refl refl refl refl refl

-- bands at one place are one
band_placed : ℕ → Band
band_placed zero = Beyond4
band_placed (suc zero) = Sil4
band_placed (suc (suc zero)) = Sil3
band_placed (suc (suc (suc zero))) = Sil2
band_placed (suc (suc (suc (suc zero)))) = Sil1
band_placed (suc (suc (suc (suc (suc zero))))) = NoSil
band_placed (suc (suc (suc (suc (suc (suc k)))))) = Undecided

is_placed : (b : Band) → band_placed (place_of b) ≡ b
unfolding band_placed
is_placed Beyond4 = refl
is_placed Sil4 = refl
is_placed Sil3 = refl
is_placed Sil2 = refl
is_placed Sil1 = refl
is_placed NoSil = refl
is_placed Undecided = refl

one_place : (b c : Band) → place_of b ≡ place_of c → b ≡ c
one_place b c e = sym (is_placed b) ∙ ap band_placed e ∙ is_placed c

-- a band that holds both ends is that of the interval
holds_both : (edge lo hi : ℕ) (b : Band) → IsInBand edge b lo → IsInBand edge b hi → IsBandOf edge lo hi b
holds_both edge lo hi Undecided h k = absurd h
holds_both edge lo hi b h k = (h, k)

of_ends : (edge lo hi : ℕ) (b c : Band) (same : Bool) → same ≡ (place_of b == place_of c) → IsInBand edge b lo → IsInBand edge c hi
    → IsBandOf edge lo hi (if same then b else Undecided)
of_ends edge lo hi b c true is h k =
    let e : b ≡ c = one_place b c ((Decides-eqb (place_of b) (place_of c)).0 (sym is)) in
    holds_both edge lo hi b h (subst (λ (d : Band). IsInBand edge d hi) (sym e) k)
of_ends edge lo hi b c false is h k = λ d in_lo in_hi.
    let e : place_of b ≡ place_of c = ap place_of (sym (one_at edge lo d b in_lo h) ∙ one_at edge hi d c in_hi k) in
    false≢true (is ∙ (Decides-eqb (place_of b) (place_of c)).1 e)

pub one_band_law : HasOneBand
unfolding pfd_band_of
one_band_law = record {
  pfd = λ lo hi. of_ends pfd_edge lo hi (band_at pfd_edge lo) (band_at pfd_edge hi) _ refl (in_band pfd_edge lo) (in_band pfd_edge hi);
  one = one_band;
}
