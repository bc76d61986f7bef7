-- The step at the places: it is linear, and many beats of it are no greater than those of the step of all values.
use Rattle.std.proofs.Common.{◌≡◌, ℕ, zero, suc, ◌<◌, List, length, get_or, refl, sym, ap, ◌∙◌, arith}
use mathlib.Core.Path.{fun_ext}
use Rattle.sil_fraction.specs.Fraction.{Fraction, ◌+ℚ◌, ◌*ℚ◌, ◌≤ℚ◌, ratio}
use Rattle.sil_fraction.specs.Sum.{total_below}
use Rattle.sil_fraction.proofs.Laws.{le_refl, le_trans, le_of_same, mul_assoc, mul-le-left, mul-le-right}
use Rattle.sil_fraction.proofs.Sums.{below-le, below-add, mul-below, add-mul, add-le-add}
use Rattle.sil_model.specs.Series.{Values, times, beat_of, mean_of}
use Rattle.model_laws.specs.Polynomial.{IsLinear, means_of}
use Rattle.model_laws.proofs.Operators.{times-linear}
use Rattle.model_laws.proofs.Beats.{beat-linear}
use Rattle.lumped_laws.specs.ValueLists.{tick_list}
use Rattle.lumped_laws.proofs.LinearLists.{linear_laws}
use Rattle.product_chain.specs.Weights.{one_at}
use Rattle.place_chain.specs.PlaceChain.{PlaceChainValue, AreInOrder, at_places, spread, step_at, step_of_places}
use Rattle.place_chain.specs.Phases.{PlacesLaw, AreTaken, AreOne, ScatteredLaw}
use Rattle.vector_laws.specs.Vectors.{weigh}
use Rattle.vector_laws.proofs.Weighing.{weigh-all-le}
use Rattle.place_chain.proofs.Places.{spread-le}
use Rattle.place_chain.proofs.Scattered.{weigh-gathered, weigh-taken}

module _ (places : List ℕ) where
  abbrev at : Values ℕ → Values ℕ
  at f = at_places places f

  -- read at the places, the one is no greater than the other
  abbrev IsNoGreater : (Values ℕ → Values ℕ) → (Values ℕ → Values ℕ) → Type 0
  IsNoGreater A B = (f : Values ℕ) (k : ℕ) → A (at f) k ≤ℚ at (B f) k

  module _ (A B : Values ℕ → Values ℕ) (linear : IsLinear A) (less : IsNoGreater A B) where
    times-less : (n : ℕ) → IsNoGreater (times A n) (times B n)
    times-less zero f k = le_refl _
    times-less (suc n) f k = le_trans _ _ _ (linear.grows (times A n (at f)) (at (times B n f)) (times-less n f) k) (less (times B n f) k)

    beat-less : (N : ℕ) → IsNoGreater (beat_of A N) (beat_of B N)
    unfolding beat_of
    beat-less N f k = mul-le-right _ _ _ (below-le (suc N) _ _ (λ j h. mul-le-left _ _ _ (times-less j f k)))

    mean-less : (N : ℕ) → IsNoGreater (mean_of A N) (mean_of B N)
    unfolding mean_of
    mean-less N f k = mul-le-right _ _ _ (below-le N _ _ (λ j h. mul-le-left _ _ _ (times-less j f k)))

  -- what is dwelt in many beats
  means-less : (A B C D : Values ℕ → Values ℕ) → IsLinear A → IsNoGreater A B → IsNoGreater C D → (n : ℕ) → IsNoGreater (means_of A C n) (means_of B D n)
  means-less A B C D linear less other n f k = below-le n _ _ (λ j h.
      le_trans _ _ _ ((times-linear A linear j).grows (C (at f)) (at (D f)) (other f) k) (times-less A B linear less j (D f) k))

  module _ (rising : (k l : ℕ) → k < l → l < length places → get_or places k 0 < get_or places l 0) (T : Values ℕ → Values ℕ) (t : IsLinear T) where
    abbrev m : ℕ
    m = length places

    abbrev p : ℕ → ℕ
    p k = get_or places k 0

    spread-adds : (f g : Values ℕ) → spread places (λ i. f i +ℚ g i) ≡ (λ i. spread places f i +ℚ spread places g i)
    unfolding spread
    spread-adds f g = fun_ext (λ i. ap (total_below m) (fun_ext (λ k. add-mul (f k) (g k) (one_at (p k) i)))
        ∙ below-add m (λ k. f k *ℚ one_at (p k) i) (λ k. g k *ℚ one_at (p k) i))

    spread-scales : (c : Fraction) (f : Values ℕ) → spread places (λ i. c *ℚ f i) ≡ (λ i. c *ℚ spread places f i)
    unfolding spread
    spread-scales c f = fun_ext (λ i. ap (total_below m) (fun_ext (λ k. mul_assoc c (f k) (one_at (p k) i)))
        ∙ sym (mul-below m c (λ k. f k *ℚ one_at (p k) i)))

    spread-grows : (f g : Values ℕ) → ((k : ℕ) → f k ≤ℚ g k) → (i : ℕ) → spread places f i ≤ℚ spread places g i
    unfolding spread
    spread-grows f g le i = below-le m _ _ (λ k h. mul-le-right _ _ _ (le k))

    spread-less : (f : Values ℕ) (i : ℕ) → spread places (at f) i ≤ℚ f i
    unfolding spread
    spread-less f i = spread-le p f i m rising

    pub step-linear : IsLinear (step_at places T)
    unfolding step_at
    step-linear = record {
      adds = λ f g. ap (λ (v : Values ℕ). at (T v)) (spread-adds f g) ∙ ap at (t.adds (spread places f) (spread places g));
      scales = λ c f. ap (λ (v : Values ℕ). at (T v)) (spread-scales c f) ∙ ap at (t.scales c (spread places f));
      grows = λ f g le k. t.grows (spread places f) (spread places g) (spread-grows f g le) (p k);
    }

    pub step-less : IsNoGreater (step_at places T) T
    unfolding step_at
    step-less f k = t.grows (spread places (at f)) f (spread-less f) (p k)

    pub phase-less : (N n : ℕ) → IsNoGreater (times (beat_of (step_at places T) N) n) (times (beat_of T N) n)
    phase-less N n = times-less (beat_of (step_at places T) N) (beat_of T N) (beat-linear (step_at places T) step-linear N)
        (beat-less (step_at places T) T step-linear step-less N) n

    pub dwell-less : (N n : ℕ) → IsNoGreater (means_of (beat_of (step_at places T) N) (mean_of (step_at places T) N) n)
        (means_of (beat_of T N) (mean_of T N) n)
    dwell-less N n = means-less (beat_of (step_at places T) N) (beat_of T N) (mean_of (step_at places T) N) (mean_of T N)
        (beat-linear (step_at places T) step-linear N) (beat-less (step_at places T) T step-linear step-less N)
        (mean-less (step_at places T) T step-linear step-less N) n

pub places_law : (r : PlaceChainValue) → AreInOrder r.chain.of.subsystems r.places → PlacesLaw r
places_law r placed =
    let T : Values ℕ → Values ℕ = λ f. tick_list r.chain.of.subsystems (ratio r.chain.hours r.chain.beats) f in
    let linear : IsLinear T = (linear_laws r.chain.of.subsystems).tick (ratio r.chain.hours r.chain.beats) in
    record {
      linear = step-linear r.places placed.rising T linear;
      after = phase-less r.places placed.rising T linear;
      during = dwell-less r.places placed.rising T linear;
    }

-- vectors over the places, and what they are scattered to
module _ (r : PlaceChainValue) (placed : AreInOrder r.chain.of.subsystems r.places) where
  abbrev step : Values ℕ → Values ℕ
  step f = tick_list r.chain.of.subsystems (ratio r.chain.hours r.chain.beats) f

  one-weight : (wide small : List ℕ) → AreOne r wide small → (f : Values ℕ) → weigh small (at_places r.places f) ≡ weigh wide f
  one-weight wide small is f =
      weigh-gathered r.places wide small placed.rising (λ k h. omega (arith, placed.below k h, is.taken.size)) is.taken.gathered is.within f

  -- what is elsewhere is left out
  taken-weight : (wide small : List ℕ) → AreTaken r wide small → (f : Values ℕ) → weigh small (at_places r.places f) ≤ℚ weigh wide f
  taken-weight wide small is f = weigh-taken r.places wide small placed.rising (λ k h. omega (arith, placed.below k h, is.size)) is.gathered f

  pub scattered_law : (order m : ℕ) (before small : List ℕ) → AreTaken r before small → ScatteredLaw r order m before small
  scattered_law order m before small is = record {
    after = λ end small_end one known. record {
      weighed = λ T linear e N high f.
          let g : Values ℕ = times (beat_of step N) m f in
          rw (e) (le_trans _ _ _ (le_of_same _ _ (sym (one-weight end small_end one f)))
          (le_trans _ _ _ (known.weighed (step_of_places r) law.linear refl N high (at_places r.places f))
          (le_trans _ _ _ (weigh-all-le small _ _ (law.after N m f)) (taken-weight before small is g))));
    };
    dwelt = λ old small_old new small_new one other known. record {
      weighed = λ T linear e N high f.
          let g : Values ℕ = means_of (beat_of step N) (mean_of step N) m f in
          let most : weigh small (means_of (beat_of (step_of_places r) N) (mean_of (step_of_places r) N) m (at_places r.places f)) ≤ℚ weigh before g =
          le_trans _ _ _ (weigh-all-le small _ _ (law.during N m f)) (taken-weight before small is g) in
          rw (e) (le_trans _ _ _ (le_of_same _ _ (sym (one-weight new small_new other f)))
          (le_trans _ _ _ (known.weighed (step_of_places r) law.linear refl N high (at_places r.places f))
          (add-le-add _ _ _ _ (le_of_same _ _ (one-weight old small_old one f)) most)));
    };
  }
    where
      law : PlacesLaw r
      law = places_law r placed
