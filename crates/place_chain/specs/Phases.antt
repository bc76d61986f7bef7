-- The step at the places against that of all values: many beats of it, and what is dwelt in them, are no greater.
use Rattle.std.specs.Prelude.{◌≡◌, ℕ, List, length}
use Rattle.sil_fraction.specs.Fraction.{◌≤ℚ◌, ratio}
use Rattle.sil_model.specs.Series.{Values, times, beat_of, mean_of}
use Rattle.model_laws.specs.Polynomial.{IsLinear, means_of}
use Rattle.sil_model.specs.Sizes.{states_of}
use Rattle.lumped_laws.specs.ValueLists.{tick_list, beat_list, mean_list, phase_list}
use Rattle.vector_laws.specs.Block.{IsAfter, IsDwelt}
use Rattle.place_chain.specs.PlaceChain.{PlaceChainValue, IsWithin, IsGatheredFrom, at_places, step_of_places}

module _ (r : PlaceChainValue) where
  pub record PlacesLaw : Type 0 where
    pub linear : IsLinear (step_of_places r)
    -- after m beats, and in all of them
    pub after : (N m : ℕ) (f : Values ℕ) (k : ℕ) → times (beat_of (step_of_places r) N) m (at_places r.places f) k
        ≤ℚ at_places r.places (phase_list r.chain.of.subsystems N (ratio r.chain.hours r.chain.beats) m f) k
    pub during : (N m : ℕ) (f : Values ℕ) (k : ℕ) → means_of (beat_of (step_of_places r) N) (mean_of (step_of_places r) N) m (at_places r.places f) k
        ≤ℚ at_places r.places (means_of (beat_list r.chain.of.subsystems N (ratio r.chain.hours r.chain.beats))
        (mean_list r.chain.of.subsystems N (ratio r.chain.hours r.chain.beats)) m f) k

  -- a vector, and its numbers at the places
  pub record AreTaken (wide small : List ℕ) : Type 0 where
    pub size : length wide ≡ states_of r.chain.of.subsystems
    pub gathered : IsGatheredFrom r.places wide small

  -- and the vector holds nothing elsewhere
  pub record AreOne (wide small : List ℕ) : Type 0 where
    pub taken : AreTaken wide small
    pub within : IsWithin r.places wide

  -- the step of the places, and that of all values
  abbrev pub IsStepOfPlaces : (Values ℕ → Values ℕ) → Type 0
  IsStepOfPlaces T = T ≡ step_of_places r

  abbrev pub IsStepOfAll : (Values ℕ → Values ℕ) → Type 0
  IsStepOfAll T = T ≡ tick_list r.chain.of.subsystems (ratio r.chain.hours r.chain.beats)

  -- what m beats over the places leave, scattered, is what m beats leave; and so is what is dwelt in them
  pub record ScatteredLaw (order m : ℕ) (before small : List ℕ) : Type 0 where
    pub after : (end small_end : List ℕ) → AreOne end small_end → IsAfter IsStepOfPlaces order m small small_end → IsAfter IsStepOfAll order m before end
    pub dwelt : (old small_old new small_new : List ℕ) → AreOne old small_old → AreOne new small_new
        → IsDwelt IsStepOfPlaces order m small small_old small_new → IsDwelt IsStepOfAll order m before old new
