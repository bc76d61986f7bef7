-- What the beats of a phase bring where each subsystem passes them for itself, all numbers lowered below the beats of the loop.
use Rattle.std.specs.Prelude.{◌≡◌, ℕ, ◌+◌, ◌*◌, ◌≤◌, List, length, sum}
use Rattle.sil_fraction.specs.Fraction.{◌≤ℚ◌}
use Rattle.sil_fraction.specs.Sum.{total_below}
use Rattle.sil_model.specs.Series.{Values, times}
use Rattle.sil_model.specs.Sizes.{states_of}
use Rattle.lumped_laws.specs.ValueLists.{beat_list, mean_list}
use Rattle.vector_laws.specs.Vectors.{weigh}
use Rattle.product_chain.specs.Kept.{ChainValue}
use Rattle.uniformise.specs.Beat.{hours_of_beat, dwell_loss}
use Rattle.phase_run.specs.Passes.{block_beat_loss}
use Rattle.phase_separate.specs.Passes.{along_loss}
use Rattle.phase_separate.specs.Subsystems.{matrix_loss}

module _ (c : ChainValue) (m : ℕ) where
  -- the vector after m beats
  pub record IsAtEnd (start later : List ℕ) : Type 0 where
    pub weighed : (N : ℕ) → 16 ≤ N → (f : Values ℕ) → weigh later f ≤ℚ weigh start (times (beat_list c.of.subsystems N (hours_of_beat c)) m f)
    pub kept : sum later ≤ sum start
    pub lack : sum start ≤ sum later + m * block_beat_loss c.of.subsystems

  -- the sum of the vectors at the start of each of them
  pub record IsSumOfStarts (start sums : List ℕ) : Type 0 where
    pub size : length sums ≡ length start
    pub weighed : (N : ℕ) → 16 ≤ N → (f : Values ℕ)
        → weigh sums f ≤ℚ weigh start (λ i. total_below m (λ j. times (beat_list c.of.subsystems N (hours_of_beat c)) j f i))
    pub kept : sum sums ≤ m * sum start
    pub lack : m * sum start + along_loss c
        ≤ sum sums + m * m * matrix_loss c.of.subsystems + m * along_loss c + 9 * (m * m) + states_of c.of.subsystems

  -- what is dwelt in them, from the sum of the vectors at the start of each
  pub record IsDwelling (sums dwell : List ℕ) : Type 0 where
    pub size : length dwell ≡ length sums
    pub weighed : (N : ℕ) → 16 ≤ N → (f : Values ℕ) → weigh dwell f ≤ℚ weigh sums (mean_list c.of.subsystems N (hours_of_beat c) f)
    pub kept : sum dwell ≤ sum sums
    pub lack : sum sums ≤ sum dwell + m * dwell_loss c.of.subsystems 16 + m * states_of c.of.subsystems
