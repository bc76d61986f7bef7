-- The beats of a phase, one after another.
use Rattle.std.proofs.Common.{◌≡◌, ℕ, ◌<◌, ◌≤◌, List, length, slice_index, refl}
use Rattle.sil_fraction.specs.Fraction.{◌+ℚ◌, ◌≤ℚ◌}
use Rattle.sil_fraction.proofs.Laws.{zero-add}
use Rattle.sil_model.specs.Series.{Values}
use Rattle.model_laws.specs.Polynomial.{means_of}
use Rattle.lumped_laws.specs.ValueLists.{tick_list, beat_list, mean_list, phase_list}
use Rattle.lumped_laws.proofs.LinearLists.{linear_laws}
use Rattle.product_chain.specs.Kept.{ChainValue}
use Rattle.vector_laws.specs.Vectors.{weigh}
use Rattle.vector_laws.proofs.Weighing.{weigh-none}
use Rattle.vector_laws.specs.Block.{IsAfter, IsDwelt}
use Rattle.uniformise.specs.Beat.{hours_of_beat, IsStep}

-- after all of them
module _ (c : ChainValue) (order beats : ℕ) (v : List ℕ) where
  pub phase_weighs : (after : List ℕ) → IsAfter (IsStep c) order beats v after
      → (N : ℕ) → order ≤ N → (f : Values ℕ) → weigh after f ≤ℚ weigh v (phase_list c.of.subsystems N (hours_of_beat c) beats f)
  phase_weighs after h N within f = h.weighed (tick_list c.of.subsystems (hours_of_beat c))
      ((linear_laws c.of.subsystems).tick (hours_of_beat c)) refl N within f

  -- what was dwelt in them, from a dwell of nothing on
  pub dwelt_weighs : (zeros dwell : List ℕ) → ((k : ℕ) → k < length zeros → slice_index zeros k ≡ 0) → IsDwelt (IsStep c) order beats v zeros dwell
      → (N : ℕ) → order ≤ N → (f : Values ℕ) → weigh dwell f ≤ℚ weigh v (means_of (beat_list c.of.subsystems N (hours_of_beat c))
      (mean_list c.of.subsystems N (hours_of_beat c)) beats f)
  dwelt_weighs zeros dwell none h N within f =
      let all : Values ℕ = means_of (beat_list c.of.subsystems N (hours_of_beat c)) (mean_list c.of.subsystems N (hours_of_beat c)) beats f in
      let begun : weigh dwell f ≤ℚ weigh zeros f +ℚ weigh v all = h.weighed (tick_list c.of.subsystems (hours_of_beat c))
      ((linear_laws c.of.subsystems).tick (hours_of_beat c)) refl N within f in
      rw (weigh-none zeros none f, zero-add) at begun
