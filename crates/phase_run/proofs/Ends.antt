-- What running a phase promises, from what its beats pass and from the mean that is made of their dwell.
use Rattle.std.proofs.Common.{◌≡◌, ℕ, ◌+◌, ◌*◌, ◌/◌, ◌^◌, ◌<◌, ◌≤◌, List, length, sum, slice_index, refl, arith}
use Rattle.sil_fraction.specs.Fraction.{◌+ℚ◌, ◌*ℚ◌, ◌≤ℚ◌, whole, ratio}
use Rattle.sil_model.specs.Series.{Values}
use Rattle.sil_model.specs.Budget.{beat_loss_of}
use Rattle.sil_model.specs.Sizes.{states_of}
use Rattle.model_laws.specs.Polynomial.{means_of}
use Rattle.lumped_laws.specs.ValueLists.{beat_list, mean_list, phase_list, phase_mean_list}
use Rattle.vector_laws.specs.Laws.{AreFloors}
use Rattle.vector_laws.specs.Vectors.{weigh}
use Rattle.vector_laws.proofs.Masses.{sum-none}
use Rattle.product_chain.specs.Kept.{ChainValue}
use Rattle.uniformise.specs.Beat.{hours_of_beat}
use Rattle.phase_run.specs.Passes.{Passes}
use Rattle.phase_run.specs.Runs.{RunsPhase}
use Rattle.phase_run.proofs.Beats.{phase_weighs, dwelt_weighs}
use Rattle.phase_run.proofs.Means.{mean_weighs, mean_most, mean_least, hours_weigh, hours_most, hours_least, hours_grow}

module _ (c : ChainValue) (order beats hours : ℕ) (some : 0 < beats) (is_beats : beats ≡ c.beats) (is_hours : hours ≡ c.hours)
    (v after zeros dwell : List ℕ) (none : (k : ℕ) → k < length zeros → slice_index zeros k ≡ 0)
    (passes : Passes c order (beat_loss_of c.of.subsystems order) beats v after zeros dwell) where
  timed : hours_of_beat c ≡ ratio hours beats
  timed = rw (is_hours, is_beats) refl

  ends : (N : ℕ) → order ≤ N → (f : Values ℕ) → weigh after f ≤ℚ weigh v (phase_list c.of.subsystems N (ratio hours beats) beats f)
  ends = rw timed at (phase_weighs c order beats v after passes.ended)

  kept : sum after ≤ sum v
  kept = passes.kept

  lack : sum v ≤ sum after + beats * beat_loss_of c.of.subsystems order
  lack = passes.lack

  -- what the vector dwells
  means : ℕ → Values ℕ → Values ℕ
  means N f = means_of (beat_list c.of.subsystems N (ratio hours beats)) (mean_list c.of.subsystems N (ratio hours beats)) beats f

  dwelt : (N : ℕ) → order ≤ N → (f : Values ℕ) → weigh dwell f ≤ℚ weigh v (means N f)
  unfolding means
  dwelt = rw timed at (dwelt_weighs c order beats v zeros dwell none passes.dwelt)

  most : sum dwell ≤ beats * sum v
  most = omega (arith, passes.dwell_kept, sum-none zeros none)

  least : beats * sum v ≤ sum dwell + beats * beats * beat_loss_of c.of.subsystems order
  least = omega (arith, passes.dwell_lack, sum-none zeros none)

  pub small : (k : ℕ) → k < length dwell → slice_index dwell k ≤ beats * 2 ^ 48
  small k h = let inside : k < length zeros = omega (arith, passes.size) in omega (arith, (passes.grows k inside).1, none k inside)

  module _ (mean : List ℕ) (floors : AreFloors beats dwell mean) where
    mean_encloses : (N : ℕ) → order ≤ N → (f : Values ℕ) → weigh mean f ≤ℚ weigh v (phase_mean_list c.of.subsystems N (ratio hours beats) beats f)
    unfolding means
    mean_encloses N within f = mean_weighs v dwell beats some mean floors f (means N f) (dwelt N within f)

    mean_kept : sum mean ≤ sum v
    mean_kept = mean_most v dwell beats some mean floors most

    mean_lack : sum v ≤ sum mean + beats * beat_loss_of c.of.subsystems order + length mean
    mean_lack = mean_least v dwell beats some mean floors (beat_loss_of c.of.subsystems order) least

  module _ (old new : List ℕ) (old_long : length old ≡ length dwell) (new_long : length new ≡ length dwell)
      (added : (k : ℕ) → k < length dwell → slice_index new k ≡ slice_index old k + hours * slice_index dwell k / beats) where
    hours_enclose : (N : ℕ) → order ≤ N → (f : Values ℕ)
        → weigh new f ≤ℚ weigh old f +ℚ whole hours *ℚ weigh v (phase_mean_list c.of.subsystems N (ratio hours beats) beats f)
    unfolding means
    hours_enclose N within f = hours_weigh v dwell beats some hours old new old_long new_long added f (means N f) (dwelt N within f)

    hours_kept : sum new ≤ sum old + hours * sum v
    hours_kept = hours_most v dwell beats some hours old new old_long new_long added most

    hours_lack : sum old + hours * sum v ≤ sum new + hours * (beats * beat_loss_of c.of.subsystems order) + length old
    hours_lack = hours_least v dwell beats some hours old new old_long new_long added (beat_loss_of c.of.subsystems order) least

    grow : (k : ℕ) → k < length old → (slice_index old k ≤ slice_index new k) × (slice_index new k ≤ slice_index old k + hours * 2 ^ 48)
    grow = hours_grow v dwell beats some hours old new old_long new_long added small

  module _ (mean : List ℕ) (floors : AreFloors beats dwell mean) (old new : List ℕ)
      (added : (k : ℕ) → k < length dwell → slice_index new k ≡ slice_index old k + hours * slice_index dwell k / beats)
      (blank : length zeros ≡ states_of c.of.subsystems) (old_size : length old ≡ states_of c.of.subsystems) (new_size : length new ≡ length old) where
    all : length dwell ≡ states_of c.of.subsystems
    all = omega (arith, passes.size, blank)

    old_long : length old ≡ length dwell
    old_long = omega (arith, all, old_size)

    new_long : length new ≡ length dwell
    new_long = omega (arith, all, old_size, new_size)

    size : length mean ≡ states_of c.of.subsystems
    size = omega (arith, floors.same_length, all)

    pub runs_phase : RunsPhase c.of.subsystems order hours beats v after mean old new
    runs_phase = record {
      encloses = record {
        ends = ends;
        means = mean_encloses mean floors;
        dwells = hours_enclose old new old_long new_long added;
      };
      keeps = record {
        ends = kept;
        means = mean_kept mean floors;
        dwells = hours_kept old new old_long new_long added;
        grows = grow old new old_long new_long added;
      };
      loses = record {
        ends = lack;
        means = rw size at (mean_lack mean floors);
        dwells = rw old_size at (hours_lack old new old_long new_long added);
      };
    }
