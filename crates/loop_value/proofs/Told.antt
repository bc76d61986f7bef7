-- The record of a phase, by its vectors, and records that are fed phase by phase.
use Rattle.std.proofs.Common.{◌≡◌, ℕ, suc, ◌+◌, ◌-◌, ◌*◌, ◌^◌, ◌<◌, ◌≤◌, List, [], ◌∷◌, ◌++◌, length, sum, get_or, map, take, drop, refl, sym, ap, ◌∙◌, arith, zero-add, add-zero}
use Rattle.std.specs.Prelude.{Bool}
use Rattle.std.proofs.Math.Nat.{mul-le-mul_right}
use Rattle.std.proofs.lemmas.List.{take-map, drop-map, length-append}
use Rattle.interval_fixed.proofs.Rounding.{ceiling-le, ceiling-le-ceiling, floor-le-ceiling}
use Rattle.sil_model.specs.Calendar.{phases_of}
use Rattle.sil_model.specs.Figures.{no_phase}
use Rattle.sil_model.specs.LoopValue.{LoopValue, IsValid}
use Rattle.sil_model.specs.Sizes.{states_of}
use Rattle.sil_model.specs.State.{is_up_of}
use Rattle.sil_model.specs.declared.answers.Decimal18.{Decimal18}
use Rattle.lumped_laws.specs.StateOfCounts.{state_numbered}
use Rattle.mission_laws.specs.Missions.{pfd_lower, pfd_upper}
use Rattle.mission_laws.specs.PhaseLaws.{HasPassed, HasSides, PassesBeats}
use Rattle.mission_laws.proofs.Arrived.{arrival_laws}
use Rattle.mission_laws.proofs.PhaseFigures.{phase_figure_laws}
use Rattle.sil_watch.specs.Watching.{WatcherValue, fed_of}
use Rattle.sil_watch.specs.declared.kind.WatchSet.{WatchSet}
use Rattle.sil_watch.specs.declared.record.PhaseRecord.{PhaseRecord}
use Rattle.sil_watch.proofs.Folds.{all-more, all-nothing}
use Rattle.loop_value.specs.Ends.{sum_down, sum_up}
use Rattle.loop_value.specs.Mission.{HasReached}
use Rattle.loop_value.specs.Records.{IsRecordOf, AreRecordsFrom, HasFed, HasFedInPart, HasFedPhase, HasFedPhaseInPart}
use Rattle.loop_value.proofs.Figures.{weighs_down, weighs_up}
use Rattle.loop_value.proofs.Places.{sides_all}

module _ (up : List Bool) (v : List ℕ) (mass : sum v ≤ 2 ^ 48) where
  ordered : pfd_lower (sum_down up v) ≤ pfd_upper (sum_up up v)
  ordered =
      omega (
        arith,
        floor-le-ceiling (sum_down up v * 10 ^ 18) (2 ^ 48) (omega arith),
        ceiling-le-ceiling (sum_down up v * 10 ^ 18) ((2 ^ 48 - sum_up up v) * 10 ^ 18) (2 ^ 48) (omega arith)
            (mul-le-mul_right (10 ^ 18) (omega (arith, sides_all up v, mass))),
      )

  printable : pfd_upper (sum_up up v) < 10 ^ 19
  printable = omega (arith, ceiling-le ((2 ^ 48 - sum_up up v) * 10 ^ 18) (2 ^ 48) (omega arith) (10 ^ 18) (omega arith))

  interval : Decimal18
  interval = record { lo = pfd_lower (sum_down up v); hi = pfd_upper (sum_up up v); ordered = ordered; printable = printable }

  interval-lo : interval.lo ≡ pfd_lower (sum_down up v)
  unfolding interval
  interval-lo = refl

  interval-hi : interval.hi ≡ pfd_upper (sum_up up v)
  unfolding interval
  interval-hi = refl

module _ (l : LoopValue) (valid : IsValid l) (p : ℕ) (within : p < length (phases_of l)) (up : List Bool)
    (ups : (i : ℕ) (d : Bool) → i < states_of l.subsystems → get_or up i d ≡ is_up_of l.subsystems (state_numbered l.subsystems i))
    (mean end : List ℕ) (mean_size : length mean ≡ states_of l.subsystems) (end_size : length end ≡ states_of l.subsystems) where
  mean_sides : HasSides l mean (sum_down up mean) (sum_up up mean)
  mean_sides = record { down = weighs_down l.subsystems mean mean_size up ups; up = weighs_up l.subsystems mean mean_size up ups; all = sides_all up mean }

  end_sides : HasSides l end (sum_down up end) (sum_up up end)
  end_sides = record { down = weighs_down l.subsystems end end_size up ups; up = weighs_up l.subsystems end end_size up ups; all = sides_all up end }

  pub record_is : (r : PhaseRecord) → r.index ≡ p + 1 → r.start ≡ (get_or (phases_of l) p no_phase).start → r.hours ≡ (get_or (phases_of l) p no_phase).hours
      → r.mean.lo ≡ pfd_lower (sum_down up mean) → r.mean.hi ≡ pfd_upper (sum_up up mean)
      → r.at_end.lo ≡ pfd_lower (sum_down up end) → r.at_end.hi ≡ pfd_upper (sum_up up end)
      → (order : ℕ) → 16 ≤ order → HasPassed l order p mean end → IsRecordOf l order p r
  record_is r index start hours mean_lo mean_hi end_lo end_hi order least passed = record {
    index = index;
    start = start;
    hours = hours;
    mean = λ N o. rw (mean_lo, mean_hi) ((phase_figure_laws l valid).mean order p mean end (sum_down up mean) (sum_up up mean) least within passed mean_sides N o);
    at_end = λ N o. rw (end_lo, end_hi) ((phase_figure_laws l valid).end order p mean end (sum_down up end) (sum_up up end) least within passed end_sides N o);
    mean_width = rw (mean_lo, mean_hi) ((phase_figure_laws l valid).mean_width order p mean end (sum_down up mean) (sum_up up mean) passed mean_sides);
    end_width = rw (end_lo, end_hi) ((phase_figure_laws l valid).end_width order p mean end (sum_down up end) (sum_up up end) passed end_sides);
  }

  -- a record that nobody asks for is true all the same
  module _ (mean_mass : sum mean ≤ 2 ^ 48) (end_mass : sum end ≤ 2 ^ 48) where
    pub some_record : PhaseRecord
    some_record = record {
      index = p + 1;
      start = (get_or (phases_of l) p no_phase).start;
      hours = (get_or (phases_of l) p no_phase).hours;
      mean = interval up mean mean_mass;
      at_end = interval up end end_mass;
    }

    pub some_record_is : (order : ℕ) → 16 ≤ order → HasPassed l order p mean end → IsRecordOf l order p some_record
    unfolding some_record
    some_record_is =
        record_is some_record refl refl refl (interval-lo up mean mean_mass) (interval-hi up mean mean_mass) (interval-lo up end end_mass) (interval-hi up end end_mass)

-- the vectors of a phase that is passed from where the mission has reached
pub passed : (l : LoopValue) (order p hours least most : ℕ) (dwell v mean end : List ℕ) → p < length (phases_of l) → hours ≡ (get_or (phases_of l) p no_phase).hours
    → HasReached l order p dwell v least most → PassesBeats l.subsystems order hours v mean end → HasPassed l order p mean end
passed l order p hours least most dwell v mean end within is_hours before beats =
    (arrival_laws l).over order p v mean end within before.arrived before.lost.mass before.lost.lack (rw is_hours at beats)

-- one record more
module _ (l : LoopValue) (order : ℕ) where
  records-more : (q : ℕ) (rs : List PhaseRecord) (r : PhaseRecord) → AreRecordsFrom l order q rs → IsRecordOf l order (length rs + q) r
      → AreRecordsFrom l order q (rs ++ r ∷ [])
  records-more q [] r are is = (rw (zero-add q) at is, tt)
  records-more q (s ∷ rs) r are is = let e : suc (length rs) + q ≡ length rs + suc q = omega arith in (are.0, records-more (suc q) rs r are.1 (rw e at is))

  module _ (asked : WatchSet) where
    pub fed_start : (before : List WatcherValue) → HasFed l order 0 asked before before
    fed_start before = record { records = []; number = refl; are = tt; fed = sym (all-nothing asked before) }

    module _ (p : ℕ) (before now after : List WatcherValue) (so_far : HasFed l order p asked before now) where
      more_records : (r : PhaseRecord) → IsRecordOf l order p r → AreRecordsFrom l order 0 (so_far.records ++ r ∷ [])
      more_records r is = records-more 0 so_far.records r so_far.are (rw (so_far.number, add-zero) is)

      pub fed_next : HasFedPhase l order p asked now after → HasFed l order (suc p) asked before after
      fed_next phase = record {
        records = so_far.records ++ phase.rec ∷ [];
        number = length-append so_far.records (phase.rec ∷ []) ∙ omega (arith, so_far.number);
        are = more_records phase.rec phase.is;
        fed = phase.fed ∙ ap (map (fed_of asked (phase.rec ∷ []))) so_far.fed ∙ sym (all-more asked so_far.records phase.rec before);
      }

      pub fed_part : p < length (phases_of l) → HasFedPhaseInPart l order p asked now after → HasFedInPart l order asked before after
      fed_part within phase = record {
        records = so_far.records ++ phase.rec ∷ [];
        number = omega (arith, length-append so_far.records (phase.rec ∷ []), so_far.number, within);
        are = more_records phase.rec phase.is;
        fed = record {
          count = phase.count;
          first = so_far.records;
          more = phase.rec ∷ [];
          all = refl;
          fed = phase.fed
              ∙ ap (λ (ws : List WatcherValue). map (fed_of asked (phase.rec ∷ [])) (take phase.count ws) ++ drop phase.count ws) so_far.fed
              ∙ ap (λ (ws : List WatcherValue). map (fed_of asked (phase.rec ∷ [])) ws ++ drop phase.count (map (fed_of asked so_far.records) before)) (take-map (fed_of asked so_far.records) phase.count before)
              ∙ ap (λ (ws : List WatcherValue). map (fed_of asked (phase.rec ∷ [])) (map (fed_of asked so_far.records) (take phase.count before)) ++ ws) (drop-map (fed_of asked so_far.records) phase.count before)
              ∙ ap (λ (ws : List WatcherValue). ws ++ map (fed_of asked so_far.records) (drop phase.count before)) (sym (all-more asked so_far.records phase.rec (take phase.count before)));
        };
      }

    -- no record at all
    pub fed_none : (before : List WatcherValue) → HasFedInPart l order asked before before
    fed_none before = record {
      records = [];
      number = omega arith;
      are = tt;
      fed = record { count = 0; first = []; more = []; all = refl; fed = sym (all-nothing asked before) };
    }
