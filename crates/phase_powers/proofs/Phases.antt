-- The matrices of one beat from their rows, those of a phase from these, and what a vector passes by them.
use Rattle.std.proofs.Common.{◌≡◌, ℕ, ◌+◌, ◌*◌, ◌^◌, ◌<◌, ◌≤◌, List, length, sum, slice_index, ◌∙◌, sym, arith}
use Rattle.std.proofs.Math.Nat.{mul-le-mul_left}
use Rattle.sil_fraction.proofs.Laws.{zero-add}
use Rattle.sil_model.specs.Series.{Values, times}
use Rattle.sil_model.specs.Budget.{beat_loss_of}
use Rattle.sil_model.specs.Sizes.{states_of}
use Rattle.model_laws.specs.Polynomial.{IsLinear, means_of}
use Rattle.lumped_laws.proofs.LinearLists.{linear_laws}
use Rattle.vector_laws.specs.Vectors.{IsMass}
use Rattle.vector_laws.proofs.Masses.{sum-none, place-le}
use Rattle.vector_laws.proofs.Weighing.{weigh-none}
use Rattle.product_chain.specs.Kept.{ChainValue}
use Rattle.phase_run.specs.Passes.{Passes}
use Rattle.uniformise.specs.Beat.{hours_of_beat, vector_loss, dwell_loss}
use Rattle.dense_power.specs.Powers.{end_lack_of, dwell_lack_of}
use Rattle.vector_laws.specs.Matrix.{Matrix, IsRowProductDown, EachEntryAtMost}
use Rattle.vector_laws.specs.Rows.{row_of, IsBelowOperator, EachRowAtMost, EachRowNear}
use Rattle.dense_power.proofs.Pairs.{dwell_entries, entries_of_rows}
use Rattle.dense_power.proofs.RowProducts.{product_weighs, product_most, product_least}
use Rattle.phase_powers.specs.Pairs.{beat_at, mean_at, IsRowPair, IsBeatPair, IsPhasePair}
use Rattle.phase_powers.proofs.Losses.{end_loss, dwell_lack}

module _ (c : ChainValue) (order : ℕ) (end dwell : Matrix) where
  pub beat_pair : end.size ≡ states_of c.of.subsystems → dwell.size ≡ states_of c.of.subsystems
      → ((k : ℕ) → k < states_of c.of.subsystems → IsRowPair c order k (row_of end k) (row_of dwell k)) → IsBeatPair c order end dwell
  beat_pair end_size dwell_size rows =
      let at_end : (k : ℕ) → k < end.size → IsRowPair c order k (row_of end k) (row_of dwell k) = λ k h. rows k (omega (arith, end_size)) in
      let at_dwell : (k : ℕ) → k < dwell.size → IsRowPair c order k (row_of end k) (row_of dwell k) = λ k h. rows k (omega (arith, dwell_size)) in
      record {
        end_size = end_size;
        dwell_size = dwell_size;
        ends = λ N within. record { row = λ k h f. (at_end k h).end_weighs N within f };
        dwells = λ N within. record { row = λ k h f. (at_dwell k h).dwell_weighs N within f };
        end_rows = record { row = λ k h. (at_end k h).end_most };
        dwell_rows = record { row = λ k h. (at_dwell k h).dwell_most };
        end_near = record { row = λ k h. (at_end k h).end_least };
        dwell_near = record { row = λ k h. (at_dwell k h).dwell_least };
      }

  -- from what is said of the powers of a pair
  pub phase_pair : (one_end one_dwell : Matrix) (beats : ℕ) → IsBeatPair c order one_end one_dwell → beats ≡ c.beats
      → end.size ≡ one_end.size → dwell.size ≡ one_end.size
      → ((G : Values ℕ → Values ℕ) → IsBelowOperator one_end G → IsBelowOperator end (times G beats))
      → ((G M : Values ℕ → Values ℕ) → IsLinear G → IsBelowOperator one_end G → IsBelowOperator one_dwell M
      → IsBelowOperator dwell (means_of G M beats))
      → EachRowAtMost end (2 ^ 48) → EachRowAtMost dwell (beats * 2 ^ 48)
      → ((r : ℕ) → EachRowNear one_end (2 ^ 48) r → EachRowNear end (2 ^ 48) (end_lack_of one_end.size r beats))
      → ((r d : ℕ) → EachRowNear one_end (2 ^ 48) r → EachRowNear one_dwell (2 ^ 48) d
      → EachRowNear dwell (beats * 2 ^ 48) (dwell_lack_of one_end.size r d beats))
      → IsPhasePair c order end dwell
  phase_pair one_end one_dwell beats one e end_size dwell_size ends dwells end_rows dwell_rows end_lack dwell_near = record {
    end_size = end_size ∙ one.end_size;
    dwell_size = dwell_size ∙ one.end_size;
    ends = λ N within. rw e at (ends (beat_at c order N) (one.ends N within));
    dwells = λ N within.
        rw e at
        (dwells (beat_at c order N) (mean_at c order N) ((linear_laws c.of.subsystems).beat N (hours_of_beat c)) (one.ends N within) (one.dwells N within));
    end_rows = end_rows;
    dwell_rows = rw e at dwell_rows;
    end_near = rw (e, one.end_size) at (end_lack (vector_loss c.of.subsystems order) one.end_near);
    dwell_near = rw (e, one.end_size) at
        (dwell_near (vector_loss c.of.subsystems order) (dwell_loss c.of.subsystems order) one.end_near one.dwell_near);
  }

  module _ (pair : IsPhasePair c order end dwell) where
    once : EachRowAtMost end (1 * 2 ^ 48)
    once = record { row = λ k h. omega (arith, pair.end_rows.row k h) }

    -- their entries are no greater than a product allows
    pub end_entries : EachEntryAtMost end (2 ^ 48)
    end_entries = entries_of_rows end (2 ^ 48) pair.end_rows

    pub dwell_sum_entries : c.beats ≤ 1_000_000 → EachEntryAtMost dwell (2 ^ 68)
    dwell_sum_entries few = dwell_entries dwell c.beats few pair.dwell_rows

    module _ (v after zeros dwelt : List ℕ) (long : length v ≡ states_of c.of.subsystems) (mass : IsMass v)
        (ends : IsRowProductDown v end after) (dwells : IsRowProductDown v dwell dwelt)
        (blank : length zeros ≡ states_of c.of.subsystems) (none : (k : ℕ) → k < length zeros → slice_index zeros k ≡ 0) where
      end_long : length v ≡ end.size
      end_long = long ∙ sym pair.end_size

      dwell_long : length v ≡ dwell.size
      dwell_long = long ∙ sym pair.dwell_size

      dwelt_most : sum dwelt ≤ c.beats * sum v
      dwelt_most = product_most v dwell dwelt dwell_long dwells c.beats pair.dwell_rows

      after_most : sum after ≤ 1 * sum v
      after_most = product_most v end after end_long ends 1 once

      after_least : 1 * sum v ≤ sum after + (end.size + end_lack_of (states_of c.of.subsystems) (vector_loss c.of.subsystems order) c.beats)
      after_least = product_least v end after end_long ends 1 _ mass (record { row = λ k h. omega (arith, pair.end_near.row k h) })

      dwelt_least : c.beats * sum v ≤ sum dwelt
          + (dwell.size + dwell_lack_of (states_of c.of.subsystems) (vector_loss c.of.subsystems order) (dwell_loss c.of.subsystems order) c.beats)
      dwelt_least = product_least v dwell dwelt dwell_long dwells c.beats _ mass pair.dwell_near

      pub phase_passes : states_of c.of.subsystems ≤ 64 → 16 ≤ order → 0 < c.beats
          → Passes c order (beat_loss_of c.of.subsystems order) c.beats v after zeros dwelt
      phase_passes few least some = record {
        size = dwells.size ∙ pair.dwell_size ∙ sym blank;
        ended = record {
          weighed = λ T t b N within f. rw b (product_weighs v end after end_long ends (times (beat_at c order N) c.beats) (pair.ends N within) f);
        };
        dwelt = record {
          weighed = λ T t b N within f.
              rw (b, weigh-none zeros none f, zero-add)
              (product_weighs v dwell dwelt dwell_long dwells (means_of (beat_at c order N) (mean_at c order N) c.beats) (pair.dwells N within) f);
        };
        kept = omega (arith, after_most);
        lack = omega (arith, after_least, pair.end_size, end_loss c.of.subsystems order c.beats few least some);
        dwell_kept = omega (arith, dwelt_most);
        dwell_lack = omega (arith, dwelt_least, pair.dwell_size, sum-none zeros none, dwell_lack c.of.subsystems order c.beats few least some);
        grows = λ k h. (
          omega (arith, none k h),
          omega (arith, place-le dwelt k, dwelt_most, mul-le-mul_left c.beats mass),
        );
      }
