use Rattle.std.proofs.Common.{◌≡◌, ◌≢◌, ◌∙◌, arith, inl, inr}
use Rattle.std.proofs.lemmas.Bool.{cases_lt}
use Rattle.vector_laws.specs.Rows.{row_of}
use Rattle.phase_powers.proofs.Phases.{beat_pair}
use Rattle.phase_powers.proofs.rows.make_beat_pair.Goals as goal

pub loop-i-preserved : goal.loop-i-preserved
loop-i-preserved g c =
    let i = c.loop-i.invariant in
    record {
      end_size = c.set_row.ensures.size ∙ i.end_size;
      dwell_size = c.set_wide_row.ensures.size ∙ i.dwell_size;
      work = c.beat_from.ensures.work ∙ i.work;
      rows = λ k h. elim (cases_lt k c.loop-i.i) [
        | inl before ↦
            let ne : k ≢ c.loop-i.i = omega arith in
            let end : row_of c.set_row.new.self k ≡ row_of c.loop-i.end k = c.set_row.ensures.others k ne in
            let dwell : row_of c.set_wide_row.new.self k ≡ row_of c.loop-i.dwell k = c.set_wide_row.ensures.others k ne in
            rw (end, dwell) (i.rows k before)
        | inr after ↦
            let e : k ≡ c.loop-i.i = omega arith in
            rw (e, c.set_row.ensures.row, c.set_wide_row.ensures.row) c.beat_from.ensures.rows
      ];
      steps = omega (arith, c.beat_from.ensures.steps, i.steps);
    }

pub returns-clause-pair : goal.returns-clause-pair
returns-clause-pair g c =
    beat_pair c.args.phase.now.chain.now c.args.phase.now.weights.now c.loop-i.end c.loop-i.dwell c.loop-i.invariant.end_size c.loop-i.invariant.dwell_size
    (λ k h. c.loop-i.invariant.rows k (omega arith))
