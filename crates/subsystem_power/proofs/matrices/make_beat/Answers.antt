use Rattle.std.proofs.Common.{◌≡◌, ◌≢◌, ◌∙◌, arith, inl, inr}
use Rattle.std.proofs.lemmas.Bool.{cases_lt}
use Rattle.vector_laws.specs.Rows.{row_of}
use Rattle.subsystem_power.proofs.Powers.{power_of_rows}
use Rattle.subsystem_power.proofs.matrices.make_beat.Goals as goal

pub loop-i-preserved : goal.loop-i-preserved
loop-i-preserved g c =
    let i = c.loop-i.invariant in
    record {
      size = c.set_row.ensures.size ∙ i.size;
      work = c.beat_from.ensures.work ∙ i.work;
      rows = λ k h. elim (cases_lt k c.loop-i.i) [
        | inl before ↦
            let ne : k ≢ c.loop-i.i = omega arith in
            let row : row_of c.set_row.new.self k ≡ row_of c.loop-i.beat k = c.set_row.ensures.others k ne in
            rw row (i.rows k before)
        | inr after ↦
            let e : k ≡ c.loop-i.i = omega arith in
            rw (e, c.set_row.ensures.row) c.beat_from.ensures.row
      ];
      steps = omega (arith, c.beat_from.ensures.steps, i.steps);
    }

pub returns-clause-power : goal.returns-clause-power
returns-clause-power g c =
    power_of_rows c.args.chain.now c.args.weights.now c.loop-i.beat c.loop-i.invariant.size (λ k h. c.loop-i.invariant.rows k (omega arith))
