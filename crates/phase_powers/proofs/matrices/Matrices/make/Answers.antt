use Rattle.std.proofs.Common.{◌≡◌, ℕ, List, ◌++◌, length, take, arith}
use Rattle.std.proofs.Math.Seq.{take-append_seam}
use Rattle.vector_laws.specs.Matrix.{Matrix}
use Rattle.model_laws.proofs.Rates.{some_beats}
use Rattle.phase_powers.specs.Pairs.{IsPhasePair}
use Rattle.phase_powers.proofs.Phases.{phase_pair}
use Rattle.phase_powers.proofs.matrices.Matrices.make.Goals as goal

-- scratch that was written over as a whole
written : (n : ℕ) (xs ys : List Matrix) → n ≡ length xs → take n (xs ++ ys) ≡ xs
written n xs ys e = rw e (take-append_seam xs ys)

pub power_pair-requires-clause-some : goal.power_pair-requires-clause-some
power_pair-requires-clause-some g c = omega (
  arith,
  some_beats c.args.phase.now.chain.now.of.subsystems c.args.phase.now.chain.now.hours,
  c.beats.ensures.timed.enough,
  c.requires.beats,
)

pub returns-clause-sound : goal.returns-clause-sound
returns-clause-sound g c =
    let p = c.power_pair.ensures in
    let pair : IsPhasePair c.args.phase.now.chain.now c.args.phase.now.weights.now c.power_pair.new.end c.power_pair.new.dwell =
    phase_pair c.args.phase.now.chain.now c.args.phase.now.weights.now c.power_pair.new.end c.power_pair.new.dwell c.make_beat_pair.new.end c.make_beat_pair.new.dwell
    c.args.phase.now.beats c.make_beat_pair.ensures.pair c.requires.beats p.end_size p.dwell_size p.ends p.dwells p.end_rows p.dwell_rows p.end_lack p.dwell_lack in
    let one = c.make_beat_pair.ensures.pair in
    record {
      end_size = omega (arith, p.end_size, one.end_size, c.requires.size);
      dwell_size = omega (arith, p.dwell_size, one.end_size, c.requires.size);
      few = c.requires.sound.few;
      four = c.requires.sound.four;
      scratch_size = rw (written c.args.self.now.scratch.len c.power_pair.new.scratch _ (omega (arith, c.power_pair.auto.scratch, c.as_mut_slice-2.ensures.len)))
          (λ k d h. omega (arith, p.scratch_size k d h, one.end_size, c.requires.size));
      kept_pair = rw c.of.ensures pair;
    }
