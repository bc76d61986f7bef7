use Rattle.std.proofs.Common.{◌≡◌, ℕ, ◌*◌, ◌^◌, ◌<◌, ◌≤◌, length, slice_index, sum, arith}
use Rattle.std.proofs.Math.Nat.{le_of_mul-le-mul_right}
use Rattle.std.proofs.lemmas.List.{get_or-replicate}
use Rattle.vector_laws.proofs.Floors.{floor-most}
use Rattle.phase_separate.proofs.Phases.{is_dwelling}
use Rattle.phase_separate.proofs.phase.dwell_all.Goals as goal

pub beat-requires-clause-mass : goal.beat-requires-clause-mass
beat-requires-clause-mass g c =
    let most : c.args.phase.now.beats * sum c.divide.new.mean ≤ c.args.phase.now.beats * 2 ^ 48 =
    omega (arith, floor-most c.args.phase.now.beats c.requires.some c.args.visited.now c.divide.new.mean c.divide.ensures, c.requires.mass) in
    le_of_mul-le-mul_right {k = c.args.phase.now.beats} (omega (arith, most)) c.requires.some

pub returns-clause-dwell : goal.returns-clause-dwell
returns-clause-dwell g c =
    let none : (k : ℕ) → k < length c.fill.new.self → slice_index c.fill.new.self k ≡ 0 =
    λ k h. rw (c.fill.ensures.after (λ y e. e)) (get_or-replicate (length c.args.dwell.now) k 0 0 (omega (arith, c.fill.ensures.len))) in
    is_dwelling c.args.phase.now.chain.now c.args.phase.now.beats c.requires.some c.args.visited.now c.divide.new.mean c.fill.new.self c.beat.new.dwell c.multiply.new.dwell
    c.requires.visited c.divide.ensures (omega (arith, c.fill.ensures.len, c.requires.dwell)) none (omega arith)
    (rw c.requires.order at c.beat.ensures.dwells) c.beat.ensures.dwell_kept (rw c.requires.order at c.beat.ensures.dwell_lack) c.multiply.ensures
