use Rattle.std.proofs.Common.{◌≡◌, ℕ, ◌<◌, length, slice_index, arith}
use Rattle.std.proofs.lemmas.List.{get_or-replicate}
use Rattle.subsystem_power.proofs.Units.{unit_mass, made_row}
use Rattle.subsystem_power.proofs.matrices.beat_from.Goals as goal

pub beat-requires-clause-mass : goal.beat-requires-clause-mass
beat-requires-clause-mass g c =
    let none : (k : ℕ) → k < length c.fill.new.self → slice_index c.fill.new.self k ≡ 0 =
    λ k h. rw (c.fill.ensures.after (λ y e. e)) (get_or-replicate (length c.args.end.now) k 0 0 (omega (arith, c.fill.ensures.len))) in
    omega (arith, unit_mass c.fill.new.self none c.args.i (omega (arith, c.fill.ensures.len)))

pub returns-clause-row : goal.returns-clause-row
returns-clause-row g c =
    let none : (k : ℕ) → k < length c.fill.new.self → slice_index c.fill.new.self k ≡ 0 =
    λ k h. rw (c.fill.ensures.after (λ y e. e)) (get_or-replicate (length c.args.end.now) k 0 0 (omega (arith, c.fill.ensures.len))) in
    made_row c.fill.new.self none c.args.i (omega (arith, c.fill.ensures.len)) c.args.chain.now c.args.weights.now
    c.beat.new.v c.beat.ensures.encloses c.beat.ensures.kept c.beat.ensures.lack
