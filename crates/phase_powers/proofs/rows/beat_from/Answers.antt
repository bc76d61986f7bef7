use Rattle.std.proofs.Common.{◌≡◌, ℕ, ◌<◌, length, slice_index, arith}
use Rattle.std.proofs.lemmas.List.{get_or-replicate}
use Rattle.phase_powers.proofs.Units.{unit_mass, made_row}
use Rattle.phase_powers.proofs.rows.beat_from.Goals as goal

pub beat-requires-clause-mass : goal.beat-requires-clause-mass
beat-requires-clause-mass g c =
    let none : (k : ℕ) → k < length c.fill.new.self → slice_index c.fill.new.self k ≡ 0 =
    λ k h. rw (c.fill.ensures.after (λ y e. e)) (get_or-replicate (length c.args.end.now) k 0 0 (omega (arith, c.fill.ensures.len))) in
    omega (arith, unit_mass c.fill.new.self none c.args.i (omega (arith, c.fill.ensures.len)))

pub returns-clause-rows : goal.returns-clause-rows
returns-clause-rows g c =
    let none : (k : ℕ) → k < length c.fill.new.self → slice_index c.fill.new.self k ≡ 0 =
    λ k h. rw (c.fill.ensures.after (λ y e. e)) (get_or-replicate (length c.args.end.now) k 0 0 (omega (arith, c.fill.ensures.len))) in
    let no_dwell : (k : ℕ) → k < length c.fill-2.new.self → slice_index c.fill-2.new.self k ≡ 0 =
    λ k h. rw (c.fill-2.ensures.after (λ y e. e)) (get_or-replicate (length c.args.dwell.now) k 0 0 (omega (arith, c.fill-2.ensures.len))) in
    made_row c.fill.new.self none c.args.i (omega (arith, c.fill.ensures.len)) c.args.phase.now.chain.now c.args.phase.now.weights.now c.fill-2.new.self
    c.beat.new.v c.beat.new.dwell no_dwell c.beat.ensures.encloses c.beat.ensures.dwells c.beat.ensures.kept c.beat.ensures.lack
    c.beat.ensures.dwell_kept c.beat.ensures.dwell_lack
