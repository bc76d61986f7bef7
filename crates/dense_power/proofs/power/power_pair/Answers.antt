use Rattle.std.proofs.Common.{◌≡◌, ℕ, ◌+◌, ◌-◌, ◌*◌, ◌/◌, ◌%◌, ◌^◌, ◌∙◌, arith, All}
use Rattle.vector_laws.specs.Matrix.{Matrix}
use Rattle.dense_power.specs.Powers.{IsJoined}
use Rattle.dense_power.proofs.Pairs.{IsPair, one_beat, twice, one_more, entries_of_rows, dwell_entries}
use Rattle.dense_power.proofs.Digits.{first_digit, next_digit, all_digits, digits_le, place_below, counted, place_made}
use Rattle.dense_power.proofs.Scratch.{first_written, second_written, sizes_in_front, sizes_behind}
use Rattle.dense_power.proofs.power.power_pair.Goals as goal

pub loop-place-init : goal.loop-place-init
loop-place-init g c =
    let one : c.args.beats / 2 ^ c.ilog2-place.result ≡ 1 =
    first_digit c.args.beats c.ilog2-place.result c.ilog2-place.ensures.power_le c.ilog2-place.ensures.next_power_gt in
    let s : ℕ = c.args.end.now.size in
    let back : All (λ (m : Matrix). m.size ≡ s) c.split_at_mut-one.result.1.now =
    sizes_behind s 2 c.args.scratch.now _ c.requires.scratch_size c.split_at_mut-one.ensures.back in
    let end : All (λ (m : Matrix). m.size ≡ s) c.split_at_mut-next_end.result.0.now = sizes_in_front s 1 _ _ back c.split_at_mut-next_end.ensures.front in
    let dwell : All (λ (m : Matrix). m.size ≡ s) c.split_at_mut-next_end.result.1.now = sizes_behind s 1 _ _ back c.split_at_mut-next_end.ensures.back in
    record {
      some = omega (arith, one);
      pair = rw one (one_beat c.args.end.now c.args.dwell.now c.requires.dwell_size c.requires.end_rows c.requires.dwell_rows);
      next_end = end 0 _ (omega (arith, c.split_at_mut-next_end.ensures.front_len));
      next_dwell = dwell 0 _ (omega (arith, c.split_at_mut-next_end.ensures.back_len, c.split_at_mut-one.ensures.back_len, c.requires.four));
      steps = omega arith;
    }

pub double-requires-clause-end_small : goal.double-requires-clause-end_small
double-requires-clause-end_small g c = entries_of_rows c.loop-place.end (2 ^ 48) c.loop-place.invariant.pair.end_rows

pub double-requires-clause-dwell_small : goal.double-requires-clause-dwell_small
double-requires-clause-dwell_small g c =
    dwell_entries c.loop-place.dwell _ (omega (arith, digits_le c.args.beats c.loop-place.place, c.requires.few)) c.loop-place.invariant.pair.dwell_rows

pub add_beat-requires-clause-end_small : goal.add_beat-requires-clause-end_small
add_beat-requires-clause-end_small g c =
    let i = c.loop-place.invariant in
    let pair : IsPair c.args.end.now c.args.dwell.now _ c.double.new.end c.double.new.dwell =
    twice _ _ (c.args.beats / 2 ^ c.loop-place.place) _ _ _ _ i.some i.pair c.double.ensures.joined in
    entries_of_rows c.double.new.end (2 ^ 48) pair.end_rows

pub add_beat-requires-clause-dwell_small : goal.add_beat-requires-clause-dwell_small
add_beat-requires-clause-dwell_small g c =
    let i = c.loop-place.invariant in
    let m : ℕ = c.args.beats / 2 ^ c.loop-place.place in
    let pair : IsPair c.args.end.now c.args.dwell.now (m + m) c.double.new.end c.double.new.dwell = twice _ _ m _ _ _ _ i.some i.pair c.double.ensures.joined in
    dwell_entries c.double.new.dwell (m + m)
    (omega (arith, next_digit c.args.beats c.loop-place.place c.loop-place-test.true, digits_le c.args.beats (c.loop-place.place - 1), c.requires.few))
    pair.dwell_rows

pub add_beat-requires-clause-one_end_small : goal.add_beat-requires-clause-one_end_small
add_beat-requires-clause-one_end_small g c =
    let e : c.index-one-0-2.result ≡ c.args.end.now = first_written _ _ _ _ c.split_at_mut-one.ensures.front_len c.index-one-0-2.is ∙ c.copy_from.ensures in
    rw e (entries_of_rows c.args.end.now (2 ^ 48) c.requires.end_rows)

pub add_beat-requires-clause-one_dwell_small : goal.add_beat-requires-clause-one_dwell_small
add_beat-requires-clause-one_dwell_small g c =
    let e : c.index-one-1-2.result ≡ c.args.dwell.now = second_written _ _ _ _ c.split_at_mut-one.ensures.front_len c.index-one-1-2.is
    ∙ c.copy_from-2.ensures in
    rw e (dwell_entries c.args.dwell.now 1 (omega arith) (record { row = λ i h. omega (arith, c.requires.dwell_rows.row i h) }))

pub loop-place-preserved-then-beats-place-eq1 : goal.loop-place-preserved-then-beats-place-eq1
loop-place-preserved-then-beats-place-eq1 g c =
    let i = c.loop-place.invariant in
    let p : ℕ = c.loop-place.place in
    let m : ℕ = c.args.beats / 2 ^ p in
    let odd : c.args.beats / 2 ^ (p - 1) % 2 ≡ 1 = c.if-beats-place-eq1.true in
    let next : c.args.beats / 2 ^ (p - 1) ≡ m + m + 1 = omega (arith, next_digit c.args.beats p c.loop-place-test.true, odd) in
    let pair : IsPair c.args.end.now c.args.dwell.now (m + m) c.double.new.end c.double.new.dwell = twice _ _ m _ _ _ _ i.some i.pair c.double.ensures.joined in
    let one_end : c.index-one-0-2.result ≡ c.args.end.now = first_written _ _ _ _ c.split_at_mut-one.ensures.front_len c.index-one-0-2.is
    ∙ c.copy_from.ensures in
    let one_dwell : c.index-one-1-2.result ≡ c.args.dwell.now = second_written _ _ _ _ c.split_at_mut-one.ensures.front_len c.index-one-1-2.is
    ∙ c.copy_from-2.ensures in
    let joined : IsJoined c.double.new.end c.double.new.dwell c.args.end.now c.args.dwell.now c.add_beat.new.end c.add_beat.new.dwell =
    rw (one_end, one_dwell) at c.add_beat.ensures.joined in
    let size : c.loop-place.end.size ≡ c.args.end.now.size = i.pair.end_size in
    let twice_size : c.double.new.end.size ≡ c.args.end.now.size = pair.end_size in
    record {
      some = omega (arith, next);
      pair = rw next (one_more c.args.end.now c.args.dwell.now (m + m) _ _ _ _ (omega (arith, i.some))
          c.requires.dwell_size c.requires.end_rows c.requires.dwell_rows pair joined);
      next_end = c.add_beat.ensures.sizes.0 ∙ twice_size;
      next_dwell = c.add_beat.ensures.sizes.1 ∙ twice_size;
      steps = place_made (c.args.end.now.size ^ 3) c.loop-place.steps c.add_beat.new.steps _ p c.loop-place-test.true
          i.steps (omega (arith, rw size at c.double.ensures.steps, rw twice_size at c.add_beat.ensures.steps));
    }

pub loop-place-preserved : goal.loop-place-preserved
loop-place-preserved g c =
    let i = c.loop-place.invariant in
    let p : ℕ = c.loop-place.place in
    let m : ℕ = c.args.beats / 2 ^ p in
    let even : c.args.beats / 2 ^ (p - 1) % 2 ≡ 1 → ⊥ = c.if-beats-place-eq1.false in
    let next : c.args.beats / 2 ^ (p - 1) ≡ m + m = omega (arith, next_digit c.args.beats p c.loop-place-test.true, even) in
    let pair : IsPair c.args.end.now c.args.dwell.now (m + m) c.double.new.end c.double.new.dwell = twice _ _ m _ _ _ _ i.some i.pair c.double.ensures.joined in
    let size : c.loop-place.end.size ≡ c.args.end.now.size = i.pair.end_size in
    record {
      some = omega (arith, next, i.some);
      pair = rw next pair;
      next_end = c.double.ensures.sizes.0 ∙ size;
      next_dwell = c.double.ensures.sizes.1 ∙ size;
      steps = place_made (c.args.end.now.size ^ 3) c.loop-place.steps c.double.new.steps _ p c.loop-place-test.true
          i.steps (omega (arith, rw size at c.double.ensures.steps));
    }

pub returns-clause-dwells : goal.returns-clause-dwells
returns-clause-dwells g c = λ G M linear below means.
    let last : c.loop-place.place ≡ 0 = omega arith in
    let all : c.args.beats / 2 ^ c.loop-place.place ≡ c.args.beats = rw last (all_digits c.args.beats) in
    rw all at (c.loop-place.invariant.pair.dwells G M linear below means)

pub returns-clause-steps : goal.returns-clause-steps
returns-clause-steps g c = λ digits room.
    counted (4 * c.args.end.now.size ^ 3) c.loop-place.steps c.args.steps.now c.ilog2-place.result digits
    (omega (arith, c.loop-place.invariant.steps)) (place_below c.args.beats c.ilog2-place.result digits c.ilog2-place.ensures.power_le room)
