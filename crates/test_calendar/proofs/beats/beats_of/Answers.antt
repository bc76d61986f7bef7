use Rattle.std.proofs.Math.Nat.{mul-le-mul}
use Rattle.std.proofs.Common.{◌≡◌, ◌<◌, ◌≤◌, ◌+◌, ◌*◌, arith, sym, ◌∙◌}
use Rattle.std.proofs.lemmas.Grind.{div_ceil_times}
use Rattle.sil_model.specs.Calendar.{beats_of, beat_rate_of, ceiling}
use Rattle.test_calendar.proofs.Ceiling.{ceiling_as}
use Rattle.test_calendar.proofs.beats.beats_of.Goals as goal

pub returns-clause-beats : goal.returns-clause-beats
unfolding beats_of
returns-clause-beats c =
    let e = ceiling_as (c.args.hours * beat_rate_of c.args.l.now.subsystems) 1000000000000 (omega arith) in
    let k : c.div_ceil.result ≡ ceiling (c.args.hours * beat_rate_of c.args.l.now.subsystems) 1000000000000 = c.div_ceil.ensures ∙ rw c.beat_rate.ensures.rate (sym e) in
    omega (arith, k, c.max.ensures)

pub returns-clause-bounded : goal.returns-clause-bounded
returns-clause-bounded c =
    let most : c.args.hours * c.beat_rate.result ≤ 350_400 * 48_096_000_000_000 = mul-le-mul c.requires.few c.beat_rate.ensures.bounded in
    let t = div_ceil_times (c.args.hours * c.beat_rate.result) 1000000000000 (omega arith) in
    let k : c.div_ceil.result * 1000000000000 < c.args.hours * c.beat_rate.result + 1000000000000 = rw c.div_ceil.ensures t.1 in
    omega (arith, k, most, c.max.ensures)
