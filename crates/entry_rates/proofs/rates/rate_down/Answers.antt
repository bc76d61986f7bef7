use Rattle.std.proofs.Common.{arith, sym, ap, ◌∙◌}
use Rattle.entry_rates.specs.Entered.{failure_units_of}
use Rattle.entry_rates.proofs.Turn.{never, stays-up, goes-down}
use Rattle.entry_rates.proofs.rates.rate_down.Goals as goal

pub returns-then-times-eq0 : goal.returns-then-times-eq0
returns-then-times-eq0 c = never c.requires.counts c.requires.event c.times-times.ensures.times (omega arith)

pub happen-requires-clause-counts : goal.happen-requires-clause-counts
happen-requires-clause-counts c = rw c.copy_from_slice.ensures.after c.requires.counts

pub happen-requires-clause-happens : goal.happen-requires-clause-happens
happen-requires-clause-happens c = rw c.copy_from_slice.ensures.after (omega (arith, c.times-times.ensures.times))

pub is_up-requires : goal.is_up-requires
is_up-requires c = c.happen.ensures.valid

pub overflow_mul-result : goal.overflow_mul-result
overflow_mul-result c =
    let moved = rw c.copy_from_slice.ensures.after at c.happen.ensures.moves in
    let units = sym (ap failure_units_of c.in-Fails.is) in
    let rate = goes-down c.requires.counts c.requires.event (c.from.ensures ∙ c.times-times.ensures.times) (omega (arith, c.from.ensures)) moved c.is_up.ensures c.if-is_up.false c.in-Fails.units units in
    rw rate (record { fits = c.requires.small })

pub returns-then-is_up : goal.returns-then-is_up
returns-then-is_up c =
    let moved = rw c.copy_from_slice.ensures.after at c.happen.ensures.moves in
    stays-up c.requires.counts c.requires.event c.times-times.ensures.times (omega arith) moved c.is_up.ensures c.if-is_up.true

pub returns-else-is_up : goal.returns-else-is_up
returns-else-is_up c =
    let moved = rw c.copy_from_slice.ensures.after at c.happen.ensures.moves in
    let units = sym (ap failure_units_of c.in-Fails.is) in
    goes-down c.requires.counts c.requires.event (c.from.ensures ∙ c.times-times.ensures.times) (omega (arith, c.from.ensures)) moved c.is_up.ensures c.if-is_up.false c.in-Fails.units units
