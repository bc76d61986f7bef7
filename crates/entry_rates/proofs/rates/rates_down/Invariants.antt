use Rattle.std.proofs.Common.{◌≡◌, ◌+◌, drop}
use Rattle.common_cause.specs.LumpEvents.{lump_events_of}
use Rattle.entry_rates.specs.Entered.{rates_down}
use Rattle.entry_rates.proofs.rates.rates_down.Given as goal

abbrev pub invariant-loop-event : goal.invariant-loop-event
invariant-loop-event l =
    l.sum + rates_down l.l.subsystems l.counts (drop l.event-index l.events) ≡ rates_down l.l.subsystems l.counts (lump_events_of l.l.subsystems)
