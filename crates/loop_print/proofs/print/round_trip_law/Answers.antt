use Rattle.loop_print.proofs.RoundTrip.{round_trip}
use Rattle.loop_print.proofs.print.round_trip_law.Goals as goal

pub returns : goal.returns
returns c = round_trip
