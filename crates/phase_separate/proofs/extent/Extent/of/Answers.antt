use Rattle.std.proofs.Common.{arith}
use Rattle.phase_separate.proofs.extent.Extent.of.Goals as goal

pub invariant_of-result : goal.invariant_of-result
invariant_of-result c = rw c.of.ensures (record {
  states = c.requires.states;
  events = c.lumped_events.ensures.events;
  subsystems = c.len-subsystems.ensures.len;
  sums = c.in_ok-sums.ensures.sums;
  few_states = c.requires.few;
  few_events = omega (arith, c.lumped_events.ensures.few);
  few = omega (arith, c.len-subsystems.ensures.len, c.len-subsystems.ensures.valid.few.below);
})
