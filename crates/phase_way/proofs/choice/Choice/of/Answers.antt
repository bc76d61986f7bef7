use Rattle.std.proofs.Common.{arith}
use Rattle.phase_way.proofs.choice.Choice.of.Goals as goal

pub returns-clause-choice : goal.returns-clause-choice
returns-clause-choice c = rw c.of.ensures (record {
  states = c.requires.states;
  few = c.requires.few;
  events = c.lumped_events.ensures.events;
  few_events = omega (arith, c.lumped_events.ensures.few);
  least = c.requires.least;
  greatest = c.requires.greatest;
  extent = c.extent_of.ensures;
})
