use Rattle.phase_separate.proofs.extent.size_of.Goals as goal

pub returns : goal.returns
returns c = record {
  states = c.states.ensures.states;
  events = c.lumped_events.ensures.events;
  some = c.states.ensures.some;
  few_events = c.lumped_events.ensures.few;
  few = c.states.ensures.few;
}
