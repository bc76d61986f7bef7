use Rattle.place_chain.proofs.Phases.{places_law as law, scattered_law as scattered}
use Rattle.place_chain.proofs.places_law.Goals as goal

pub returns : goal.returns
returns c = record {
  law = λ r closed. law r closed;
  scattered = λ r closed order m before small is. scattered r closed order m before small is;
}
