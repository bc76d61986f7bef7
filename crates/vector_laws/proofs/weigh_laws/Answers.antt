use Rattle.vector_laws.proofs.Masses.{sum-more, sum-scaled, sum-with}
use Rattle.vector_laws.proofs.Weighing.{weigh-add, weigh-mul, weigh-total, weigh-constant, weigh-le}
use Rattle.vector_laws.proofs.Weighing.{weigh-each-le, weigh_of_nothing, weigh-more, weigh-scaled, weigh-with}
use Rattle.vector_laws.proofs.weigh_laws.Goals as goal

pub returns : goal.returns
returns c v = record {
  of_sums = weigh-add v;
  scaled = weigh-mul v;
  exchanged = weigh-total v;
  constant = weigh-constant v;
  value_by_value = weigh-le v;
  number_by_number = weigh-each-le v;
  of_nothing = weigh_of_nothing v;
  one_more = weigh-more v;
  one_more_mass = sum-more v;
  scaled_numbers = λ a f. weigh-scaled a v f;
  scaled_mass = λ a. sum-scaled a v;
  with_another = λ a w more h. weigh-with a v w more h;
  mass_with_another = λ a w more h. sum-with a v w more h;
}
