use Rattle.limit_laws.proofs.Exponentials.{beat_divided, exponentials_near, beat_orders, mean_orders}
use Rattle.limit_laws.proofs.beats_converge.Goals as goal

pub returns : goal.returns
returns c = λ T t. record {
  beats = beat_orders T t;
  means = mean_orders T t;
  divided = beat_divided T;
  exponentials = exponentials_near T t;
}
