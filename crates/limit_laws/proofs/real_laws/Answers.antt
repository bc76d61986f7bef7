use Rattle.limit_laws.proofs.Limits.{approached, bounds_kept, bounds_of_number, one_limit, fraction_bounds, not_empty, near_bounds, same_itself, same_turned}
use Rattle.limit_laws.proofs.Limits.{same_chained, same_limit, one_fraction}
use Rattle.limit_laws.proofs.real_laws.Goals as goal

pub returns : goal.returns
returns c = record {
  approached = approached;
  bounds_kept = bounds_kept;
  bounds_of_number = bounds_of_number;
  one_limit = one_limit;
  same_itself = same_itself;
  same_turned = same_turned;
  same_chained = same_chained;
  same_limit = same_limit;
  one_fraction = one_fraction;
  fraction_bounds = fraction_bounds;
  not_empty = not_empty;
  near_bounds = near_bounds;
}
