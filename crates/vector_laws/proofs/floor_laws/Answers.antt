use Rattle.vector_laws.proofs.Floors.{weigh-floor, floor-most, floor-least}
use Rattle.vector_laws.proofs.floor_laws.Goals as goal

pub returns : goal.returns
returns c P sums out some h = record {
  weighed = weigh-floor P some sums out h;
  most = floor-most P some sums out h;
  least = floor-least P some sums out h;
}
