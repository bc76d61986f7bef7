-- Bands at their edges.
use Rattle.std.proofs.Common.{◌^◌, arith}
use Rattle.sil_model.specs.Bands.{IsInBand, pfd_edge}
use Rattle.sil_model.specs.declared.answers.Band.{Band}
use Rattle.sil_model.specs.declared.answers.Band.TheVariants.{Beyond4, Sil4, Sil3, Sil2, Sil1, NoSil, Undecided}
use Rattle.model_cases.specs.Cases.{BandCases}

-- no band holds both its own lower end and the next one's
none_holds_both : (b : Band) → IsInBand pfd_edge b (10 ^ 13) → IsInBand pfd_edge b (10 ^ 14) → ⊥
none_holds_both Beyond4 h g = omega arith
none_holds_both Sil4 h g = omega arith
none_holds_both Sil3 h g = omega arith
none_holds_both Sil2 h g = omega arith
none_holds_both Sil1 h g = omega arith
none_holds_both NoSil h g = omega arith
none_holds_both Undecided h g = h

pub edges : BandCases
edges = record {
  lower_end = ((omega arith, omega arith), (omega arith, omega arith));
  upper_end = none_holds_both;
  beyond = (omega arith, omega arith);
  none = (omega arith, omega arith);
  high_demand = ((omega arith, omega arith), (omega arith, omega arith));
}
