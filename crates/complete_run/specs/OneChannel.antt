-- One channel without tests, for a year.
use Rattle.std.specs.Prelude.{codes, ◌^◌, [], ◌∷◌, None}
use Rattle.sil_model.specs.LoopValue.{LoopValue}
use Rattle.sil_model.specs.declared.parts.InRepair.TheVariants.{Lost}

-- one dangerous undetected failure in a million hours, and a repair of eight hours; every other figure is the default
abbrev pub one_channel : LoopValue
one_channel = record {
  mission = 8760;
  order = 28;
  subsystems = record {
    name = codes "sif";
    vote = record { m = 1; n = 1 };
    figures = record { du = 10 ^ 6; dd = 0; beta = 0; beta_d = 0; coverage = 1000; restart_fault = 0; repair = 8 };
    in_repair = Lost;
    test = None;
  } ∷ [];
}
