-- Small loops whose figures were worked out apart, by hand and by a script of exact fractions.
use Rattle.std.specs.Prelude.{◌≡◌, ℕ, ◌^◌, ◌-◌, Bool, true, false, List, [], ◌∷◌, Option, None, Some}
use Rattle.sil_fraction.specs.Fraction.{ratio, whole}
use Rattle.sil_model.specs.Calendar.{test_hours_of}
use Rattle.sil_model.specs.Pay.{Item, pay_of}
use Rattle.sil_model.specs.Pay.Item.{Beat, Tests}
use Rattle.sil_model.specs.Pay.Mode.{Down, Entry, AtEnd}
use Rattle.sil_model.specs.LoopValue.{LoopValue}
use Rattle.sil_model.specs.Figures.{IsPhase, pfd_of, pfh_of, phase_mean_of, phase_end_of}
use Rattle.sil_model.specs.Bands.{IsBandOf, pfd_edge, pfh_edge}
use Rattle.sil_model.specs.declared.parts.Subsystem.{Subsystem}
use Rattle.sil_model.specs.declared.parts.TestPlan.{TestPlan}
use Rattle.sil_model.specs.declared.parts.InRepair.{InRepair}
use Rattle.sil_model.specs.declared.parts.InRepair.TheVariants.{Lost, Tripped}
use Rattle.sil_model.specs.declared.parts.Chan.TheVariants.{Work, Hidden, Deep}
use Rattle.sil_model.specs.declared.answers.Band.TheVariants.{Beyond4, Sil4, Sil1, NoSil, Undecided}

-- n channels of which one suffices, with one failure in ten hours and a repair of one hour
abbrev pub channels : ℕ → ℕ → InRepair → Option TestPlan → Subsystem
channels n beta r test = record {
  name = [];
  vote = record { m = 1; n = n };
  figures = record { du = 10 ^ 11; dd = 0; beta = beta; beta_d = 0; coverage = 1000; restart_fault = 20_000; repair = 1 };
  in_repair = r;
  test = test;
}

abbrev pub one_channel : List Subsystem
one_channel = channels 1 0 Lost None ∷ []

-- two channels, half of whose failures are common cause
abbrev pub two_channels : List Subsystem
two_channels = channels 2 500 Lost None ∷ []

-- a channel that is tested at each second hour, each second time in full
abbrev pub tested_channel : List Subsystem
tested_channel = channels 1 0 Tripped (Some (record { first = 2; every = 2; stagger = 0; full_each = 2 })) ∷ []

-- a beat of half an hour
abbrev pub half_hour : Item
half_hour = Beat (ratio 1 2) true

-- the test of the first channel, which leaves a fault once in fifty
abbrev pub test_of_first : Bool → Item
test_of_first full = Tests (record { channel = 0; full = full; fault = ratio 1 50 } ∷ [])

pub record WorkedCases : Type 0 where
  -- one channel is hidden after one beat, and was during it
  pub after_a_beat : pay_of one_channel 2 AtEnd (half_hour ∷ []) (Work ∷ []) ≡ ratio 79 2000
  pub during_a_beat : pay_of one_channel 2 Down (half_hour ∷ []) (Work ∷ []) ≡ ratio 1 160
  -- a common cause fails two channels at once
  pub common_cause : pay_of two_channels 2 AtEnd (half_hour ∷ []) (Work ∷ Work ∷ []) ≡ ratio 161 8000
  pub common_cause_entries : pay_of two_channels 2 Entry (half_hour ∷ []) (Work ∷ Work ∷ []) ≡ ratio 161 6400
  -- a partial test leaves a deep fault, and a full one sends it to repair, which is tripped
  pub partial_test : pay_of tested_channel 2 AtEnd (test_of_first false ∷ []) (Deep ∷ []) ≡ whole 1
  pub full_test : pay_of tested_channel 2 AtEnd (test_of_first true ∷ []) (Deep ∷ []) ≡ whole 0
  -- a test that leaves a fault is a passage
  pub passage : pay_of one_channel 2 Entry (test_of_first true ∷ []) (Work ∷ []) ≡ ratio 1 50
  pub no_passage : pay_of one_channel 2 Entry (test_of_first true ∷ []) (Hidden ∷ []) ≡ whole 0
  -- PFDavg of an hour in two beats
  pub two_beats : pfd_of 2 (record { mission = 1; order = 16; subsystems = one_channel }) ≡ ratio 10_241 320_000
  -- test hours before the end of the mission, and none at it
  pub test_hours : test_hours_of (record { mission = 6; order = 16; subsystems = tested_channel }) ≡ 2 ∷ 4 ∷ []

-- a channel half of whose failures a full test alone finds, with a repair of four hours, tested at each second hour
abbrev pub slow_channel : List Subsystem
slow_channel = record {
  name = [];
  vote = record { m = 1; n = 1 };
  figures = record { du = 10 ^ 11; dd = 0; beta = 0; beta_d = 0; coverage = 500; restart_fault = 20_000; repair = 4 };
  in_repair = Tripped;
  test = Some (record { first = 2; every = 2; stagger = 0; full_each = 2 });
} ∷ []

-- four hours of it: a phase of one beat before the test of the second hour, which is partial, and one after it
abbrev pub two_phases : LoopValue
two_phases = record { mission = 4; order = 16; subsystems = slow_channel }

pub record PhaseCases : Type 0 where
  -- the phases have the numbers 0 and 1, and no other
  pub numbered : IsPhase two_phases 1
  pub no_more : IsPhase two_phases 2 → ⊥
  -- PFDavg and PFH across the test; the mean of the second phase, and the ends of both
  pub average : pfd_of 1 two_phases ≡ ratio 17 500
  pub high_demand : pfh_of 1 two_phases ≡ ratio 493 5000
  pub mean : phase_mean_of 1 two_phases 1 ≡ ratio 17 250
  pub first_end : phase_end_of 1 two_phases 0 ≡ ratio 1 10
  pub second_end : phase_end_of 1 two_phases 1 ≡ ratio 781 5000
  -- PFH of an hour in two beats, by a longer series
  pub two_beats : pfh_of 2 (record { mission = 1; order = 16; subsystems = one_channel }) ≡ ratio 309_759 3_200_000

pub record BandCases : Type 0 where
  pub lower_end : IsBandOf pfd_edge (10 ^ 13) (10 ^ 14 - 1) Sil4
  pub upper_end : IsBandOf pfd_edge (10 ^ 13) (10 ^ 14) Undecided
  pub beyond : IsBandOf pfd_edge (10 ^ 13 - 1) (10 ^ 13 - 1) Beyond4
  pub none : IsBandOf pfd_edge (10 ^ 17) (10 ^ 18) NoSil
  pub high_demand : IsBandOf pfh_edge (10 ^ 12) (10 ^ 13 - 1) Sil1
