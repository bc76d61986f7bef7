-- The bands of IEC 61508-1. Each holds its lower end and not its upper end. Numbers are in units of 10^-18.
use Rattle.std.specs.Prelude.{ℕ, ◌*◌, ◌^◌, ◌<◌, ◌≤◌}
use Rattle.sil_model.specs.declared.answers.Band.{Band}
use Rattle.sil_model.specs.declared.answers.Band.TheVariants.{Beyond4, Sil4, Sil3, Sil2, Sil1, NoSil, Undecided}

-- where the band of SIL 4 begins: at 10^-5 for PFDavg, and at 10^-9 per hour for PFH
abbrev pub pfd_edge : ℕ
pfd_edge = 10 ^ 13

abbrev pub pfh_edge : ℕ
pfh_edge = 10 ^ 9

module _ (edge : ℕ) where
  -- the number x lies in a band
  abbrev pub IsInBand : Band → ℕ → Type 0
  IsInBand Beyond4 x = x < edge
  IsInBand Sil4 x = (edge ≤ x) × (x < 10 * edge)
  IsInBand Sil3 x = (10 * edge ≤ x) × (x < 100 * edge)
  IsInBand Sil2 x = (100 * edge ≤ x) × (x < 1000 * edge)
  IsInBand Sil1 x = (1000 * edge ≤ x) × (x < 10_000 * edge)
  IsInBand NoSil x = 10_000 * edge ≤ x
  IsInBand Undecided x = ⊥

  -- the band of an interval holds both its ends, and it is undecided exactly where none does
  abbrev pub IsBandOf : ℕ → ℕ → Band → Type 0
  IsBandOf lo hi Undecided = (b : Band) → IsInBand b lo → IsInBand b hi → ⊥
  IsBandOf lo hi b = IsInBand b lo × IsInBand b hi
