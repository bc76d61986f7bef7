-- The band of an interval as a function of its ends.
use Rattle.std.specs.Prelude.{◌≡◌, ℕ, ◌*◌, nat_lt, ◌==◌, if◌then◌else◌}
use Rattle.sil_model.specs.Bands.{IsBandOf, pfd_edge}
use Rattle.sil_model.specs.declared.answers.Band.{Band}
use Rattle.sil_model.specs.declared.answers.Band.TheVariants.{Beyond4, Sil4, Sil3, Sil2, Sil1, NoSil, Undecided}

-- the place of a band, in their order
abbrev pub place_of : Band → ℕ
place_of Beyond4 = 0
place_of Sil4 = 1
place_of Sil3 = 2
place_of Sil2 = 3
place_of Sil1 = 4
place_of NoSil = 5
place_of Undecided = 6

-- the band that holds a number, where SIL 4 begins at the edge
abbrev pub band_at : ℕ → ℕ → Band
band_at edge x =
    if nat_lt x edge then Beyond4 else
    if nat_lt x (10 * edge) then Sil4 else
    if nat_lt x (100 * edge) then Sil3 else
    if nat_lt x (1000 * edge) then Sil2 else
    if nat_lt x (10_000 * edge) then Sil1 else
    NoSil

-- the band that holds both ends
abbrev pub band_of : ℕ → ℕ → ℕ → Band
band_of edge lo hi = if place_of (band_at edge lo) == place_of (band_at edge hi) then band_at edge lo else Undecided

-- that of an interval of PFDavg, in units of 10^-18
unfoldable pub pfd_band_of : ℕ → ℕ → Band
pfd_band_of lo hi = band_of pfd_edge lo hi

-- an interval has one band, and this is it
pub record HasOneBand : Type 0 where
  pub pfd : (lo hi : ℕ) → IsBandOf pfd_edge lo hi (pfd_band_of lo hi)
  pub one : (edge lo hi : ℕ) (b c : Band) → IsBandOf edge lo hi b → IsBandOf edge lo hi c → b ≡ c
