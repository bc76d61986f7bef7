-- The groups of a loop: one behind the other, with the channels that the calendar of tests gives them.
use Rattle.std.specs.Prelude.{◌≡◌, ℕ, ◌+◌, ◌<◌, List, [], ◌∷◌, length, take, slice_index_or}
use Rattle.sil_fraction.specs.Fraction.{ratio}
use Rattle.sil_model.specs.LoopValue.{channels_of, groups_of}
use Rattle.sil_model.specs.declared.parts.Group.{Group}
use Rattle.sil_model.specs.declared.parts.Subsystem.{Subsystem}
use Rattle.count_laws.specs.GroupChannels.{GroupChannels, group_channels_of}
use Rattle.count_laws.specs.SameCounts.{first_of}

-- the channels of all these groups
abbrev pub channels_over : List Group → ℕ
channels_over [] = 0
channels_over (g ∷ gs) = g.size + channels_over gs

-- x has the channels of the group y of a loop, and the chance of a fault at their tests
pub record IsOfGroup (us : List Subsystem) (x : GroupChannels) (y : Group) : Type 0 where
  pub first : x.first ≡ first_of us y
  pub size : x.size ≡ y.size
  pub fault : (u : Subsystem) → x.fault ≡ ratio (slice_index_or us y.subsystem u).figures.restart_fault 1_000_000

-- the group of each number
pub record GroupLaw (us : List Subsystem) : Type 0 where
  -- the calendar has its channels under its number
  pub as_many : length (group_channels_of us) ≡ length (groups_of us)
  pub channels : (g : ℕ) (x : GroupChannels) (y : Group) → g < length (groups_of us)
      → IsOfGroup us (slice_index_or (group_channels_of us) g x) (slice_index_or (groups_of us) g y)
  -- it begins where those before it end, and all groups together have the channels of the loop
  pub begins : (g : ℕ) (y : Group) → g < length (groups_of us)
      → first_of us (slice_index_or (groups_of us) g y) ≡ channels_over (take g (groups_of us))
  pub all : channels_over (groups_of us) ≡ channels_of us
