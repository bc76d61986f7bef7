-- The share of the repair crews as a quotient of small whole numbers, and at a count vector.
use Rattle.std.specs.Prelude.{◌≡◌, ℕ, zero, suc, ◌+◌, ◌<◌, ◌≤◌, List, [], ◌∷◌}
use Rattle.sil_fraction.specs.Fraction.{Fraction, ratio}
use Rattle.sil_model.specs.Events.{share_of}
use Rattle.sil_model.specs.declared.parts.Chan.TheVariants.{Repair}
use Rattle.sil_model.specs.declared.parts.Subsystem.{Subsystem}
use Rattle.channel_counts.specs.GroupSums.{sum_in}
use Rattle.common_cause.specs.declared.share.Share.{Share}
use Rattle.common_cause.specs.LumpEvents.{span_of}

-- the share that each channel has where so many channels of its subsystem are in repair
unfoldable pub share_in : Subsystem → ℕ → Share
share_in u n = record { num = 1; den = 1 }

abbrev pub share_value : Share → Fraction
share_value share = ratio share.num share.den

-- above 0, at most 1, and of small parts
pub record IsSmallShare (share : Share) : Type 0 where
  pub some : 0 < share.num
  pub most : share.num ≤ share.den
  pub small : share.den ≤ 8

-- it is the share of the definitions
pub record IsShareOf (u : Subsystem) (n : ℕ) (share : Share) : Type 0 where
  pub value : share_value share ≡ share_of u n
  pub parts : IsSmallShare share

-- the share in the subsystem of a number, where the groups of the first begin with the number g
abbrev pub shares_by_counts : ℕ → List Subsystem → List ℕ → ℕ → Share
shares_by_counts g [] cs i = record { num = 1; den = 1 }
shares_by_counts g (u ∷ us) cs zero = share_in u (sum_in cs g (span_of u) Repair)
shares_by_counts g (u ∷ us) cs (suc i) = shares_by_counts (g + span_of u) us cs i

-- the share that each channel in repair of the subsystem of a number has, at a count vector
abbrev pub share_at : List Subsystem → List ℕ → ℕ → Share
share_at us cs i = shares_by_counts 0 us cs i
