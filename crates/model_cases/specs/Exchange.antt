-- Two channels that trade places: where they are tested together nothing changes, where they are tested apart it does.
use Rattle.std.specs.Prelude.{◌≡◌, ℕ, List, [], ◌∷◌, Some}
use Rattle.sil_fraction.specs.Fraction.{Fraction, ratio, whole}
use Rattle.sil_model.specs.State.{FullState}
use Rattle.sil_model.specs.Calendar.{tests_at}
use Rattle.sil_model.specs.Pay.{Item, pay_of}
use Rattle.sil_model.specs.Pay.Item.{Tests}
use Rattle.sil_model.specs.Pay.Mode.{AtEnd}
use Rattle.sil_model.specs.declared.parts.Subsystem.{Subsystem}
use Rattle.sil_model.specs.declared.parts.InRepair.TheVariants.{Lost}
use Rattle.sil_model.specs.declared.parts.Chan.TheVariants.{Work, Hidden}
use Rattle.count_laws.specs.SameCounts.{IsSameCounts}
use Rattle.model_cases.specs.Cases.{channels, half_hour}

-- two channels, the second of which is tested so many hours after the first
abbrev pub pair : ℕ → List Subsystem
pair stagger = channels 2 0 Lost (Some (record { first = 2; every = 2; stagger = stagger; full_each = 2 })) ∷ []

-- the tests of the hour 2
abbrev pub first_tests : ℕ → Item
first_tests stagger = Tests (tests_at (record { mission = 6; order = 16; subsystems = pair stagger }) 2)

-- one channel works, and the other is hidden
abbrev pub one_way : FullState
one_way = Work ∷ Hidden ∷ []

abbrev pub other_way : FullState
other_way = Hidden ∷ Work ∷ []

-- the chance to be down after tests and other items
abbrev pub down_after : ℕ → List Item → FullState → Fraction
down_after stagger rest s = pay_of (pair stagger) 2 AtEnd (first_tests stagger ∷ rest) s

pub record ExchangeCases : Type 0 where
  -- tested together, they have the same counts, and the same is expected after the tests and a beat
  pub together : IsSameCounts (pair 0) one_way other_way
  pub together_one_way : down_after 0 (half_hour ∷ []) one_way ≡ ratio 4201 100_000
  pub together_other_way : down_after 0 (half_hour ∷ []) other_way ≡ ratio 4201 100_000
  -- tested apart, they have not: whether the loop is down after the first test depends on which of them works
  pub apart : IsSameCounts (pair 1) one_way other_way → ⊥
  pub apart_one_way : down_after 1 [] one_way ≡ ratio 1 50
  pub apart_other_way : down_after 1 [] other_way ≡ whole 0
