-- The hours that count in a schedule, and beats that are short enough.
use Rattle.std.specs.Prelude.{Bool, List, [], ◌∷◌, if◌then◌else◌}
use Rattle.sil_fraction.specs.Fraction.{Fraction, ◌+ℚ◌, ◌*ℚ◌, ◌≤ℚ◌, whole}
use Rattle.sil_model.specs.State.{FullState}
use Rattle.sil_model.specs.Events.{events_of, leaving_rate}
use Rattle.sil_model.specs.Calendar.{ChannelTest}
use Rattle.sil_model.specs.Pay.{Item}
use Rattle.sil_model.specs.Pay.Item.{Beat, Tests}
use Rattle.sil_model.specs.declared.parts.Subsystem.{Subsystem}

-- the hours of the beats that count
unfoldable pub hours_of : List Item → Fraction
hours_of [] = whole 0
hours_of (Beat h counts ∷ rest) = hours_of rest +ℚ (if counts then h else whole 0)
hours_of (Tests ts ∷ rest) = hours_of rest

-- each test leaves a fault with a chance of at most 1
pub data AreChances : List ChannelTest → Type 0 where
  none : AreChances []
  one : {t : ChannelTest} {ts : List ChannelTest} → t.fault ≤ℚ whole 1 → AreChances ts → AreChances (t ∷ ts)

-- from every state, the chance that a step of h hours leaves it is at most 1
pub record IsShort (us : List Subsystem) (h : Fraction) : Type 0 where
  pub leaves : (s : FullState) → h *ℚ leaving_rate (events_of us) s ≤ℚ whole 1

-- every beat of a schedule is short, and every test has a chance of a fault
pub data AreShort (us : List Subsystem) : List Item → Type 0 where
  none : AreShort us []
  beat : {h : Fraction} {counts : Bool} {rest : List Item} → IsShort us h → AreShort us rest → AreShort us (Beat h counts ∷ rest)
  tests : {ts : List ChannelTest} {rest : List Item} → AreChances ts → AreShort us rest → AreShort us (Tests ts ∷ rest)
