-- A sink in memory, as contracts see it.
use Rattle.std.specs.Prelude.{◌≡◌, ℕ, ◌-◌, ◌<◌, ◌⊎◌, Bool, true, false, List, Option, Some, None, min, option_map}
use Rattle.sil_io.specs.declared.memory_sink.Stop.{Stop}

pub record SinkState : Type 0 where
  -- the bytes written
  pub written : List ℕ
  -- how many bytes more there is room for
  pub room : ℕ
  -- the planned stop, if one is planned
  pub stop : Option Stop
  -- the pieces that were offered, in order
  pub offered : List (List ℕ)
  -- whether the last call was a write that took nothing of a piece that is not empty
  pub stalled : Bool
  -- whether the last call was a write that failed, or noted a stall
  pub failed : Bool
  pub faults : ℕ

-- after so many bytes more the sink fails
abbrev pub failing_after : ℕ → Stop
failing_after bytes = record { after = bytes; stalls = false }

-- after so many bytes more the sink takes nothing
abbrev pub stalling_after : ℕ → Stop
stalling_after bytes = record { after = bytes; stalls = true }

-- the number, or that of the stop where it is less
abbrev pub up_to : Option Stop → ℕ → ℕ
up_to None n = n
up_to (Some stop) n = min n stop.after

-- how many bytes more the sink takes
abbrev pub space_of : SinkState → ℕ
space_of s = up_to s.stop s.room

-- the stop after so many bytes
abbrev pub sooner : ℕ → Option Stop → Option Stop
sooner n = option_map (λ (stop : Stop). record stop { after = stop.after - n })

-- a piece that is not empty fails: there is no room, or the bytes before the planned failure are taken
abbrev pub IsFailing : SinkState → Type 0
IsFailing s = (s.room ≡ 0) ⊎ (s.stop ≡ Some (failing_after 0))

-- nothing is taken of a piece that is not empty: there is room, and the bytes before the planned stall are taken
abbrev pub IsStalling : SinkState → Type 0
IsStalling s = (0 < s.room) × (s.stop ≡ Some (stalling_after 0))
