-- A loop that exceeds no limit is within each of them.
use Rattle.std.proofs.Common.{◌≡◌, ℕ, ◌≤◌, ◌*◌, true, false, Bool, Some, None, refl}
use Rattle.std.specs.Prelude.{Option, if◌then◌else◌, nat_lt}
use Rattle.std.proofs.lemmas.Bool.{ltb-false}
use Rattle.sil_model.specs.LoopValue.{LoopValue}
use Rattle.sil_model.specs.Sizes.{first_limit_of, channel_tests_of, states_of, all_beats_of, work_of, most_tests, most_states_of, most_beats, most_work_of}
use Rattle.sil_model.specs.declared.answers.LimitFault.{LimitFault}
use Rattle.sil_model.specs.declared.answers.LimitFault.TheVariants.{TooManyTests, TooManyStates, TooManyBeats, TooMuchWork}

-- no test before the end of a list of limits has found one
module _ (f : LimitFault) (rest : Option LimitFault) where
  not_found : (b : Bool) → (if b then Some f else rest) ≡ None → b ≡ false
  not_found true e = cc
  not_found false e = refl

  left : (b : Bool) → (if b then Some f else rest) ≡ None → rest ≡ None
  left true e = cc
  left false e = e

-- a loop is within each limit
pub record IsWithinAll (l : LoopValue) (order : ℕ) : Type 0 where
  pub tests : channel_tests_of l ≤ most_tests
  pub states : states_of l.subsystems ≤ most_states_of l
  pub beats : all_beats_of l ≤ most_beats
  pub work : all_beats_of l * order * states_of l.subsystems ≤ most_work_of l

pub within_all : (l : LoopValue) (order : ℕ) → first_limit_of l order ≡ None → IsWithinAll l order
unfolding first_limit_of work_of
within_all l order e =
    let of_work : Option LimitFault = if nat_lt (most_work_of l) (work_of l order) then Some (TooMuchWork (work_of l order)) else None in
    let of_beats : Option LimitFault = if nat_lt most_beats (all_beats_of l) then Some (TooManyBeats (all_beats_of l)) else of_work in
    let of_states : Option LimitFault = if nat_lt (most_states_of l) (states_of l.subsystems) then Some (TooManyStates (states_of l.subsystems)) else of_beats in
    let states : of_states ≡ None = left (TooManyTests (channel_tests_of l)) of_states (nat_lt most_tests (channel_tests_of l)) e in
    let beats : of_beats ≡ None = left (TooManyStates (states_of l.subsystems)) of_beats (nat_lt (most_states_of l) (states_of l.subsystems)) states in
    let work : of_work ≡ None = left (TooManyBeats (all_beats_of l)) of_work (nat_lt most_beats (all_beats_of l)) beats in
    record {
      tests = ltb-false most_tests (channel_tests_of l) (not_found (TooManyTests (channel_tests_of l)) of_states (nat_lt most_tests (channel_tests_of l)) e);
      states = ltb-false (most_states_of l) (states_of l.subsystems) (not_found (TooManyStates (states_of l.subsystems)) of_beats (nat_lt (most_states_of l) (states_of l.subsystems)) states);
      beats = ltb-false most_beats (all_beats_of l) (not_found (TooManyBeats (all_beats_of l)) of_work (nat_lt most_beats (all_beats_of l)) beats);
      work = ltb-false (most_work_of l) (work_of l order) (not_found (TooMuchWork (work_of l order)) None (nat_lt (most_work_of l) (work_of l order)) work);
    }
