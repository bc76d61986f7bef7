-- What a mission may have lost up to a phase, in units of 2^-48.
use Rattle.std.specs.Prelude.{ℕ, ◌+◌, ◌*◌, ◌^◌, ◌≤◌, List, take, length, sum, sum_by}
use Rattle.sil_model.specs.Budget.{beat_loss_of, test_loss_of, group_tests_in, group_tests_of}
use Rattle.sil_model.specs.Calendar.{phases_of, test_hours_of, beats_of}
use Rattle.sil_model.specs.LoopValue.{LoopValue}
use Rattle.sil_model.specs.Sizes.{states_of, all_beats_of}

-- the hours, the beats and the tests of groups before the phase p
abbrev pub hours_until : LoopValue → ℕ → ℕ
hours_until l p = sum_by (λ q. q.hours) (take p (phases_of l))

abbrev pub beats_until : LoopValue → ℕ → ℕ
beats_until l p = sum_by (λ q. beats_of l.subsystems q.hours) (take p (phases_of l))

abbrev pub group_tests_until : LoopValue → ℕ → ℕ
group_tests_until l p = sum_by (group_tests_in l) (take p (test_hours_of l))

-- what they may lose
unfoldable pub lost_until : LoopValue → ℕ → ℕ → ℕ
lost_until l order p = beats_until l p * beat_loss_of l.subsystems order + group_tests_until l p * test_loss_of l.subsystems

-- the vector at the start of the phase p and the dwell in hours before it have lost no more, and have gained nothing; so much
-- has passed at tests at least, and so much at most
pub record HasLost (l : LoopValue) (order p : ℕ) (dwell v : List ℕ) (least most : ℕ) : Type 0 where
  pub mass : sum v ≤ 2 ^ 48
  pub lack : 2 ^ 48 ≤ sum v + lost_until l order p
  pub dwell_mass : sum dwell ≤ hours_until l p * 2 ^ 48
  pub dwell_lack : hours_until l p * 2 ^ 48 ≤ sum dwell + hours_until l p * lost_until l order p + p * states_of l.subsystems
  pub ordered : least ≤ most
  pub width : most ≤ least + p * lost_until l order p

-- what a phase of t hours loses of a vector and of its dwell
pub record LosesInPhase (loss t states : ℕ) (v v' dwell dwell' : List ℕ) : Type 0 where
  pub mass : sum v' ≤ sum v
  pub lack : sum v ≤ sum v' + loss
  pub dwell_mass : sum dwell' ≤ sum dwell + t * sum v
  pub dwell_lack : sum dwell + t * sum v ≤ sum dwell' + t * loss + states

-- what the tests of an hour lose
pub record LosesAtTests (loss : ℕ) (v v' : List ℕ) (least most : ℕ) : Type 0 where
  pub mass : sum v' ≤ sum v
  pub lack : sum v ≤ sum v' + loss
  pub ordered : least ≤ most
  pub width : most + sum v' ≤ least + 2 ^ 48

-- what all beats and all tests of groups may lose
unfoldable pub lost_in_all : LoopValue → ℕ → ℕ
lost_in_all l order = all_beats_of l * beat_loss_of l.subsystems order + group_tests_of l * test_loss_of l.subsystems

-- the dwell of the whole mission, and what has passed at its test hours
pub record HasLostInAll (l : LoopValue) (order : ℕ) (dwell : List ℕ) (least most : ℕ) : Type 0 where
  pub dwell_mass : sum dwell ≤ l.mission * 2 ^ 48
  pub dwell_lack : l.mission * 2 ^ 48 ≤ sum dwell + l.mission * lost_in_all l order + length (phases_of l) * states_of l.subsystems
  pub ordered : least ≤ most
  pub width : most ≤ least + length (test_hours_of l) * lost_in_all l order
