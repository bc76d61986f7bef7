-- The laws of one phase of a mission.
use Rattle.std.specs.Prelude.{◌≡◌, ℕ, suc, ◌+◌, ◌*◌, ◌^◌, ◌<◌, ◌≤◌, List, length, sum, slice_index_or}
use Rattle.sil_fraction.specs.Fraction.{◌*ℚ◌, ◌≤ℚ◌, whole}
use Rattle.sil_model.specs.Budget.{beat_loss_of, budget_of, pfd_width_of}
use Rattle.sil_model.specs.Series.{Values}
use Rattle.sil_model.specs.Calendar.{phases_of, tests_at, beats_of}
use Rattle.sil_model.specs.Figures.{no_phase, phase_mean_of, phase_end_of, Contains18}
use Rattle.sil_model.specs.LoopValue.{LoopValue}
use Rattle.sil_model.specs.Pay.Mode.{Down, Up}
use Rattle.sil_model.specs.Sizes.{states_of}
use Rattle.sil_model.specs.declared.parts.Subsystem.{Subsystem}
use Rattle.lumped_laws.specs.PayList.{payoff_list}
use Rattle.lumped_laws.specs.ValueLists.{test_list}
use Rattle.vector_laws.specs.Vectors.{weigh}
use Rattle.mission_laws.specs.Losses.{lost_until}
use Rattle.mission_laws.specs.Missions.{pfd_lower, pfd_upper}
use Rattle.mission_laws.specs.Arrived.{beats_list, beats_mean_list, expected_at, HasArrived}

-- what the beats of a phase of t hours make of a vector: its mean over them, and the vector at their end
pub record PassesBeats (us : List Subsystem) (order t : ℕ) (v mean end : List ℕ) : Type 0 where
  pub means : (n : ℕ) → order ≤ n → (f : Values ℕ) → weigh mean f ≤ℚ weigh v (beats_mean_list us n t f)
  pub ends : (n : ℕ) → order ≤ n → (f : Values ℕ) → weigh end f ≤ℚ weigh v (beats_list us n t f)
  pub mean_mass : sum mean ≤ sum v
  pub end_mass : sum end ≤ sum v
  pub mean_lack : sum v ≤ sum mean + beats_of us t * beat_loss_of us order + states_of us
  pub end_lack : sum v ≤ sum end + beats_of us t * beat_loss_of us order

module _ (l : LoopValue) where
  -- the hours of the phase p
  abbrev pub phase_hours : ℕ → ℕ
  phase_hours p = (slice_index_or (phases_of l) p no_phase).hours

  -- the vectors over the phase p and at its end are below what is expected there, and lack no more than the budget
  pub record HasPassed (order p : ℕ) (mean end : List ℕ) : Type 0 where
    pub means : (n : ℕ) → order ≤ n → (f : Values ℕ) → weigh mean f ≤ℚ whole (2 ^ 48) *ℚ expected_at l n p (phases_of l) (beats_mean_list l.subsystems n (phase_hours p) f) 0
    pub ends : (n : ℕ) → order ≤ n → (f : Values ℕ) → weigh end f ≤ℚ whole (2 ^ 48) *ℚ expected_at l n p (phases_of l) (beats_list l.subsystems n (phase_hours p) f) 0
    pub mean_mass : sum mean ≤ 2 ^ 48
    pub end_mass : sum end ≤ 2 ^ 48
    pub mean_lack : 2 ^ 48 ≤ sum mean + budget_of l order
    pub end_lack : 2 ^ 48 ≤ sum end + budget_of l order

  -- a vector at the start of a mission; one that goes over a phase; and one that goes over its tests besides
  pub record ArrivalLaw : Type 0 where
    pub first : (order : ℕ) (v : List ℕ) → ((f : Values ℕ) → weigh v f ≡ whole (2 ^ 48) *ℚ f 0) → HasArrived l order 0 v
    pub over : (order p : ℕ) (v mean end : List ℕ) → p < length (phases_of l) → HasArrived l order p v → sum v ≤ 2 ^ 48
        → 2 ^ 48 ≤ sum v + lost_until l order p → PassesBeats l.subsystems order (phase_hours p) v mean end → HasPassed order p mean end
    pub next : (order p : ℕ) (v v' w : List ℕ) → suc p < length (phases_of l) → HasArrived l order p v
        → ((n : ℕ) → order ≤ n → (f : Values ℕ) → weigh v' f ≤ℚ weigh v (beats_list l.subsystems n (phase_hours p) f))
        → ((f : Values ℕ) → weigh w f ≤ℚ weigh v' (test_list l.subsystems (tests_at l (slice_index_or (phases_of l) (suc p) no_phase).start) f))
        → HasArrived l order (suc p) w

  -- how much of a vector is where the loop is down, and how much where it is up
  pub record HasSides (v : List ℕ) (d u : ℕ) : Type 0 where
    pub down : weigh v (payoff_list l.subsystems Down) ≡ whole d
    pub up : weigh v (payoff_list l.subsystems Up) ≡ whole u
    pub all : d + u ≡ sum v

  -- the ends that the sides of both vectors of the phase p give: its mean and the chance at its end lie between them, and they
  -- are no further apart than those of PFDavg may be
  pub record PhaseFigureLaw : Type 0 where
    pub mean : (order p : ℕ) (mean end : List ℕ) (down up : ℕ) → 16 ≤ order → p < length (phases_of l) → HasPassed order p mean end
        → HasSides mean down up → (n : ℕ) → order ≤ n → Contains18 (pfd_lower down) (pfd_upper up) (phase_mean_of n l p)
    pub end : (order p : ℕ) (mean end : List ℕ) (down up : ℕ) → 16 ≤ order → p < length (phases_of l) → HasPassed order p mean end
        → HasSides end down up → (n : ℕ) → order ≤ n → Contains18 (pfd_lower down) (pfd_upper up) (phase_end_of n l p)
    pub mean_width : (order p : ℕ) (mean end : List ℕ) (down up : ℕ) → HasPassed order p mean end → HasSides mean down up
        → pfd_upper up ≤ pfd_lower down + pfd_width_of l order
    pub end_width : (order p : ℕ) (mean end : List ℕ) (down up : ℕ) → HasPassed order p mean end → HasSides end down up
        → pfd_upper up ≤ pfd_lower down + pfd_width_of l order
