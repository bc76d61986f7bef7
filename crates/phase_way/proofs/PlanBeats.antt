-- The beats of a phase are within those of the mission.
use Rattle.std.proofs.Common.{◌≡◌, ℕ, ◌<◌, ◌≤◌, List, length, get_or, arith}
use Rattle.std.proofs.lemmas.List.Sums.{get_or-le-sum_by}
use Rattle.sil_model.specs.Calendar.{Phase, phases_of, beats_of}
use Rattle.sil_model.specs.Figures.{no_phase}
use Rattle.sil_model.specs.LoopValue.{LoopValue}
use Rattle.sil_model.specs.Sizes.{all_beats_of}

-- the hours of a phase of the plan
pub hours-at : (ps : List Phase) (l : LoopValue) (p hours : ℕ) → hours ≡ (get_or ps p no_phase).hours → ps ≡ phases_of l → hours ≡ (get_or (phases_of l) p no_phase).hours
hours-at ps l p hours e same = rw same at e

-- its beats are few
pub few_beats : (l : LoopValue) (p hours most : ℕ) → p < length (phases_of l) → hours ≡ (get_or (phases_of l) p no_phase).hours → all_beats_of l ≤ most
    → beats_of l.subsystems hours ≤ most
unfolding all_beats_of
few_beats l p hours most within e few =
    rw e (omega (arith, get_or-le-sum_by (λ (q : Phase). beats_of l.subsystems q.hours) (phases_of l) p no_phase within, few))
