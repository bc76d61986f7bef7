-- The beats of a loop, phase by phase.
use Rattle.std.proofs.Common.{◌≡◌, ℕ, ◌+◌, ◌<◌, List, length, get_or, take, refl}
use Rattle.std.specs.Prelude.{sum_by}
use Rattle.std.proofs.lemmas.List.Sums.{sum_by_more}
use Rattle.std.proofs.Math.Seq.{take-length}
use Rattle.sil_model.specs.declared.parts.Subsystem.{Subsystem}
use Rattle.sil_model.specs.LoopValue.{LoopValue}
use Rattle.sil_model.specs.Calendar.{Phase, beats_of, phases_of}
use Rattle.sil_model.specs.Sizes.{all_beats_of}

-- the beats of these phases
abbrev pub beats_over : List Subsystem → List Phase → ℕ
beats_over us ps = sum_by (λ p. beats_of us p.hours) ps

pub beats_over-more : (us : List Subsystem) (ps : List Phase) (i : ℕ) (d : Phase) → i < length ps → beats_over us (take (i + 1) ps) ≡ beats_over us (take i ps) + beats_of us (get_or ps i d).hours
beats_over-more us ps i d h = sum_by_more (λ p. beats_of us p.hours) ps i d h

module _ (l : LoopValue) (ps : List Phase) (phases : ps ≡ phases_of l) where
  pub beats_over-all : (i : ℕ) → i ≡ length ps → beats_over l.subsystems (take i ps) ≡ all_beats_of l
  unfolding all_beats_of
  beats_over-all i e = rw (e, take-length ps, phases) refl
