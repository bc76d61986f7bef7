-- One event after another: the steps of a count vector.
use Rattle.std.proofs.Common.{◌≡◌, ℕ, suc, ◌+◌, ◌<◌, ◌≤◌, List, [], ◌∷◌, ◌++◌, length, get_or, drop, refl, sym, ap, ◌∙◌, arith, add-one}
use Rattle.std.specs.Prelude.{Bool, true, false, All, ◌&&◌, ◌==◌, if◌then◌else◌}
use Rattle.std.proofs.Math.Seq.{drop-cons}
use Rattle.std.proofs.Math.ListN.{drop_of_length-le}
use Rattle.std.proofs.lemmas.Bool.{lt-ltb, le-ltb}
use Rattle.std.proofs.lemmas.List.Elements.{All-cons, All-nil, All-head, All-tail}
use Rattle.sil_model.specs.LoopValue.{groups_of}
use Rattle.sil_model.specs.Counts.{counts_numbered}
use Rattle.sil_model.specs.declared.parts.Subsystem.{Subsystem}
use Rattle.common_cause.specs.declared.event.LumpEvent.{LumpEvent}
use Rattle.common_cause.specs.LumpEvents.{lump_events_of}
use Rattle.product_chain.specs.declared.step.Step.{Step}
use Rattle.product_chain.specs.Steps.{joined, times, step_by, steps_over, steps_from, steps_below}

module _ (us : List Subsystem) (cs : List ℕ) (i : ℕ) (es : List LumpEvent) (k : ℕ) (e : LumpEvent) (inside : k < length es) (is : e ≡ get_or es k e)
    (ss : List Step) where
  here : drop k es ≡ e ∷ drop (k + 1) es
  here = drop-cons es k e inside ∙ rw (add-one k) (ap (λ x. x ∷ drop (suc k) es) (sym is))

  pub over-yes : 0 < times us cs i e → steps_over us cs i (joined ss (step_by us cs i e)) (drop (k + 1) es) ≡ steps_over us cs i ss (drop k es)
  over-yes h = rw (here, lt-ltb 0 (times us cs i e) h) refl

  pub over-no : times us cs i e ≤ 0 → steps_over us cs i ss (drop (k + 1) es) ≡ steps_over us cs i ss (drop k es)
  over-no h = rw (here, le-ltb 0 (times us cs i e) h) refl

pub over-start : (us : List Subsystem) (i : ℕ) (ss : List Step) → ss ≡ [] → steps_over us (counts_numbered (groups_of us) i) i ss (lump_events_of us)
    ≡ steps_from us i
unfolding steps_from
over-start us i ss e = rw e refl

pub over-end : (us : List Subsystem) (cs : List ℕ) (i : ℕ) (es : List LumpEvent) (k : ℕ) (ss : List Step) → length es ≤ k
    → steps_over us cs i ss (drop k es) ≡ ss
over-end us cs i es k ss h = rw (drop_of_length-le es h) refl

-- how great the numbers of joined steps are
pub joined-small : (b c : ℕ) (ss : List Step) (t : Step) → All (λ s. s.num ≤ b) ss → t.num ≤ c → All (λ s. s.num ≤ b + c) (joined ss t)
joined-small b c [] t all h = All-cons (λ (s : Step). s.num ≤ b + c) t [] (omega arith) (All-nil (λ (s : Step). s.num ≤ b + c))
joined-small b c (s ∷ ss) t all h = go (s.target == t.target && s.den == t.den) (joined-small b c ss t (All-tail (λ (s : Step). s.num ≤ b) s ss all) h)
  where
    first : s.num ≤ b
    first = All-head (λ (s : Step). s.num ≤ b) s ss all

    rest : All (λ s. s.num ≤ b + c) ss
    rest k d p = omega (arith, All-tail (λ (s : Step). s.num ≤ b) s ss all k d p)

    go : (q : Bool) → All (λ s. s.num ≤ b + c) (joined ss t) → All (λ s. s.num ≤ b + c) (if q then record s { num = s.num + t.num } ∷ ss else s ∷ joined ss t)
    go true later = All-cons (λ (s : Step). s.num ≤ b + c) (record s { num = s.num + t.num }) ss (omega (arith, first)) rest
    go false later = All-cons (λ (s : Step). s.num ≤ b + c) s (joined ss t) (omega (arith, first)) later

-- one count vector after another
pub below-none : (us : List Subsystem) → [] ≡ steps_below us 0
unfolding steps_below
below-none us = refl

pub below-next : (us : List Subsystem) (i : ℕ) (ss own all : List Step) → ss ≡ steps_below us i → own ≡ steps_from us i → all ≡ ss ++ own
    → all ≡ steps_below us (i + 1)
unfolding steps_below
below-next us i ss own all e f g = rw (g, e, f, add-one i) refl
