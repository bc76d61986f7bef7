-- A text that is called for stands for one of four statuses.
use Rattle.std.proofs.Common.{◌≡◌, ℕ, Bool, true, false, List, if◌then◌else◌, inl, inr, sym, subst}
use Rattle.sil_top.specs.Run.{Outcome, Seen, CallsFor}
use Rattle.sil_top.specs.declared.Status.{Status}
use Rattle.sil_top.specs.declared.Status.TheVariants.{Done, NotShown, Usage, FileRefused, ReadFault, WriteFault, Memory}

abbrev pub IsTold : Status → Type 0
IsTold Done = Unit {0}
IsTold NotShown = Unit {0}
IsTold Usage = Unit {0}
IsTold FileRefused = Unit {0}
IsTold ReadFault = ⊥
IsTold WriteFault = ⊥
IsTold Memory = ⊥

by_status : (s t : Status) → s ≡ t → IsTold t → IsTold s
by_status s t e h = subst IsTold (sym e) h

shown_or_not : (b : Bool) → IsTold (if b then Done else NotShown)
shown_or_not true = tt
shown_or_not false = tt

module _ (seen : Seen) (words : List (List ℕ)) where
  pub told : (o : Outcome) → CallsFor seen words o → IsTold o.status
  told o (inl x) = by_status _ _ x.status tt
  told o (inr (a, asks, inl (reads, inl x))) = by_status _ _ x.status tt
  told o (inr (a, asks, inl (reads, inr x))) = by_status _ _ x.status tt
  told o (inr (a, asks, inr (l, is_loop, inl (reads, refusal, status)))) = by_status _ _ status tt
  told o (inr (a, asks, inr (l, is_loop, inr (passes, shown, says, status)))) = by_status _ _ status (shown_or_not shown)

  -- the same text and status by other names
  pub under : (s t : Status) (text same : List ℕ) → s ≡ t → text ≡ same
      → CallsFor seen words (record { status = s; text = text }) → CallsFor seen words (record { status = t; text = same })
  under s t text same e f x =
      subst (λ (xs : List ℕ). CallsFor seen words (record { status = t; text = xs })) f
      (subst (λ (u : Status). CallsFor seen words (record { status = u; text = text })) e x)
