-- A run that writes what is called for keeps its promises.
use Rattle.std.proofs.Common.{◌≡◌, ◌∙◌, ℕ, ◌⊎◌, List, ◌++◌, Result, inl, inr, refl, sym, ap, subst}
use Rattle.sil_watch.specs.Watching.{WatcherValue}
use Rattle.sil_words.specs.Language.{IsInLanguage}
use Rattle.sil_top.specs.Causes.{Answers, Writes}
use Rattle.sil_top.specs.Complete.{IsQuiet, IsRefused}
use Rattle.sil_top.specs.Promises.{ShelfView, SinkView, seen, IsWritten, IsAnswered, KeepsPromises}
use Rattle.sil_top.specs.Run.{Outcome, CallsFor}
use Rattle.sil_top.specs.declared.Status.{Status}
use Rattle.sil_top.specs.declared.Status.TheVariants.{Usage, FileRefused, ReadFault, WriteFault, Memory}
use Rattle.sil_top.specs.declared.answer.Answer.{Answer}
use Rattle.sil_top.specs.declared.answer.Fault.{Fault}
use Rattle.sil_top.proofs.Complete.{IsGiven, done_or_not_shown, given_handed, given_sound, no_fault}
use Rattle.sil_top.proofs.Refused.{refused_alone, nothing_called}
use Rattle.sil_top.proofs.Told.{IsTold, told, under}

module _ {S K : Type 0} (shelf : ShelfView S) (before now : S) (watchers : List WatcherValue) (sink : SinkView K) (old new : K) (words : List (List ℕ))
    (o : Outcome) (called : CallsFor (seen shelf before now watchers) words o) (status : Status) (w : Writes sink old new o status) where
  told_o : IsTold o.status
  told_o = told (seen shelf before now watchers) words o called

  -- it was written whole under a status that a text stands for
  whole : (t : Status) → status ≡ t → IsTold t
      → (text : List ℕ) × CallsFor (seen shelf before now watchers) words (record { status = t; text = text }) × IsWritten sink old new text
  whole t e is_told = elim w.one_of_two [
    | inl same ↦ (o.text, under (seen shelf before now watchers) words _ _ _ _ (sym same ∙ e) refl called, w.whole same)
    | inr fault ↦ absurd (subst IsTold (sym e ∙ fault) is_told)
  ]

  not_read : status ≡ ReadFault → ⊥
  not_read e = elim w.one_of_two [ inl same ↦ subst IsTold (sym same ∙ e) told_o | inr fault ↦ let none : ⊥ = cc in none ]

  not_memory : status ≡ Memory → ⊥
  not_memory e = elim w.one_of_two [ inl same ↦ subst IsTold (sym same ∙ e) told_o | inr fault ↦ let none : ⊥ = cc in none ]

  usage_alone : (IsInLanguage words → ⊥) → CallsFor (seen shelf before now watchers) words o → o.status ≡ Usage
  usage_alone outside (inl x) = x.status
  usage_alone outside (inr (a, asks, x)) = absurd (outside asks.0)

  answered : IsGiven o.status → IsQuiet (sink.faults old) (sink.faults new) → IsAnswered shelf before now watchers sink old new words status
  answered given quiet = elim w.one_of_two [
    | inl same ↦ inr (
      done_or_not_shown _ (subst IsGiven (sym same) given),
      o.text,
      under (seen shelf before now watchers) words _ _ _ _ (sym same) refl called,
      w.whole same,
    )
    | inr fault ↦ absurd (no_fault _ _ quiet (w.part fault).0)
  ]

  refuses : (line : List ℕ) → IsRefused (seen shelf before now watchers) words line → IsQuiet (sink.faults old) (sink.faults new)
      → (status ≡ Memory) ⊎ ((status ≡ FileRefused) × IsWritten sink old new line)
  refuses line refused quiet = elim w.one_of_two [
    | inl same ↦
        let is = refused_alone (seen shelf before now watchers) words line refused o called in
        inr (same ∙ is.0, subst (IsWritten sink old new) is.1 (w.whole same))
    | inr fault ↦ absurd (no_fault _ _ quiet (w.part fault).0)
  ]

  pub kept_written : (r : Result Answer Fault) → Answers shelf before now watchers words r → KeepsPromises shelf before now watchers sink old new words status
  kept_written r answers = record {
    headline = λ e. whole _ e tt;
    not_shown = λ e. whole _ e tt;
    usage = λ e. whole _ e tt;
    refused = λ e. whole _ e tt;
    read_fault = λ e. absurd (not_read e);
    write_fault = λ e. (o.status, o.text, called, (w.part e).0, (w.part e).1, (w.part e).2);
    memory = λ e. absurd (not_memory e);
    usage_comes = λ outside. elim w.one_of_two [
      | inl same ↦ inl (same ∙ usage_alone outside called)
      | inr fault ↦ inr (inl fault)
    ];
    untouched = answers.untouched;
    files_stay = answers.files_stay;
    picked_once = answers.picked_once;
    noted = λ e. absurd (not_read e);
    fault_of_name = λ e. absurd (not_read e);
    in_one_piece = w.in_one_piece;
    last_failed = w.last_failed;
    calm_stays = answers.calm_stays;
    calm_count = answers.calm_count;
    calm_reads = λ calm held e. not_read e;
    complete = λ sound quiet. answered (given_sound (seen shelf before now watchers) words sound o called) quiet.writes;
    complete_handed = λ sound quiet. answered (given_handed (seen shelf before now watchers) words sound o called) quiet.writes;
    refuses = λ line refused quiet. refuses line refused quiet.writes;
    missing = λ missing. absurd (nothing_called (seen shelf before now watchers) words missing o called);
    roomy = λ fits. let written = w.roomy (fits o called) in (λ e. subst IsTold (sym written.0 ∙ e) told_o, written.1);
  }
