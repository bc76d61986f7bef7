-- From what was read of a file to the answer to the words.
use Rattle.std.proofs.Common.{◌≡◌, ◌∙◌, ℕ, ◌⊎◌, Bool, true, false, IsTrue, List, [], ◌∷◌, ◌++◌, Option, Some, Result, Ok, Err, inl, inr, refl, sym, ap, subst, append-nil}
use Rattle.std.specs.Prelude.{IfOk, IfErr}
use Rattle.std.proofs.lemmas.Bool.{false≢true}
use Rattle.std.specs.declared.alloc.AllocError.{AllocError}
use Rattle.sil_model.specs.LoopValue.{LoopValue}
use Rattle.loop_gen.specs.Drawn.{drawn_of}
use Rattle.sil_io.specs.Handed.{Handed}
use Rattle.sil_watch.specs.Watching.{WatcherValue}
use Rattle.sil_words.specs.Language.{Asks}
use Rattle.sil_words.specs.declared.ask.Ask.{Ask}
use Rattle.sil_top.specs.Causes.{Reads, Answers, Calls, HasCause, IsFileFault, outcome_of}
use Rattle.sil_top.specs.Promises.{ShelfView}
use Rattle.sil_top.specs.Run.{Outcome, reads_file, loop_calls, IsCalledBy, IsHandedInPart, IsHandedWhole, IsFileOf}
use Rattle.sil_top.specs.declared.answer.Answer.{Answer}
use Rattle.sil_top.specs.declared.answer.Fault.{Fault}
use Rattle.sil_top.specs.declared.answer.Fault.TheVariants.{Memory, Read, Refused, TooLong, Usage}
use Rattle.sil_top.proofs.Complete.{one_asked}

-- a file that was handed out whole was handed out in part
in_part : (tells : Bool) (file : List ℕ → Option (List ℕ)) (handed : Handed) (name bytes : List ℕ) → IsHandedWhole tells file handed name bytes
    → IsHandedInPart tells file handed name
in_part tells file handed name bytes w =
    let same : bytes ≡ handed.bytes = ap (λ (h : Handed). h.bytes) (sym w.is_handed) in
    inr (
      record { more = bytes; short = w.short; handed = w.is_handed },
      λ told. record { rest = []; is_front = w.is_file told ∙ ap Some (same ∙ sym (append-nil handed.bytes)) },
    )

module _ {S : Type 0} (shelf : ShelfView S) (before now : S) (name : List ℕ) where
  -- out of memory after the file was read whole
  pub memory_after : {A B : Type 0} (IsRead : A → Type 0) (IsMade : B → Type 0) (x : A) (bytes : List ℕ) (e : AllocError)
      → Reads shelf before now name IsRead (Ok x) → IsHandedWhole shelf.tells (shelf.file before) (shelf.handed now) name bytes
      → Reads shelf before now name IsMade (Err (Memory e))
  memory_after IsRead IsMade x bytes e r whole = record {
    read = tt;
    cause = (in_part _ _ _ name bytes whole, r.no_fault);
    no_fault = tt;
    files_stay = r.files_stay;
    tried = r.tried;
    noted = λ read. let none : ⊥ = cc in absurd none;
    calm_stays = r.calm_stays;
    calm_count = r.calm_count;
    calm_reads = λ calm held read. let none : ⊥ = cc in none;
  }

  -- and what is made of what was read of it
  pub made_after : {A B : Type 0} (IsRead : A → Type 0) (IsMade : B → Type 0) (x : A) (y : B)
      → Reads shelf before now name IsRead (Ok x) → IsMade y → Reads shelf before now name IsMade (Ok y)
  made_after IsRead IsMade x y r made = record {
    read = made;
    cause = tt;
    no_fault = r.no_fault;
    files_stay = r.files_stay;
    tried = r.tried;
    noted = λ read. let none : ⊥ = cc in absurd none;
    calm_stays = r.calm_stays;
    calm_count = r.calm_count;
    calm_reads = λ calm held read. let none : ⊥ = cc in none;
  }

module _ {S : Type 0} (shelf : ShelfView S) (before now : S) (watchers : List WatcherValue) (words : List (List ℕ)) (ask : Ask) (asks : Asks words ask) where
  -- what the file calls for answers the words that ask for it
  module _ (reads : reads_file ask.verb ≡ true) where
    abbrev IsOfFile : Answer → Type 0
    IsOfFile x = (l : LoopValue) × IsFileOf shelf.tells (shelf.file before) (shelf.handed now) ask.name l
        × IsCalledBy true (loop_calls watchers ask l ask.verb) (outcome_of x)

    answer : (r : Result Answer Fault) → IfOk r IsOfFile → IfOk r (λ x. Calls shelf before now watchers words (outcome_of x))
    answer (Ok x) (l, is_file, called) = inr (
      ask,
      asks,
      inr (
        l,
        record { of_file = λ _. is_file; drawn = λ e. absurd (false≢true (sym e ∙ reads)) },
        subst (λ (b : Bool). IsCalledBy b (loop_calls watchers ask l ask.verb) (outcome_of x)) (sym reads) called,
      ),
    )
    answer (Err e) h = tt

    cause : (r : Result Answer Fault) → IfErr r (IsFileFault shelf before now ask.name) → IfErr r (HasCause shelf before now watchers words)
    cause (Ok x) h = tt
    cause (Err Usage) h = absurd h
    cause (Err Read) h = (record { asked = ask; asks = asks; of_file = reads; is_handed = h.0 }, h.1)
    cause (Err TooLong) h = inr (ask, asks, inl (reads, inl h))
    cause (Err (Refused line)) h = inr (ask, asks, inl (reads, inr h))
    cause (Err (Memory e)) h = (inr (record { asked = ask; asks = asks; of_file = reads; is_handed = h.0 }), h.1)

    pub answers_of_file : (r : Result Answer Fault) → Reads shelf before now ask.name IsOfFile r → Answers shelf before now watchers words r
    answers_of_file r x =
        let tried : (a : Ask) → Asks words a → shelf.tried now ≡ shelf.tried before ++ a.name ∷ []
        = λ a is. x.tried ∙ ap (λ (b : Ask). shelf.tried before ++ b.name ∷ []) (one_asked words ask a asks is) in
        record {
          answer = answer r x.read;
          cause = cause r x.cause;
          untouched = λ none. absurd (none (record { asked = ask; asks = asks; of_file = reads }));
          files_stay = x.files_stay;
          picked_once = λ a is. inr (tried a is);
          noted = x.noted;
          fault_of_name = λ e a is. tried a is;
          calm_stays = x.calm_stays;
          calm_count = λ calm held. x.calm_count calm (held ask asks reads);
          calm_reads = λ calm held. x.calm_reads calm (held ask asks reads);
        }

  -- and what a drawn loop calls for, where the shelf is as before
  pub answers_of_number : (x : Answer) → reads_file ask.verb ≡ false → IsCalledBy false (loop_calls watchers ask (drawn_of ask.number) ask.verb) (outcome_of x)
      → Answers shelf before before watchers words (Ok x)
  answers_of_number x none called = record {
    answer = inr (
      ask,
      asks,
      inr (
        drawn_of ask.number,
        record { of_file = λ e. absurd (false≢true (sym none ∙ e)); drawn = λ _. refl },
        subst (λ (b : Bool). IsCalledBy b (loop_calls watchers ask (drawn_of ask.number) ask.verb) (outcome_of x)) (sym none) called,
      ),
    );
    cause = tt;
    untouched = λ _. refl;
    files_stay = λ told name. refl;
    picked_once = λ a is. inl refl;
    noted = λ read. let no : ⊥ = cc in absurd no;
    fault_of_name = λ read. let no : ⊥ = cc in absurd no;
    calm_stays = λ calm. calm;
    calm_count = λ calm held. refl;
    calm_reads = λ calm held read. let no : ⊥ = cc in no;
  }
