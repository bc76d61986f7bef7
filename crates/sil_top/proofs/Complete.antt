-- Sound words and a sound file call for no refusal.
use Rattle.std.proofs.Common.{◌≡◌, ◌∙◌, ℕ, ◌<◌, Bool, true, false, IsTrue, List, length, Option, Some, None, if◌then◌else◌, inl, inr, ◌⊎◌, refl, sym, ap, subst, arith, zero, suc}
use Rattle.sil_model.specs.LoopValue.{LoopValue}
use Rattle.file_fault.specs.declared.FileFault.{FileFault}
use Rattle.loop_file.specs.Tree.{tree_of}
use Rattle.loop_file.specs.LoopFile.{IsLoopOf, HasFault, loop_of, tree_fault}
use Rattle.sil_io.specs.Bytes.{OffersWhole}
use Rattle.sil_io.specs.Faults.{CountsFault}
use Rattle.sil_io.specs.Handed.{Handed}
use Rattle.sil_words.specs.Language.{Asks}
use Rattle.sil_words.specs.declared.ask.Ask.{Ask}
use Rattle.sil_top.specs.Complete.{IsQuiet, IsSound, IsSoundFile, HandsSound, HandsSoundFile, IsOfferedOnce, refusal_of}
use Rattle.sil_top.specs.Run.{Outcome, Seen, reads_file, loop_calls, IsCalledBy, IsHandedWhole, IsFileOf, IsFaulty, IsTooLong, IsRefusedFor, IsLoopFor, CallsFor}
use Rattle.sil_top.specs.declared.Status.{Status}
use Rattle.sil_top.specs.declared.Status.TheVariants.{Done, NotShown, Usage, FileRefused, ReadFault, WriteFault, Memory}

-- a whole answer to what was asked
abbrev pub IsGiven : Status → Type 0
IsGiven Done = Unit {0}
IsGiven NotShown = Unit {0}
IsGiven Usage = ⊥
IsGiven FileRefused = ⊥
IsGiven ReadFault = ⊥
IsGiven WriteFault = ⊥
IsGiven Memory = ⊥

by_status : (s t : Status) → s ≡ t → IsGiven t → IsGiven s
by_status s t e h = subst IsGiven (sym e) h

pub done_or_not_shown : (s : Status) → IsGiven s → (s ≡ Done) ⊎ (s ≡ NotShown)
done_or_not_shown Done h = inl refl
done_or_not_shown NotShown h = inr refl
done_or_not_shown Usage h = absurd h
done_or_not_shown FileRefused h = absurd h
done_or_not_shown ReadFault h = absurd h
done_or_not_shown WriteFault h = absurd h
done_or_not_shown Memory h = absurd h

-- a count that is quiet tells of no fault
pub no_fault : (before now : ℕ) → IsQuiet before now → CountsFault before now → ⊥
no_fault before now quiet fault = let still = quiet.still in let below = quiet.below in omega (arith, still, below, fault)

-- words ask for one thing
pub one_asked : (words : List (List ℕ)) (a b : Ask) → Asks words a → Asks words b → a ≡ b
one_asked words a b is_a is_b = is_a.1 is_a.0.0 is_a.0.1 is_a.0.2 ∙ sym (is_b.1 is_a.0.0 is_a.0.1 is_a.0.2)

-- bytes are the loop file of one loop
pub one_loop : (bytes : List ℕ) (l m : LoopValue) → IsLoopOf bytes l → IsLoopOf bytes m → l ≡ m
one_loop bytes l m is_l is_m =
    let same : is_l.tree ≡ is_m.tree = let e = sym is_l.toml ∙ is_m.toml in cc in
    is_l.value ∙ ap loop_of same ∙ sym is_m.value

-- and then they have no fault
pub sound_bytes : (bytes : List ℕ) (l : LoopValue) (f : FileFault) → IsLoopOf bytes l → HasFault bytes f → ⊥
sound_bytes bytes l f is_l has =
    let none : tree_fault (tree_of bytes) ≡ None = ap tree_fault is_l.toml ∙ is_l.pass in
    let some : Some f ≡ None = sym has.first ∙ none in cc

shown_or_not : (b : Bool) → IsGiven (if b then Done else NotShown)
shown_or_not true = tt
shown_or_not false = tt

module _ (seen : Seen) where
  -- whatever is handed out of the file that is asked for, whole, is these bytes; they are sound, and the verb does not refuse
  -- their loop
  record IsSoundly (a : Ask) : Type 0 where
    bytes : List ℕ
    value : LoopValue
    is_loop : IsLoopOf bytes value
    passes : refusal_of seen a value ≡ None
    same : (others : List ℕ) → IsHandedWhole seen.tells seen.file seen.handed a.name others → others ≡ bytes
    not_long : (o : Outcome) → IsTooLong seen.tells seen.file seen.handed a.name o → ⊥

  -- so a file that the shelf tells
  told_soundly : (a : Ask) → IsTrue seen.tells → IsSoundFile seen a → IsSoundly a
  told_soundly a told sound =
      let same_bytes : (bytes : List ℕ) → seen.file a.name ≡ Some bytes → bytes ≡ sound.bytes
      = λ bytes e. let both : Some bytes ≡ Some sound.bytes = sym e ∙ sound.is_file in cc in
      record {
        bytes = sound.bytes;
        value = sound.value;
        is_loop = sound.is_loop;
        passes = sound.passes;
        same = λ others w. same_bytes others (w.is_file told);
        not_long = λ o x.
            let long = x.long told in
            let short = sound.short in
            let size : length long.0 ≡ length sound.bytes = ap length (same_bytes long.0 long.1) in
            let many = long.2 in omega (arith, size, short, many);
      }

  -- and so one that was handed out whole
  handed_soundly : (a : Ask) → HandsSoundFile seen a → IsSoundly a
  handed_soundly a sound =
      let same_handed : (bytes : List ℕ) → seen.handed ≡ record { name = Some a.name; bytes = bytes } → bytes ≡ sound.bytes
      = λ bytes e. ap (λ (h : Handed). h.bytes) (sym e ∙ sound.is_handed) in
      record {
        bytes = sound.bytes;
        value = sound.value;
        is_loop = sound.is_loop;
        passes = sound.passes;
        same = λ others w. same_handed others w.is_handed;
        not_long = λ o x.
            let hands = x.is_handed in
            let size : length hands.more ≡ length sound.bytes = ap length (same_handed hands.more hands.handed) in
            let long = hands.long in
            let short = sound.short in omega (arith, size, short, long);
      }

  not_faulty : (a : Ask) → IsSoundly a → (o : Outcome) → IsFaulty seen.tells seen.file seen.handed a.name o → ⊥
  not_faulty a s o x =
      sound_bytes s.bytes s.value x.fault s.is_loop (subst (λ (bs : List ℕ). HasFault bs x.fault) (s.same x.bytes x.whole) x.first)

  not_refused : (a : Ask) → IsSoundly a → (l : LoopValue) (line : List ℕ) → IsFileOf seen.tells seen.file seen.handed a.name l
      → refusal_of seen a l ≡ Some line → ⊥
  not_refused a s l line is_file refusal =
      let loop : l ≡ s.value = one_loop s.bytes l s.value (subst (λ (bs : List ℕ). IsLoopOf bs l) (s.same is_file.bytes is_file.whole) is_file.is_loop) s.is_loop in
      let none : refusal_of seen a l ≡ None = subst (λ (m : LoopValue). refusal_of seen a m ≡ None) (sym loop) s.passes in
      let some : Some line ≡ None = sym refusal ∙ none in cc

  given_asked : (a : Ask) → (reads_file a.verb ≡ true → IsSoundly a) → (o : Outcome)
      → IsRefusedFor seen a o ⊎ ((l : LoopValue) × IsLoopFor seen a l × IsCalledBy (reads_file a.verb) (loop_calls seen.watchers a l a.verb) o)
      → IsGiven o.status
  given_asked a sound o (inl (reads, inl x)) = absurd ((sound reads).not_long o x)
  given_asked a sound o (inl (reads, inr x)) = absurd (not_faulty a (sound reads) o x)
  given_asked a sound o (inr (l, is_loop, inl (reads, refusal, status))) = absurd (not_refused a (sound reads) l o.text (is_loop.of_file reads) refusal)
  given_asked a sound o (inr (l, is_loop, inr (passes, shown, says, status))) = by_status _ _ status (shown_or_not shown)

  given_words : (words : List (List ℕ)) (asked : Ask) → Asks words asked → (reads_file asked.verb ≡ true → IsSoundly asked) → (o : Outcome)
      → CallsFor seen words o → IsGiven o.status
  given_words words asked asks sound o (inl x) = absurd (x.outside asks.0)
  given_words words asked asks sound o (inr (a, asks_a, x)) =
      given_asked a (subst (λ (b : Ask). reads_file b.verb ≡ true → IsSoundly b) (one_asked words asked a asks asks_a) sound) o x

  -- sound words and a sound file have a whole answer
  pub given_sound : (words : List (List ℕ)) → IsSound seen words → (o : Outcome) → CallsFor seen words o → IsGiven o.status
  given_sound words sound = given_words words sound.asked sound.asks (λ reads. told_soundly sound.asked (sound.sound reads).0 (sound.sound reads).1)

  -- and so have sound words and bytes that were handed out and are a sound file
  pub given_handed : (words : List (List ℕ)) → HandsSound seen words → (o : Outcome) → CallsFor seen words o → IsGiven o.status
  given_handed words sound = given_words words sound.asked sound.asks (λ reads. handed_soundly sound.asked (sound.sound reads))

-- a text that is empty is not offered
pub offered_once : (size : ℕ) (text : List ℕ) (before now : List (List ℕ)) → (size ≡ 0 → now ≡ before) → (0 < size → OffersWhole text before now)
    → IsOfferedOnce before now
offered_once zero text before now none some = inl (none refl)
offered_once (suc n) text before now none some = inr (text, some (omega arith))
