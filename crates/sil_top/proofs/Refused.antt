-- A file that is refused calls for its line alone, and one that is not there for nothing.
use Rattle.std.proofs.Common.{◌≡◌, ◌∙◌, ℕ, ◌<◌, ◌≤◌, ◌⊎◌, Bool, true, IsTrue, List, length, Option, Some, None, inl, inr, sym, ap, subst, arith}
use Rattle.sil_model.specs.LoopValue.{LoopValue}
use Rattle.sil_model.specs.Sizes.{most_file_bytes}
use Rattle.file_fault.specs.declared.FileFault.{FileFault}
use Rattle.loop_file.specs.LoopFile.{IsLoopOf, HasFault}
use Rattle.sil_report.specs.Texts.{file_fault_line_of}
use Rattle.sil_words.specs.Language.{Asks}
use Rattle.sil_words.specs.declared.ask.Ask.{Ask}
use Rattle.sil_top.specs.Complete.{IsLongFile, IsFaultyFile, IsLargeFile, IsRefusedFile, IsRefused, IsMissing, refusal_of}
use Rattle.sil_top.specs.Run.{Outcome, Seen, reads_file, loop_calls, IsCalledBy, IsFileOf, IsFaulty, IsTooLong, IsRefusedFor, IsLoopFor, CallsFor}
use Rattle.sil_top.specs.declared.Status.TheVariants.{FileRefused}
use Rattle.sil_top.proofs.Complete.{one_asked, one_loop, sound_bytes}

-- the outcome is the refusal by this line
abbrev pub IsRefusal : List ℕ → Outcome → Type 0
IsRefusal line o = (o.status ≡ FileRefused) × (o.text ≡ line)

-- bytes have one first fault
one_fault : (bytes : List ℕ) (f g : FileFault) → HasFault bytes f → HasFault bytes g → f ≡ g
one_fault bytes f g is_f is_g = let same : Some f ≡ Some g = sym is_f.first ∙ is_g.first in cc

module _ (seen : Seen) where
  module _ (a : Ask) (told : IsTrue seen.tells) where
    one_file : (b c : List ℕ) → seen.file a.name ≡ Some b → seen.file a.name ≡ Some c → b ≡ c
    one_file b c is_b is_c = let same : Some b ≡ Some c = sym is_b ∙ is_c in cc

    -- a file is too long, or it is not
    one_length : (b c : List ℕ) → seen.file a.name ≡ Some b → seen.file a.name ≡ Some c → most_file_bytes < length b → length c ≤ most_file_bytes → ⊥
    one_length b c is_b is_c long short = let size : length b ≡ length c = ap length (one_file b c is_b is_c) in omega (arith, size, long, short)

    -- the loop of a file whose bytes are known
    loop_here : (bytes : List ℕ) (l : LoopValue) → seen.file a.name ≡ Some bytes → IsFileOf seen.tells seen.file seen.handed a.name l → IsLoopOf bytes l
    loop_here bytes l is_file x = subst (λ (bs : List ℕ). IsLoopOf bs l) (one_file x.bytes bytes (x.whole.is_file told) is_file) x.is_loop

    fault_here : (bytes : List ℕ) (o : Outcome) → seen.file a.name ≡ Some bytes → (x : IsFaulty seen.tells seen.file seen.handed a.name o) → HasFault bytes x.fault
    fault_here bytes o is_file x = subst (λ (bs : List ℕ). HasFault bs x.fault) (one_file x.bytes bytes (x.whole.is_file told) is_file) x.first

    abbrev CallsForFile : Outcome → Type 0
    CallsForFile o = (IsTooLong seen.tells seen.file seen.handed a.name o ⊎ IsFaulty seen.tells seen.file seen.handed a.name o)
        ⊎ ((l : LoopValue) × IsFileOf seen.tells seen.file seen.handed a.name l × IsCalledBy true (loop_calls seen.watchers a l a.verb) o)

    long_alone : (line : List ℕ) → IsLongFile seen a line → (o : Outcome) → CallsForFile o → IsRefusal line o
    long_alone line u o (inl (inl x)) = (x.status, x.printed ∙ sym u.says)
    long_alone line u o (inl (inr x)) = absurd (one_length u.bytes x.bytes u.is_file (x.whole.is_file told) u.long x.whole.short)
    long_alone line u o (inr (l, x, more)) = absurd (one_length u.bytes x.bytes u.is_file (x.whole.is_file told) u.long x.whole.short)

    faulty_alone : (line : List ℕ) → IsFaultyFile seen a line → (o : Outcome) → CallsForFile o → IsRefusal line o
    faulty_alone line u o (inl (inl x)) = let there = x.long told in absurd (one_length there.0 u.bytes there.1 u.is_file there.2 u.short)
    faulty_alone line u o (inl (inr x)) =
        (x.status, x.printed ∙ ap file_fault_line_of (one_fault u.bytes x.fault u.fault (fault_here u.bytes o u.is_file x) u.first) ∙ sym u.says)
    faulty_alone line u o (inr (l, x, more)) = absurd (sound_bytes u.bytes l u.fault (loop_here u.bytes l u.is_file x) u.first)

    large_alone : (line : List ℕ) → IsLargeFile seen a line → (o : Outcome) → CallsForFile o → IsRefusal line o
    large_alone line u o (inl (inl x)) = let there = x.long told in absurd (one_length there.0 u.bytes there.1 u.is_file there.2 u.short)
    large_alone line u o (inl (inr x)) = absurd (sound_bytes u.bytes u.value x.fault u.is_loop (fault_here u.bytes o u.is_file x))
    large_alone line u o (inr (l, x, more)) =
        let loop : u.value ≡ l = one_loop u.bytes u.value l u.is_loop (loop_here u.bytes l u.is_file x) in
        by_refusal (subst (λ (m : LoopValue). refusal_of seen a m ≡ Some line) loop u.says) more
      where
        by_refusal : refusal_of seen a l ≡ Some line → IsCalledBy true (loop_calls seen.watchers a l a.verb) o → IsRefusal line o
        by_refusal says (inl (reads, refusal, status)) = let same : Some o.text ≡ Some line = sym refusal ∙ says in (status, cc)
        by_refusal says (inr (passes, shown, answer, status)) = let none : Some line ≡ None = sym says ∙ passes in absurd (cc)

    refused_file : (line : List ℕ) → IsRefusedFile seen a line → (o : Outcome) → CallsForFile o → IsRefusal line o
    refused_file line (inl u) = long_alone line u
    refused_file line (inr (inl u)) = faulty_alone line u
    refused_file line (inr (inr u)) = large_alone line u

    missing_file : seen.file a.name ≡ None → (o : Outcome) → CallsForFile o → ⊥
    missing_file none o (inl (inl x)) = let there = (x.long told).1 in let some = sym there ∙ none in cc
    missing_file none o (inl (inr x)) = let some = sym (x.whole.is_file told) ∙ none in cc
    missing_file none o (inr (l, x, more)) = let some = sym (x.whole.is_file told) ∙ none in cc

  -- what words call for that ask for this file
  for_file : (words : List (List ℕ)) (asked : Ask) → Asks words asked → reads_file asked.verb ≡ true → (told : IsTrue seen.tells) → (o : Outcome)
      → CallsFor seen words o → CallsForFile asked told o
  for_file words asked asks reads told o (inl x) = absurd (x.outside asks.0)
  for_file words asked asks reads told o (inr (a, asks_a, x)) =
      let same : a ≡ asked = one_asked words a asked asks_a asks in
      subst (λ (b : Ask). CallsForFile b told o) same (here a (subst (λ (b : Ask). reads_file b.verb ≡ true) (sym same) reads) x)
    where
      here : (b : Ask) → reads_file b.verb ≡ true
          → IsRefusedFor seen b o ⊎ ((l : LoopValue) × IsLoopFor seen b l × IsCalledBy (reads_file b.verb) (loop_calls seen.watchers b l b.verb) o)
          → CallsForFile b told o
      here b is (inl (e, y)) = inl y
      here b is (inr (l, is_loop, y)) = inr (l, is_loop.of_file is, subst (λ (r : Bool). IsCalledBy r (loop_calls seen.watchers b l b.verb) o) is y)

  -- the words call for the refusal, and for nothing else
  pub refused_alone : (words : List (List ℕ)) (line : List ℕ) → IsRefused seen words line → (o : Outcome) → CallsFor seen words o → IsRefusal line o
  refused_alone words line r o x = refused_file r.asked r.told line r.refused o (for_file words r.asked r.asks r.of_file r.told o x)

  -- the words call for nothing that is written
  pub nothing_called : (words : List (List ℕ)) → IsMissing seen words → (o : Outcome) → CallsFor seen words o → ⊥
  nothing_called words m o x = missing_file m.asked m.told m.none o (for_file words m.asked m.asks m.of_file m.told o x)
