-- What a peak keeps.
use Rattle.std.proofs.Common.{◌≡◌, ◌∙◌, ℕ, ◌+◌, ◌<◌, ◌≤◌, Bool, true, false, List, [], ◌∷◌, length, get_or, drop, Option, Some, None, refl, sym, ap, subst, arith, length-drop}
use Rattle.std.specs.Prelude.{nat_lt, if◌then◌else◌}
use Rattle.std.specs.List.{IsFirstMaxByKey}
use Rattle.std.proofs.lemmas.Bool.Decides.{nat_tests}
use Rattle.std.proofs.lemmas.List.{get_or_default, drop_more}
use Rattle.std.proofs.lemmas.List.Sums.{best_none, best_keeps, best_takes}
use Rattle.sil_watch.specs.Peak.{is_exceeded, end_of, with_greater, peak_state, peak_value, KeepsFirstGreatest, PeaksKeepGreatest}
use Rattle.sil_watch.specs.Watching.{fold_of, fed_with}
use Rattle.sil_watch.specs.declared.record.PhaseRecord.{PhaseRecord}

-- one record more
by_test : (kept r : PhaseRecord) (b : Bool) → nat_lt kept.at_end.hi r.at_end.hi ≡ b → with_greater (end_of kept) r ≡ peak_state (if b then Some r else Some kept)
by_test kept r true e = rw e refl
by_test kept r false e = rw e refl

pub kept-more : (kept : Option PhaseRecord) (r : PhaseRecord) → with_greater (peak_state kept) r ≡ peak_state (if is_exceeded kept r then Some r else kept)
kept-more None r = refl
kept-more (Some kept) r = by_test kept r (nat_lt kept.at_end.hi r.at_end.hi) refl

pub peak-takes : (kept : Option PhaseRecord) (r : PhaseRecord) → is_exceeded kept r ≡ true → peak_value (Some r) ≡ fed_with (r ∷ []) (peak_value kept)
unfolding fold_of
peak-takes kept r e = sym (ap (λ (s : List ℕ). record (peak_value kept) { state = s }) (kept-more kept r ∙ ap (λ (b : Bool). peak_state (if b then Some r else kept)) e))

pub peak-keeps : (kept : Option PhaseRecord) (r : PhaseRecord) → is_exceeded kept r ≡ false → peak_value kept ≡ fed_with (r ∷ []) (peak_value kept)
unfolding fold_of
peak-keeps kept r e = sym (ap (λ (s : List ℕ). record (peak_value kept) { state = s }) (kept-more kept r ∙ ap (λ (b : Bool). peak_state (if b then Some r else kept)) e))

-- of records the first with the greatest upper end, one by one

abbrev upper : PhaseRecord → ℕ
upper r = r.at_end.hi

exceeds : (x y : ℕ) → nat_lt x y ≡ true → x < y
exceeds x y h = grind (arith, nat_tests)

stays : (x y : ℕ) → nat_lt x y ≡ false → y ≤ x
stays x y h = grind (arith, nat_tests)

module _ (xs : List PhaseRecord) where
  -- the record at i, where that at the place is kept of those before
  choose : (rest : List PhaseRecord) (i place : ℕ) (kept r : PhaseRecord) (b : Bool) → nat_lt (upper kept) (upper r) ≡ b → ((d : PhaseRecord) → get_or xs i d ≡ r)
      → i < length xs → get_or xs place kept ≡ kept → IsFirstMaxByKey upper xs i place
      → ((p : ℕ) (q : PhaseRecord) → get_or xs p q ≡ q → IsFirstMaxByKey upper xs (i + 1) p → KeepsFirstGreatest xs (fold_of with_greater (end_of q) rest))
      → KeepsFirstGreatest xs (fold_of with_greater (with_greater (end_of kept) r) rest)
  choose rest i place kept r true e here within at first next =
      let there : (d : PhaseRecord) → get_or xs place d ≡ kept = λ (d : PhaseRecord). get_or_default xs place d kept (omega (arith, first.0)) ∙ at in
      subst (λ (s : List ℕ). KeepsFirstGreatest xs (fold_of with_greater s rest)) (sym (ap (λ (b : Bool). if b then end_of r else end_of kept) e))
      (next i r (here r) (best_takes upper xs i place first (λ d. rw (there d, here d) (exceeds (upper kept) (upper r) e))))
  choose rest i place kept r false e here within at first next =
      let there : (d : PhaseRecord) → get_or xs place d ≡ kept = λ (d : PhaseRecord). get_or_default xs place d kept (omega (arith, first.0)) ∙ at in
      subst (λ (s : List ℕ). KeepsFirstGreatest xs (fold_of with_greater s rest)) (sym (ap (λ (b : Bool). if b then end_of r else end_of kept) e))
      (next place kept at (best_keeps upper xs i place first (λ d. rw (there d, here d) (stays (upper kept) (upper r) e))))

  -- the first i records were taken in, that at the place is kept, and these are left
  keeps : (rest : List PhaseRecord) (i place : ℕ) (kept : PhaseRecord) → drop i xs ≡ rest → i ≤ length xs → get_or xs place kept ≡ kept
      → IsFirstMaxByKey upper xs i place → KeepsFirstGreatest xs (fold_of with_greater (end_of kept) rest)
  unfolding fold_of
  keeps [] i place kept left within at first =
      let all : i ≡ length xs = omega (arith, length-drop i xs, ap length left) in
      record { place = place; kept = kept; at = at; first = subst (λ (n : ℕ). IsFirstMaxByKey upper xs n place) all first; is = refl }
  keeps (r ∷ rest) i place kept left within at first =
      let here : i < length xs = omega (arith, length-drop i xs, ap length left) in
      let is : (d : PhaseRecord) → get_or xs i d ∷ drop (i + 1) xs ≡ r ∷ rest = λ (d : PhaseRecord). sym (drop_more xs i d here) ∙ left in
      let behind : drop (i + 1) xs ≡ rest = ap (drop 1) (is r) in
      let next : i + 1 ≤ length xs = omega arith in
      choose rest i place kept r (nat_lt (upper kept) (upper r)) refl (λ d. ap (λ (ys : List PhaseRecord). get_or ys 0 r) (is d)) here at first
      (λ p q at_q first_q. keeps rest (i + 1) p q behind next at_q first_q)

pub peaks_keep_greatest : PeaksKeepGreatest
unfolding fold_of
peaks_keep_greatest [] some = let none : ⊥ = omega arith in absurd none
peaks_keep_greatest (r ∷ rs) some = keeps (r ∷ rs) rs 1 0 r refl (omega arith) refl (best_none upper (r ∷ rs))
