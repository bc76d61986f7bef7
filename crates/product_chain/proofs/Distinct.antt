-- The steps of a count vector lead to different count vectors, and none back to it.
use Rattle.std.proofs.Common.{◌≡◌, ℕ, zero, suc, ◌+◌, ◌<◌, ◌≤◌, inl, inr, List, [], ◌∷◌, refl, sym, ap, ◌∙◌, arith}
use Rattle.std.specs.Prelude.{Bool, true, false, ◌⊎◌, All, sum_by, if◌then◌else◌, nat_lt, ◌==◌, ◌&&◌}
use Rattle.std.proofs.lemmas.Bool.{eq-eqb, ne_eqb, eqb-true, ltb-true}
use Rattle.std.proofs.lemmas.List.Elements.{All-cons, All-nil, All-head, All-tail}
use Rattle.std.proofs.lemmas.List.Sums.{sum_by-cons, sum_by-append}
use Rattle.sil_model.specs.LoopValue.{IsSubsystemInRange, groups_of}
use Rattle.sil_model.specs.Counts.{IsCounts, number_of, counts_numbered}
use Rattle.sil_model.specs.declared.parts.Subsystem.{Subsystem}
use Rattle.common_cause.specs.declared.event.LumpEvent.{LumpEvent}
use Rattle.common_cause.specs.LumpEvents.{lump_events_of}
use Rattle.common_cause.specs.LumpedRates.{spans, counts_after}
use Rattle.count_laws.proofs.Numbering.{counts_numbered-valid}
use Rattle.product_chain.specs.declared.step.Step.{Step}
use Rattle.product_chain.specs.Steps.{joined, times, step_by, steps_over, steps_from, steps_below}
use Rattle.product_chain.proofs.Events.{IsFair, events_fair}
use Rattle.product_chain.proofs.Shapes.{IsShaped, events-shaped}
use Rattle.product_chain.proofs.Apart.{MayHappen, divisor, number-away, number-divisor}

abbrev pub one_if : Bool → ℕ
one_if b = if b then 1 else 0

-- steps that reach a count vector, and those of a divisor among them
abbrev pub reaches : ℕ → Step → ℕ
reaches j s = one_if (s.target == j)

abbrev hits : ℕ → ℕ → Step → Bool
hits j d s = s.target == j && s.den == d

abbrev hit : ℕ → ℕ → Step → ℕ
hit j d s = one_if (hits j d s)

-- two that hit are joined
meet : (j d : ℕ) (s t : Step) → hits j d s ≡ true → hits j d t ≡ true → (s.target == t.target && s.den == t.den) ≡ true
meet j d s t p q = rw (eq-eqb s.target t.target (left s p ∙ sym (left t q)), eq-eqb s.den t.den (right s p ∙ sym (right t q))) refl
  where
    first : (a b : Bool) → (a && b) ≡ true → a ≡ true
    first true b h = refl
    first false b h = h

    second : (a b : Bool) → (a && b) ≡ true → b ≡ true
    second true b h = h
    second false b h = cc

    left : (s : Step) → hits j d s ≡ true → s.target ≡ j
    left s h = eqb-true s.target j (first (s.target == j) (s.den == d) h)

    right : (s : Step) → hits j d s ≡ true → s.den ≡ d
    right s h = eqb-true s.den d (second (s.target == j) (s.den == d) h)

module _ (j d : ℕ) where
  joined-hit-le : (ss : List Step) (t : Step) → sum_by (hit j d) (joined ss t) ≤ sum_by (hit j d) ss + hit j d t
  joined-hit-le [] t = omega (arith, sum_by-cons (hit j d) t [])
  joined-hit-le (s ∷ ss) t = go (s.target == t.target && s.den == t.den) (joined-hit-le ss t)
    where
      go : (b : Bool) → sum_by (hit j d) (joined ss t) ≤ sum_by (hit j d) ss + hit j d t
          → sum_by (hit j d) (if b then record s { num = s.num + t.num } ∷ ss else s ∷ joined ss t) ≤ sum_by (hit j d) (s ∷ ss) + hit j d t
      go true h = omega (arith, sum_by-cons (hit j d) (record s { num = s.num + t.num }) ss, sum_by-cons (hit j d) s ss)
      go false h = omega (arith, sum_by-cons (hit j d) s (joined ss t), sum_by-cons (hit j d) s ss, h)

  joined-hit : (ss : List Step) (t : Step) → sum_by (hit j d) ss ≤ 1 → sum_by (hit j d) (joined ss t) ≤ 1
  joined-hit [] t h = omega (arith, sum_by-cons (hit j d) t [], at_most (hits j d t))
    where
      at_most : (b : Bool) → one_if b ≤ 1
      at_most true = omega arith
      at_most false = omega arith
  joined-hit (s ∷ ss) t h = go (s.target == t.target && s.den == t.den) refl (hits j d s) refl (hits j d t) refl (joined-hit ss t)
    where
      sums : sum_by (hit j d) (s ∷ ss) ≡ hit j d s + sum_by (hit j d) ss
      sums = sum_by-cons (hit j d) s ss

      go : (b : Bool) → (s.target == t.target && s.den == t.den) ≡ b → (p : Bool) → hits j d s ≡ p → (q : Bool) → hits j d t ≡ q
          → (sum_by (hit j d) ss ≤ 1 → sum_by (hit j d) (joined ss t) ≤ 1)
          → sum_by (hit j d) (if b then record s { num = s.num + t.num } ∷ ss else s ∷ joined ss t) ≤ 1
      go true e p x q y later = omega (arith, sum_by-cons (hit j d) (record s { num = s.num + t.num }) ss, sums)
      go false e true x true y later = absurd (no (sym (meet j d s t x y) ∙ e))
        where
          no : true ≡ false → ⊥
          no x = cc
      go false e true x false y later =
          let mine : hit j d s ≡ 1 = ap one_if x in
          let other : hit j d t ≡ 0 = ap one_if y in
          omega (arith, sum_by-cons (hit j d) s (joined ss t), sums, mine, other, joined-hit-le ss t)
      go false e false x q y later =
          let mine : hit j d s ≡ 0 = ap one_if x in
          let before : sum_by (hit j d) ss ≤ 1 = omega (arith, sums) in
          omega (arith, sum_by-cons (hit j d) s (joined ss t), sums, mine, later before)

-- a step is made by events that may happen, and has the target and the divisor of one of them
pub record IsMade (us : List Subsystem) (cs : List ℕ) (v : IsCounts (groups_of us) cs) (s : Step) : Type 0 where
  pub by : LumpEvent
  pub may : MayHappen us cs v by
  pub target : s.target ≡ number_of (groups_of us) (counts_after (spans us) cs by)
  pub den : s.den ≡ divisor us cs v by

module _ (us : List Subsystem) (cs : List ℕ) (v : IsCounts (groups_of us) cs) (i : ℕ) where
  abbrev Made : Step → Type 0
  Made s = IsMade us cs v s

  joined-made : (ss : List Step) (t : Step) → Made t → All Made ss → All Made (joined ss t)
  joined-made [] t m all = All-cons Made t [] m (All-nil Made)
  joined-made (s ∷ ss) t m all = go (s.target == t.target && s.den == t.den) (joined-made ss t m (All-tail Made s ss all))
    where
      mine : Made s
      mine = All-head Made s ss all

      go : (b : Bool) → All Made (joined ss t) → All Made (if b then record s { num = s.num + t.num } ∷ ss else s ∷ joined ss t)
      go true later =
          All-cons Made (record s { num = s.num + t.num }) ss (record { by = mine.by; may = mine.may; target = mine.target; den = mine.den })
          (All-tail Made s ss all)
      go false later = All-cons Made s (joined ss t) mine later

  over-made : (es : List LumpEvent) (ss : List Step) → All (IsFair us) es → All (IsShaped us) es → All Made ss → All Made (steps_over us cs i ss es)
  over-made [] ss fair shaped all = all
  over-made (e ∷ es) ss fair shaped all =
      go (nat_lt 0 (times us cs i e)) refl (λ p. over-made es (joined ss (step_by us cs i e)) later also (joined-made ss (step_by us cs i e) (mine p) all))
      (over-made es ss later also all)
    where
      later : All (IsFair us) es
      later = All-tail (IsFair us) e es fair

      also : All (IsShaped us) es
      also = All-tail (IsShaped us) e es shaped

      mine : 0 < times us cs i e → Made (step_by us cs i e)
      mine p = record {
        by = e;
        may = record { fair = All-head (IsFair us) e es fair; shaped = All-head (IsShaped us) e es shaped; happens = p };
        target = refl;
        den = refl;
      }

      go : (b : Bool) → nat_lt 0 (times us cs i e) ≡ b → (0 < times us cs i e → All Made (steps_over us cs i (joined ss (step_by us cs i e)) es))
          → All Made (steps_over us cs i ss es)
          → All Made (if b then steps_over us cs i (joined ss (step_by us cs i e)) es else steps_over us cs i ss es)
      go true d with_it without = with_it (ltb-true 0 (times us cs i e) d)
      go false d with_it without = without

  over-hit : (j d : ℕ) (es : List LumpEvent) (ss : List Step) → sum_by (hit j d) ss ≤ 1 → sum_by (hit j d) (steps_over us cs i ss es) ≤ 1
  over-hit j d [] ss h = h
  over-hit j d (e ∷ es) ss h =
      go (nat_lt 0 (times us cs i e)) (over-hit j d es (joined ss (step_by us cs i e)) (joined-hit j d ss (step_by us cs i e) h)) (over-hit j d es ss h)
    where
      go : (b : Bool) → sum_by (hit j d) (steps_over us cs i (joined ss (step_by us cs i e)) es) ≤ 1 → sum_by (hit j d) (steps_over us cs i ss es) ≤ 1
          → sum_by (hit j d) (if b then steps_over us cs i (joined ss (step_by us cs i e)) es else steps_over us cs i ss es) ≤ 1
      go true p q = p
      go false p q = q

  -- either none reaches j, or one does
  reached : (j : ℕ) (ss : List Step) → All Made ss → (sum_by (reaches j) ss ≡ 0) ⊎ ((s : Step) × (Made s) × (s.target ≡ j))
  reached j [] all = inl refl
  reached j (s ∷ ss) all = go (s.target == j) refl (reached j ss (All-tail Made s ss all))
    where
      go : (b : Bool) → (s.target == j) ≡ b → (sum_by (reaches j) ss ≡ 0) ⊎ ((s : Step) × (Made s) × (s.target ≡ j))
          → (sum_by (reaches j) (s ∷ ss) ≡ 0) ⊎ ((s : Step) × (Made s) × (s.target ≡ j))
      go true e rest = inr (s, All-head Made s ss all, eqb-true s.target j e)
      go false e (inl none) = let mine : reaches j s ≡ 0 = ap one_if e in inl (omega (arith, sum_by-cons (reaches j) s ss, mine, none))
      go false e (inr found) = inr found

  -- those that reach j hit it with one divisor
  reaches-hit : (j : ℕ) (x : Step) → Made x → x.target ≡ j → (ss : List Step) → All Made ss → sum_by (reaches j) ss ≤ sum_by (hit j x.den) ss
  reaches-hit j x m e [] all = omega arith
  reaches-hit j x m e (s ∷ ss) all =
      omega (arith, sum_by-cons (reaches j) s ss, sum_by-cons (hit j x.den) s ss, go (s.target == j) refl, reaches-hit j x m e ss (All-tail Made s ss all))
    where
      mine : Made s
      mine = All-head Made s ss all

      go : (b : Bool) → (s.target == j) ≡ b → one_if b ≤ one_if (b && s.den == x.den)
      go false d = omega arith
      go true d =
          let target : s.target ≡ j = eqb-true s.target j d in
          let same : s.den ≡ x.den = mine.den ∙ number-divisor us cs v mine.by m.by mine.may m.may (sym mine.target ∙ target ∙ sym e ∙ m.target) ∙ sym m.den in
          rw (eq-eqb s.den x.den same) (omega arith)

  -- none goes back
  away : cs ≡ counts_numbered (groups_of us) i → (ss : List Step) → All Made ss → sum_by (reaches i) ss ≡ 0
  away is [] all = refl
  away is (s ∷ ss) all =
      let m : Made s = All-head Made s ss all in
      let mine : reaches i s ≡ 0 = rw (ne_eqb s.target i (λ e. number-away us cs v i is m.by m.may (sym m.target ∙ e))) refl in
      omega (arith, sum_by-cons (reaches i) s ss, mine, away is ss (All-tail Made s ss all))

module _ (us : List Subsystem) (r : All IsSubsystemInRange us) (i : ℕ) where
  abbrev cs : List ℕ
  cs = counts_numbered (groups_of us) i

  abbrev v : IsCounts (groups_of us) cs
  v = counts_numbered-valid (groups_of us) i

  made : All (IsMade us cs v) (steps_from us i)
  unfolding steps_from
  made = over-made us cs v i (lump_events_of us) [] (events_fair us r) (events-shaped us) (All-nil (IsMade us cs v))

  once : (j d : ℕ) → sum_by (hit j d) (steps_from us i) ≤ 1
  unfolding steps_from
  once j d = let none : sum_by (hit j d) [] ≤ 1 = omega arith in over-hit us cs v i j d (lump_events_of us) [] none

  pub reached-once : (j : ℕ) → sum_by (reaches j) (steps_from us i) ≤ 1
  reached-once j = elim (reached us cs v i j (steps_from us i) made) [
    | inl none ↦ omega (arith, none)
    | inr found ↦ omega (arith, reaches-hit us cs v i j found.0 found.1 found.2 (steps_from us i) made, once j found.0.den)
  ]

  pub never-back : sum_by (reaches i) (steps_from us i) ≡ 0
  never-back = away us cs v i refl (steps_from us i) made

pub below-reached : (us : List Subsystem) → All IsSubsystemInRange us → (j n : ℕ) → sum_by (reaches j) (steps_below us n) ≤ n
unfolding steps_below
below-reached us r j zero = omega arith
below-reached us r j (suc n) = omega (arith, sum_by-append (reaches j) (steps_below us n) (steps_from us n), below-reached us r j n, reached-once us r n j)
