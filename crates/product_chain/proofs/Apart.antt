-- Events lead to other count vectors than the one that they leave, and only failures lead to one count vector together.
use Rattle.std.proofs.Common.{◌≡◌, ◌≢◌, ℕ, ◌+◌, ◌*◌, ◌<◌, ◌≤◌, inl, inr, List, length, refl, sym, ap, ◌∙◌, arith}
use Rattle.std.specs.Prelude.{Bool, true, false, if◌then◌else◌, nat_lt}
use Rattle.std.proofs.lemmas.Bool.{cases_lt, ltb-true}
use Rattle.sil_model.specs.LoopValue.{groups_of}
use Rattle.sil_model.specs.Sizes.{channel_states}
use Rattle.sil_model.specs.Counts.{IsCounts, count_in, place_of, moved_in, number_of, counts_numbered}
use Rattle.sil_model.specs.declared.parts.Chan.TheVariants.{Work, Repair}
use Rattle.sil_model.specs.declared.parts.Subsystem.{Subsystem}
use Rattle.channel_counts.specs.GroupSums.{sum_in, moved_together}
use Rattle.common_cause.specs.declared.event.LumpEvent.{LumpEvent}
use Rattle.common_cause.specs.LumpedRates.{spans, times_of, counts_after}
use Rattle.common_cause.specs.Shares.{share_at}
use Rattle.count_laws.proofs.Numbering.{counts_numbered-number_of}
use Rattle.product_chain.specs.Steps.{lower}
use Rattle.common_cause.proofs.InLoop.{after-valid}
use Rattle.product_chain.proofs.Events.{IsFair}
use Rattle.product_chain.proofs.Shapes.{IsShaped, hours_at, owner_at}
use Rattle.product_chain.proofs.Shapes.IsShaped.{falls, returns}
use Rattle.product_chain.proofs.Working.{working, other-group, not-more, after-failure-of, after-return, together-not-more, together-fewer}

module _ (us : List Subsystem) (cs : List ℕ) (v : IsCounts (groups_of us) cs) where
  abbrev after : LumpEvent → List ℕ
  after e = counts_after (spans us) cs e

  -- an event of the loop that may happen
  pub record MayHappen (e : LumpEvent) : Type 0 where
    pub fair : IsFair us e
    pub shaped : IsShaped us e
    pub happens : 0 < times_of (spans us) cs e

  inside : (e : LumpEvent) → IsFair us e → channel_states * (e.group + (if e.whole then spans us e.subsystem else 1)) ≤ length cs
  inside e fair = omega (arith, fair.in_loop.groups, v.each)

  module _ (e : LumpEvent) (fair : IsFair us e) (from : e.from ≡ Work) (apart : place_of Work ≢ place_of e.to) where
    pub fewer-somewhere : 0 < times_of (spans us) cs e → (h : ℕ) × (working (after e) h < working cs h)
    fewer-somewhere happens = go e.whole (inside e fair) happens
      where
        go : (b : Bool) → channel_states * (e.group + (if b then spans us e.subsystem else 1)) ≤ length cs
            → 0 < (if b then (if nat_lt 0 (sum_in cs e.group (spans us e.subsystem) Work) then 1 else 0) else count_in cs e.group e.from)
            → (h : ℕ) × (working (if b then moved_together e.group (spans us e.subsystem) e.to cs else moved_in cs e.group e.from e.to 1) h < working cs h)
        go true long h = together-fewer e.to apart (spans us e.subsystem) e.group cs long
            (some (nat_lt 0 (sum_in cs e.group (spans us e.subsystem) Work)) refl h)
          where
            some : (b : Bool) → nat_lt 0 (sum_in cs e.group (spans us e.subsystem) Work) ≡ b → 0 < (if b then 1 else 0)
                → 0 < sum_in cs e.group (spans us e.subsystem) Work
            some true d p = ltb-true 0 _ d
            some false d p = absurd (omega arith)
        go false long h =
            let some : 0 < working cs e.group = rw from at h in
            (e.group, rw from (omega (arith, after-failure-of cs e.group (omega (arith, long)) e.to 1 apart, some)))

    pub none-more : (h : ℕ) → working (after e) h ≤ working cs h
    none-more h = go e.whole (inside e fair)
      where
        go : (b : Bool) → channel_states * (e.group + (if b then spans us e.subsystem else 1)) ≤ length cs
            → working (if b then moved_together e.group (spans us e.subsystem) e.to cs else moved_in cs e.group e.from e.to 1) h ≤ working cs h
        go true long = together-not-more e.to apart (spans us e.subsystem) e.group cs long h
        go false long = rw from (not-more cs e.group (omega (arith, long)) e.to 1 apart h)

  module _ (e : LumpEvent) (fair : IsFair us e) (single : e.whole ≡ false) (from : e.from ≡ Repair) (to : e.to ≡ Work) where
    long : channel_states * e.group + channel_states ≤ length cs
    long = let h = rw single at (inside e fair) in omega (arith, h)

    pub one-more : working (after e) e.group ≡ working cs e.group + 1
    one-more = rw (single, from, to) (after-return cs e.group long)

    pub others-stay : (h : ℕ) → h ≢ e.group → working (after e) h ≡ working cs h
    others-stay h ne = rw (single, from, to) (other-group cs e.group long Repair Work 1 h ne)

  -- an event leads elsewhere
  pub leads-away : (e : LumpEvent) → MayHappen e → after e ≢ cs
  leads-away e m same = go (m.shaped)
    where
      go : IsShaped us e → ⊥
      go (falls from apart den) =
          let found = fewer-somewhere e m.fair from apart m.happens in
          absurd (omega (arith, found.1, ap (λ ds. working ds found.0) same))
      go (returns single from to den own) = absurd (omega (arith, one-more e m.fair single from to, ap (λ ds. working ds e.group) same))

  -- the divisor of the rate of an event
  abbrev pub divisor : LumpEvent → ℕ
  divisor e = lower (share_at us cs e.subsystem) e.rate

  -- two that lead to one count vector have rates of one divisor
  pub one-divisor : (e d : LumpEvent) → MayHappen e → MayHappen d → after e ≡ after d → divisor e ≡ divisor d
  one-divisor e d m n same = go (m.shaped) (n.shaped)
    where
      go : IsShaped us e → IsShaped us d → divisor e ≡ divisor d
      go (falls p q r) (falls p' q' r') = r (share_at us cs e.subsystem) ∙ sym (r' (share_at us cs d.subsystem))
      go (falls p q r) (returns x y z w o) =
          absurd (omega (arith, none-more e m.fair p q d.group, one-more d n.fair x y z, ap (λ ds. working ds d.group) same))
      go (returns x y z w o) (falls p q r) =
          absurd (omega (arith, none-more d n.fair p q e.group, one-more e m.fair x y z, ap (λ ds. working ds e.group) same))
      go (returns x y z w o) (returns x' y' z' w' o') = elim (cases_lt e.group d.group) [
        | inl h ↦ absurd (omega (
          arith,
          others-stay d n.fair x' y' z' e.group (λ k. absurd (omega arith)),
          one-more e m.fair x y z,
          ap
              (λ ds. working ds e.group) same,
        ))
        | inr h ↦ elim (cases_lt d.group e.group) [
          | inl k ↦ absurd (omega (
            arith,
            others-stay d n.fair x' y' z' e.group (λ f. absurd (omega arith)),
            one-more e m.fair x y z,
            ap
                (λ ds. working ds e.group) same,
          ))
          | inr k ↦
              let g : e.group ≡ d.group = omega arith in
              let own : e.subsystem ≡ d.subsystem = o ∙ ap (owner_at us) g ∙ sym o' in
              w (share_at us cs e.subsystem) ∙ ap (λ h. hours_at us h * (share_at us cs e.subsystem).den) g
              ∙ ap (λ i. hours_at us d.group * (share_at us cs i).den) own ∙ sym (w' (share_at us cs d.subsystem))
        ]
      ]

  -- the same by the numbers of the count vectors
  abbrev number : LumpEvent → ℕ
  number e = number_of (groups_of us) (after e)

  back : (e : LumpEvent) → MayHappen e → counts_numbered (groups_of us) (number e) ≡ after e
  back e m = counts_numbered-number_of (groups_of us) (after e) (after-valid us cs e m.fair.in_loop v m.happens)

  pub number-away : (i : ℕ) → cs ≡ counts_numbered (groups_of us) i → (e : LumpEvent) → MayHappen e → number e ≢ i
  number-away i is e m same = leads-away e m (sym (back e m) ∙ ap (counts_numbered (groups_of us)) same ∙ sym is)

  pub number-divisor : (e d : LumpEvent) → MayHappen e → MayHappen d → number e ≡ number d → divisor e ≡ divisor d
  number-divisor e d m n same = one-divisor e d m n (sym (back e m) ∙ ap (counts_numbered (groups_of us)) same ∙ back d n)
