-- What holds of the events of a loop, one after another; and that an event leads from a count vector of the loop to another.
use Rattle.std.proofs.Common.{◌≡◌, ℕ, zero, suc, ◌+◌, ◌*◌, ◌<◌, ◌≤◌, inl, inr, List, [], ◌∷◌, ◌++◌, length, get_or, refl, sym, ap, ◌∙◌, arith, length-append}
use Rattle.std.specs.Prelude.{Bool, true, false, All, if◌then◌else◌, nat_lt}
use Rattle.std.proofs.lemmas.List.{get_or_past}
use Rattle.std.proofs.lemmas.Bool.{cases_lt}
use Rattle.std.proofs.lemmas.List.Elements.{All-append, All-cons, All-nil, All-head, All-tail}
use Rattle.sil_model.specs.Events.{Failure, Kind, failed, source, target}
use Rattle.sil_model.specs.Events.Failure.{Undetected, Uncovered, Detected}
use Rattle.sil_model.specs.Events.Kind.{Fails as FailsBy, Returns}
use Rattle.sil_model.specs.LoopValue.{LoopValue, IsValid, IsSubsystemInRange, groups_of, groups_from, groups_by_test}
use Rattle.sil_model.specs.Sizes.{channel_states}
use Rattle.sil_model.specs.Counts.{IsCounts, count_in, place_of, moved_in}
use Rattle.sil_model.specs.declared.parts.Chan.{Chan}
use Rattle.sil_model.specs.declared.parts.Chan.TheVariants.{Work, Hidden, Deep, Repair}
use Rattle.sil_model.specs.declared.parts.Group.{Group}
use Rattle.sil_model.specs.declared.parts.Subsystem.{Subsystem}
use Rattle.sil_model.proofs.Groups.{by_test-few}
use Rattle.lumping.proofs.Few.{groups-few}
use Rattle.lumping.proofs.Moves.{IsCounts-moved_in}
use Rattle.channel_counts.specs.GroupSums.{sum_in, moved_together}
use Rattle.channel_counts.proofs.Subsystems.{span-same, in_range}
use Rattle.common_cause.specs.declared.event.Rate.TheVariants.{Fails}
use Rattle.common_cause.specs.declared.event.LumpEvent.{LumpEvent}
use Rattle.common_cause.specs.LumpEvents.{span_of, common_units, kind_rate, groups_events, whole_events, lump_events_from, lump_events_of}
use Rattle.common_cause.specs.LumpedRates.{spans, times_of, counts_after}
use Rattle.common_cause.specs.InLoop.{IsCountsOf, IsInLoop}

-- what holds of the events of one channel and of the common causes of each subsystem holds of all events
module _ (us : List Subsystem) (Q : Subsystem → Type 0) (P : LumpEvent → Type 0)
    (alone : (u : Subsystem) → Q u → (i g : ℕ) (k : Kind)
    → IsInLoop us (record { subsystem = i; group = g; whole = false; from = source k; to = target k; rate = kind_rate u k })
    → P (record { subsystem = i; group = g; whole = false; from = source k; to = target k; rate = kind_rate u k }))
    (together : (u : Subsystem) → Q u → (i g : ℕ) (f : Failure)
    → IsInLoop us (record { subsystem = i; group = g; whole = true; from = Work; to = failed f; rate = Fails (common_units u f) })
    → P (record { subsystem = i; group = g; whole = true; from = Work; to = failed f; rate = Fails (common_units u f) })) where
  three : (a b c : LumpEvent) (es : List LumpEvent) → P a → P b → P c → All P es → All P (a ∷ b ∷ c ∷ es)
  three a b c es p q r rest = All-cons P a (b ∷ c ∷ es) p (All-cons P b (c ∷ es) q (All-cons P c es r rest))

  module _ (u : Subsystem) (q : Q u) (i : ℕ) (inside : i < length us) where
    of_groups : (g n : ℕ) → g + n ≤ length (groups_of us) → All P (groups_events u i g n)
    of_groups g zero h = All-nil P
    of_groups g (suc n) h =
        let here : g + 1 ≤ length (groups_of us) = omega arith in
        let one : (k : Kind) → P (record { subsystem = i; group = g; whole = false; from = source k; to = target k; rate = kind_rate u k }) =
        λ k. alone u q i g k (record { subsystem = inside; groups = here }) in
        let event : Kind → LumpEvent = λ k. record { subsystem = i; group = g; whole = false; from = source k; to = target k; rate = kind_rate u k } in
        let rest : List LumpEvent = groups_events u i (suc g) n in
        three (event (FailsBy Undetected)) (event (FailsBy Uncovered)) (event (FailsBy Detected)) (event Returns ∷ rest)
        (one (FailsBy Undetected)) (one (FailsBy Uncovered)) (one (FailsBy Detected))
        (All-cons P (event Returns) rest (one Returns) (of_groups (suc g) n (omega arith)))

    of_commons : (g : ℕ) → g + spans us i ≤ length (groups_of us) → All P (whole_events u i g)
    of_commons g h =
        let one : (f : Failure) → P (record { subsystem = i; group = g; whole = true; from = Work; to = failed f; rate = Fails (common_units u f) }) =
        λ f. together u q i g f (record { subsystem = inside; groups = h }) in
        three _ _ _ [] (one Undetected) (one Uncovered) (one Detected) (All-nil P)

  of_subsystems : (vs : List Subsystem) (i g : ℕ) → All Q vs → i + length vs ≡ length us → g + length (groups_from i vs) ≡ length (groups_of us)
      → ((k : ℕ) → spans us (i + k) ≡ spans vs k) → All P (lump_events_from i g vs)
  unfolding lump_events_from
  of_subsystems [] i g v e d wide = All-nil P
  of_subsystems (u ∷ vs) i g v e d wide =
      let q : Q u = All-head Q u vs v in
      let z : i + 0 ≡ i = omega arith in
      let span : spans us i ≡ span_of u = rw z at (wide 0) in
      let long : length (groups_from i (u ∷ vs)) ≡ span_of u + length (groups_from (suc i) vs) =
      length-append (groups_by_test i u.vote.n u.test) (groups_from (suc i) vs)
      ∙ ap (λ n. n + length (groups_from (suc i) vs)) (span-same i 0 u.vote.n u.test) in
      All-append P (groups_events u i g (span_of u) ++ whole_events u i g) (lump_events_from (suc i) (g + span_of u) vs)
      (All-append P (groups_events u i g (span_of u)) (whole_events u i g)
      (of_groups u q i (omega arith) g (span_of u) (omega (arith, long)))
      (of_commons u q i (omega arith) g (omega (arith, long, span))))
      (of_subsystems vs (suc i) (g + span_of u) (All-tail Q u vs v) (omega arith) (omega (arith, long))
      (λ k. let f : suc i + k ≡ i + suc k = omega arith in ap (spans us) f ∙ wide (suc k)))

  pub each-event : All Q us → All P (lump_events_of us)
  unfolding lump_events_of groups_of
  each-event v = of_subsystems us 0 0 v (omega arith) (omega arith) (λ k. let e : 0 + k ≡ k = omega arith in ap (spans us) e)

pub events-in_loop : (us : List Subsystem) → All (IsInLoop us) (lump_events_of us)
events-in_loop us = each-event us (λ u. u ≡ u) (IsInLoop us) (λ u q i g k h. h) (λ u q i g f h. h) (λ k d h. refl)

-- how many groups a subsystem has, by its number
spans-at : (us : List Subsystem) (k : ℕ) (u : Subsystem) → k < length us → u ≡ get_or us k u → spans us k ≡ span_of u
spans-at [] k u h e = absurd (omega arith)
spans-at (v ∷ us) zero u h e = rw (← e) refl
spans-at (v ∷ us) (suc k) u h e = spans-at us k u (omega arith) e

module _ (l : LoopValue) (v : IsValid l) (i : ℕ) (inside : i < length l.subsystems) (u : Subsystem) (groups : ℕ)
    (is : (d : Subsystem) → u ≡ get_or l.subsystems i d) (many : (j : ℕ) → groups ≡ length (groups_by_test j u.vote.n u.test)) where
  pub span-here : spans l.subsystems i ≡ groups
  span-here = spans-at l.subsystems i u inside (is u) ∙ sym (many 0)

  pub groups-here : groups ≤ 48
  groups-here =
      let r : IsSubsystemInRange u = in_range l.subsystems v.subsystems i u inside (is u) in
      let n : 1 ≤ u.vote.n = omega (arith, r.vote.some, r.vote.suffice) in
      omega (arith, many 0, by_test-few 0 u.vote.n u.test n, r.vote.few)

-- counts are few
counts-small : (gs : List Group) → All (λ g. g.size ≤ 8) gs → (cs : List ℕ) → IsCounts gs cs → (g : ℕ) (k : Chan) → count_in cs g k ≤ 8
counts-small gs few cs v g k = elim (cases_lt g (length gs)) [
  | inl h ↦
      let d : Group = record { subsystem = 0; first_channel = 0; size = 0 } in
      part k (v.sums g d h) (few g d h)
  | inr h ↦
      let none : count_in cs g k ≡ 0 = get_or_past cs (channel_states * g + place_of k) 0 (omega (arith, v.each)) in
      omega (arith, none)
]
  where
    part : (k : Chan) {n : ℕ}
        → count_in cs g Work + count_in cs g Hidden + count_in cs g Deep + count_in cs g Repair ≡ n → n ≤ 8 → count_in cs g k ≤ 8
    part Work e h = omega arith
    part Hidden e h = omega arith
    part Deep e h = omega arith
    part Repair e h = omega arith

-- events lead from count vectors to count vectors
together-valid : (gs : List Group) (n g : ℕ) (to : Chan) (cs : List ℕ) → g + n ≤ length gs → IsCounts gs cs → IsCounts gs (moved_together g n to cs)
together-valid gs zero g to cs h v = v
together-valid gs (suc n) g to cs h v =
    together-valid gs n (suc g) to _ (omega arith) (IsCounts-moved_in gs cs g (count_in cs g Work) Work to v (omega arith) (omega arith))

pub after-valid : (us : List Subsystem) (cs : List ℕ) (e : LumpEvent) → IsInLoop us e → IsCounts (groups_of us) cs → 0 < times_of (spans us) cs e
    → IsCounts (groups_of us) (counts_after (spans us) cs e)
after-valid us cs e in_loop v happens = go e.whole refl happens in_loop.groups
  where
    go : (b : Bool) → e.whole ≡ b
        → 0 < (if b then (if nat_lt 0 (sum_in cs e.group (spans us e.subsystem) Work) then 1 else 0) else count_in cs e.group e.from)
        → e.group + (if b then spans us e.subsystem else 1) ≤ length (groups_of us)
        → IsCounts (groups_of us) (if b then moved_together e.group (spans us e.subsystem) e.to cs else moved_in cs e.group e.from e.to 1)
    go true d p h = together-valid (groups_of us) (spans us e.subsystem) e.group e.to cs h v
    go false d p h = IsCounts-moved_in (groups_of us) cs e.group 1 e.from e.to v (omega arith) (omega arith)

module _ {l : LoopValue} {cs : List ℕ} (at : IsCountsOf l cs) where
  pub small-counts : (g : ℕ) (k : Chan) → count_in cs g k ≤ 8
  small-counts = counts-small (groups_of l.subsystems) (groups-few l at.valid) cs at.counts

  pub inside-here : (e : LumpEvent) → IsInLoop l.subsystems e → channel_states * (e.group + (if e.whole then spans l.subsystems e.subsystem else 1)) ≤ length cs
  inside-here e in_loop = omega (arith, in_loop.groups, at.counts.each)
