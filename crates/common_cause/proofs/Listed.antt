-- The events, one subsystem and one group after another.
use Rattle.std.proofs.Common.{◌≡◌, ℕ, zero, suc, ◌+◌, ◌*◌, ◌<◌, ◌≤◌, List, [], ◌∷◌, ◌++◌, length, get_or, drop, refl, sym, ap, ◌∙◌, arith, append_assoc, add-one, length-append}
use Rattle.std.proofs.Math.Seq.{drop-cons}
use Rattle.std.proofs.Math.ListN.{drop_of_length-le}
use Rattle.std.proofs.lemmas.List.{append-nil}
use Rattle.sil_model.specs.Budget.{group_events as each_group, common_causes, lumped_events_of}
use Rattle.sil_model.specs.LoopValue.{groups_of, groups_from, groups_by_test}
use Rattle.sil_model.specs.declared.parts.Subsystem.{Subsystem}
use Rattle.channel_counts.proofs.Subsystems.{span-same}
use Rattle.common_cause.specs.declared.event.LumpEvent.{LumpEvent}
use Rattle.common_cause.specs.LumpEvents.{span_of, group_events, groups_events, whole_events, lump_events_from, lump_events_of}

-- the groups that are left
module _ (u : Subsystem) (i : ℕ) (all : List LumpEvent) where
  abbrev pub GroupsLeft : List LumpEvent → ℕ → ℕ → Type 0
  GroupsLeft es g n = es ++ groups_events u i g n ≡ all

  pub group-next : (es fs : List LumpEvent) (g k n : ℕ) → k ≡ suc n → GroupsLeft es g k → fs ≡ es ++ group_events u i g → GroupsLeft fs (g + 1) n
  group-next es fs g k n more e d = rw (d, append_assoc, add-one g) (rw more at e)

  pub groups-end : (es : List LumpEvent) (g : ℕ) → GroupsLeft es g 0 → es ≡ all
  groups-end es g e = sym (append-nil es) ∙ e

-- the subsystems that are left
abbrev pub SubsystemsLeft : List Subsystem → List LumpEvent → ℕ → ℕ → Type 0
SubsystemsLeft us es i first = es ++ lump_events_from i first (drop i us) ≡ lump_events_of us

pub subsystems-start : (us : List Subsystem) → SubsystemsLeft us [] 0 0
unfolding lump_events_of
subsystems-start us = refl

module _ (us : List Subsystem) (i first n : ℕ) (u d : Subsystem) (es fs hs : List LumpEvent) (inside : i < length us) (is : u ≡ get_or us i d)
    (p : SubsystemsLeft us es i first)
    (many : n ≡ length (groups_by_test i u.vote.n u.test)) (groups : fs ≡ es ++ groups_events u i first n) (common : hs ≡ fs ++ whole_events u i first) where
  pub subsystems-next : SubsystemsLeft us hs (i + 1) (first + n)
  unfolding lump_events_from
  subsystems-next =
      let span : n ≡ span_of u = many ∙ span-same i 0 u.vote.n u.test in
      let here : drop i us ≡ u ∷ drop (suc i) us = drop-cons us i d inside ∙ ap (λ x. x ∷ drop (suc i) us) (sym is) in
      rw (add-one i, common, groups, span, append_assoc, append_assoc) (rw (here, append_assoc) at p)

pub subsystems-end : (us : List Subsystem) (i first : ℕ) (es : List LumpEvent) → length us ≤ i → SubsystemsLeft us es i first → es ≡ lump_events_of us
unfolding lump_events_from
subsystems-end us i first es h p = sym (append-nil es) ∙ rw (drop_of_length-le us h) at p

-- how many events there are
length-groups_events : (u : Subsystem) (i g n : ℕ) → length (groups_events u i g n) ≡ each_group * n
length-groups_events u i g zero = omega arith
length-groups_events u i g (suc n) = omega (arith, length-append (group_events u i g) (groups_events u i (suc g) n), length-groups_events u i (suc g) n)

length-from : (us : List Subsystem) (i g : ℕ) → length (lump_events_from i g us) ≡ each_group * length (groups_from i us) + common_causes * length us
unfolding lump_events_from
length-from [] i g = omega arith
length-from (u ∷ us) i g =
    omega (
      arith,
      length-append (groups_events u i g (span_of u) ++ whole_events u i g) (lump_events_from (suc i) (g + span_of u) us),
      length-append (groups_events u i g (span_of u)) (whole_events u i g),
      length-groups_events u i g (span_of u),
      length-from us (suc i) (g + span_of u),
      length-append (groups_by_test i u.vote.n u.test) (groups_from (suc i) us),
      span-same i 0 u.vote.n u.test,
    )

pub length-events : (us : List Subsystem) → length (lump_events_of us) ≡ lumped_events_of us
unfolding lump_events_of groups_of lumped_events_of
length-events us = length-from us 0 0
