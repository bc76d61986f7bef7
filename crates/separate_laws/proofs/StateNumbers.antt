-- The number of a full state in two parts: that of the first part is its low digits, and that of the second its high ones.
use Rattle.std.proofs.Common.{◌≡◌, ℕ, zero, suc, ◌+◌, ◌*◌, ◌/◌, ◌%◌, ◌<◌, true, false, List, [], ◌∷◌, ◌++◌}
use Rattle.std.proofs.Common.{length, map, take, drop, refl, sym, ap, ◌∙◌, arith, append_assoc, append-nil}
use Rattle.std.specs.Prelude.{Option, Some, None, ◌==◌}
use Rattle.std.proofs.lemmas.Nat.{div-mul-add, mod-mul-add, div-add-mod', div_below, mod_below}
use Rattle.std.proofs.lemmas.List.{map-append, take-append-le, drop-append-le, length-drop}
use Rattle.sil_model.specs.State.{FullState}
use Rattle.sil_model.specs.LoopValue.{single_groups, groups_by_test, groups_from, groups_of}
use Rattle.sil_model.specs.Sizes.{channel_states, shares_of, states_over, states_of}
use Rattle.sil_model.specs.Counts.{list_number, list_numbered, number_of, counts_numbered}
use Rattle.sil_model.specs.declared.parts.Group.{Group}
use Rattle.sil_model.specs.declared.parts.Subsystem.{Subsystem}
use Rattle.sil_model.specs.declared.parts.TestPlan.{TestPlan}
use Rattle.count_laws.proofs.Numbering.{counts_numbered-valid, shares-positive, states-positive}
use Rattle.count_laws.specs.CountsOf.{tally_of, counts_of}
use Rattle.lumped_laws.specs.GroupLaws.{channels_over}
use Rattle.lumped_laws.specs.CountsOfState.{counts_of_state, number_of_state}
use Rattle.lumped_laws.specs.StateOfCounts.{channels_with, state_of_counts, state_numbered}
use Rattle.lumped_laws.proofs.GroupCounts.{counted-valid}
use Rattle.lumped_laws.proofs.LaidOut.{groups_where, by_test-channels}

-- the same groups of the next subsystem
abbrev next : Group → Group
next g = record { subsystem = suc g.subsystem; first_channel = g.first_channel; size = g.size }

singles-next : (i c n : ℕ) → single_groups (suc i) c n ≡ map next (single_groups i c n)
singles-next i c zero = refl
singles-next i c (suc n) = ap (λ gs. record { subsystem = suc i; first_channel = c; size = 1 } ∷ gs) (singles-next i (suc c) n)

by_test-next : (i n : ℕ) (plan : Option TestPlan) → groups_by_test (suc i) n plan ≡ map next (groups_by_test i n plan)
by_test-next i n None = refl
by_test-next i n (Some p) =
    elim (p.stagger == 0) as (λ b. groups_where b (suc i) n ≡ map next (groups_where b i n)) [ true ↦ refl | false ↦ singles-next i 0 n ]

from-next : (i : ℕ) (us : List Subsystem) → groups_from (suc i) us ≡ map next (groups_from i us)
from-next i [] = refl
from-next i (u ∷ us) =
    cc (by_test-next i u.vote.n u.test, from-next (suc i) us, map-append next (groups_by_test i u.vote.n u.test) (groups_from (suc i) us))

-- their counts and numbers are the same
states-next : (gs : List Group) → states_over (map next gs) ≡ states_over gs
states-next [] = refl
states-next (g ∷ gs) = ap (λ n. shares_of g.size * n) (states-next gs)

number-next : (gs : List Group) (cs : List ℕ) → number_of (map next gs) cs ≡ number_of gs cs
unfolding number_of
number-next [] cs = refl
number-next (g ∷ gs) cs = ap (λ n. n * shares_of g.size + list_number (take channel_states cs)) (number-next gs (drop channel_states cs))

numbered-next : (gs : List Group) (i : ℕ) → counts_numbered (map next gs) i ≡ counts_numbered gs i
unfolding counts_numbered
numbered-next [] i = refl
numbered-next (g ∷ gs) i = ap (λ cs. list_numbered 3 g.size (i % shares_of g.size) ++ cs) (numbered-next gs (i / shares_of g.size))

state-next : (gs : List Group) (cs : List ℕ) → state_of_counts (map next gs) cs ≡ state_of_counts gs cs
unfolding state_of_counts
state-next [] cs = refl
state-next (g ∷ gs) cs = cc (state-next gs (drop channel_states cs))

counts-next : (gs : List Group) (s : FullState) → counts_of (map next gs) s ≡ counts_of gs s
counts-next [] s = refl
counts-next (g ∷ gs) s = ap (λ cs. tally_of (take g.size s) ++ cs) (counts-next gs (drop g.size s))

-- groups behind others
states-append : (xs ys : List Group) → states_over (xs ++ ys) ≡ states_over xs * states_over ys
states-append [] ys = omega arith
states-append (g ∷ xs) ys = omega (arith, ap (λ n. shares_of g.size * n) (states-append xs ys))

number-append : (xs ys : List Group) (cs ds : List ℕ) → length cs ≡ channel_states * length xs
    → number_of (xs ++ ys) (cs ++ ds) ≡ number_of xs cs + states_over xs * number_of ys ds
unfolding number_of
number-append [] ys [] ds e = omega arith
number-append [] ys (c ∷ cs) ds e = absurd (omega arith)
number-append (g ∷ xs) ys (a ∷ b ∷ c ∷ d ∷ cs) ds e =
    omega (arith, ap (λ n. n * shares_of g.size) (number-append xs ys cs ds (omega arith)))
number-append (g ∷ xs) ys (a ∷ b ∷ c ∷ []) ds e = absurd (omega arith)
number-append (g ∷ xs) ys (a ∷ b ∷ []) ds e = absurd (omega arith)
number-append (g ∷ xs) ys (a ∷ []) ds e = absurd (omega arith)
number-append (g ∷ xs) ys [] ds e = absurd (omega arith)

state-append : (xs ys : List Group) (cs ds : List ℕ) → length cs ≡ channel_states * length xs
    → state_of_counts (xs ++ ys) (cs ++ ds) ≡ state_of_counts xs cs ++ state_of_counts ys ds
unfolding state_of_counts
state-append [] ys [] ds e = refl
state-append [] ys (c ∷ cs) ds e = absurd (omega arith)
state-append (g ∷ xs) ys (a ∷ b ∷ c ∷ d ∷ cs) ds e =
    let first : FullState = channels_with (a ∷ b ∷ c ∷ d ∷ cs) in
    ap (λ x. first ++ x) (state-append xs ys cs ds (omega arith)) ∙ sym (append_assoc first (state_of_counts xs cs) (state_of_counts ys ds))
state-append (g ∷ xs) ys (a ∷ b ∷ c ∷ []) ds e = absurd (omega arith)
state-append (g ∷ xs) ys (a ∷ b ∷ []) ds e = absurd (omega arith)
state-append (g ∷ xs) ys (a ∷ []) ds e = absurd (omega arith)
state-append (g ∷ xs) ys [] ds e = absurd (omega arith)

-- the digit of the first group
module _ (g : Group) (xs : List Group) (lo hi : ℕ) where
  abbrev shares : ℕ
  shares = shares_of g.size

  first_split : lo + states_over (g ∷ xs) * hi ≡ (lo / shares + states_over xs * hi) * shares + lo % shares
  first_split = omega (arith, div-add-mod' lo shares)

  first_low : (lo + states_over (g ∷ xs) * hi) % shares ≡ lo % shares
  first_low =
      ap (λ n. n % shares) first_split
      ∙ mod-mul-add (lo / shares + states_over xs * hi) shares (lo % shares) (mod_below lo shares (shares-positive g.size))

  first_high : (lo + states_over (g ∷ xs) * hi) / shares ≡ lo / shares + states_over xs * hi
  first_high =
      ap (λ n. n / shares) first_split
      ∙ div-mul-add (lo / shares + states_over xs * hi) shares (lo % shares) (mod_below lo shares (shares-positive g.size))

numbered-append : (xs ys : List Group) (lo hi : ℕ) → lo < states_over xs
    → counts_numbered (xs ++ ys) (lo + states_over xs * hi) ≡ counts_numbered xs lo ++ counts_numbered ys hi
unfolding counts_numbered
numbered-append [] ys lo hi h = ap (counts_numbered ys) (omega arith)
numbered-append (g ∷ xs) ys lo hi h =
    let n : ℕ = shares_of g.size in
    let high : lo / n < states_over xs = div_below lo n (states_over xs) (shares-positive g.size) (omega arith) in
    rw (first_low g xs lo hi, first_high g xs lo hi, numbered-append xs ys (lo / n) hi high)
    (sym (append_assoc (list_numbered 3 g.size (lo % n)) (counts_numbered xs (lo / n)) (counts_numbered ys hi)))

counts-append : (xs ys : List Group) (s t : FullState) → length s ≡ channels_over xs → counts_of (xs ++ ys) (s ++ t) ≡ counts_of xs s ++ counts_of ys t
counts-append [] ys [] t e = refl
counts-append [] ys (c ∷ s) t e = absurd (omega arith)
counts-append (g ∷ xs) ys s t e =
    rw (take-append-le g.size s t (omega arith), drop-append-le g.size s t (omega arith))
    (ap (λ cs. tally_of (take g.size s) ++ cs) (counts-append xs ys (drop g.size s) t (omega (arith, length-drop g.size s)))
    ∙ sym (append_assoc (tally_of (take g.size s)) (counts_of xs (drop g.size s)) (counts_of ys t)))

-- the first subsystem and the others
module _ (u : Subsystem) (us : List Subsystem) where
  abbrev own : List Group
  own = groups_by_test 0 u.vote.n u.test

  abbrev others : List Group
  others = groups_from 0 us

  groups-parts : groups_from 0 (u ∷ us) ≡ own ++ map next others
  groups-parts = ap (λ gs. own ++ gs) (from-next 0 us)

  groups-own : groups_from 0 (u ∷ []) ≡ own
  groups-own = append-nil own

  pub states-parts : states_of (u ∷ us) ≡ states_of (u ∷ []) * states_of us
  unfolding states_of groups_of
  states-parts = rw (groups-parts, groups-own, states-append own (map next others), states-next others) refl

  pub number-parts : (s t : FullState) → u.vote.n ≡ length s
      → number_of_state (u ∷ us) (s ++ t) ≡ number_of_state (u ∷ []) s + states_of (u ∷ []) * number_of_state us t
  unfolding number_of_state counts_of_state groups_of states_of
  number-parts s t long =
      let all : length s ≡ channels_over own = sym long ∙ sym (by_test-channels 0 u.vote.n u.test) in
      let four : length (counts_of own s) ≡ channel_states * length own = (counted-valid own s all).each in
      rw (
        groups-parts,
        groups-own,
        counts-append own (map next others) s t all,
        number-append own (map next others) (counts_of own s) (counts_of (map next others) t) four,
        counts-next others t,
        number-next others (counts_of others t),
      ) refl

  pub numbered-parts : (lo hi : ℕ) → lo < states_of (u ∷ [])
      → state_numbered (u ∷ us) (lo + states_of (u ∷ []) * hi) ≡ state_numbered (u ∷ []) lo ++ state_numbered us hi
  unfolding state_numbered groups_of states_of
  numbered-parts lo hi low =
      let low_own : lo < states_over own = rw groups-own at low in
      rw (
        groups-parts,
        groups-own,
        numbered-append own (map next others) lo hi low_own,
        state-append own (map next others) (counts_numbered own lo) (counts_numbered (map next others) hi) (counts_numbered-valid own lo).each,
        numbered-next others hi,
        state-next others (counts_numbered others hi),
      ) refl

pub states-some : (us : List Subsystem) → 0 < states_of us
unfolding states_of
states-some us = states-positive (groups_of us)
