-- The groups of one subsystem after another.
use Rattle.std.proofs.Common.{◌≡◌, ℕ, zero, suc, ◌+◌, ◌<◌, ◌≤◌, List, [], ◌∷◌, ◌++◌, length, get_or, drop, refl, sym, ap, ◌∙◌, arith, add-one, length-append}
use Rattle.std.specs.Prelude.{true, false, Option, Some, None, if◌then◌else◌, ◌==◌, All}
use Rattle.std.proofs.Math.Seq.{drop-cons}
use Rattle.std.proofs.lemmas.List.Elements.{All-get_or}
use Rattle.sil_model.specs.LoopValue.{IsSubsystemInRange, groups_of, groups_from, groups_by_test, single_groups}
use Rattle.sil_model.specs.declared.parts.Subsystem.{Subsystem}
use Rattle.sil_model.specs.declared.parts.TestPlan.{TestPlan}
use Rattle.sil_model.specs.declared.parts.Group.{Group}
use Rattle.channel_counts.proofs.Counting.{At, advance, channels_in}
use Rattle.channel_counts.proofs.Counting.At.{here, there}

channels-single : (i c n : ℕ) → channels_in (single_groups i c n) ≡ n
channels-single i c zero = refl
channels-single i c (suc n) = omega (arith, channels-single i (suc c) n)

-- the groups of a subsystem have its channels
pub channels-by_test : (i n : ℕ) (t : Option TestPlan) → channels_in (groups_by_test i n t) ≡ n
channels-by_test i n None = omega arith
channels-by_test i n (Some p) =
    elim (p.stagger == 0) as (λ b. channels_in (if b then record { subsystem = i; first_channel = 0; size = n } ∷ [] else single_groups i 0 n) ≡ n)
    [ true ↦ omega arith | false ↦ channels-single i 0 n ]

length-single : (i c j d n : ℕ) → length (single_groups i c n) ≡ length (single_groups j d n)
length-single i c j d zero = refl
length-single i c j d (suc n) = ap suc (length-single i (suc c) j (suc d) n)

-- how many groups there are does not depend on the number of the subsystem
pub span-same : (i j n : ℕ) (t : Option TestPlan) → length (groups_by_test i n t) ≡ length (groups_by_test j n t)
span-same i j n None = refl
span-same i j n (Some p) =
    elim (p.stagger == 0) as (λ b. length (if b then record { subsystem = i; first_channel = 0; size = n } ∷ [] else single_groups i 0 n)
    ≡ length (if b then record { subsystem = j; first_channel = 0; size = n } ∷ [] else single_groups j 0 n))
    [ true ↦ refl | false ↦ length-single i 0 j 0 n ]

pub length-at : {gs rest : List Group} {g a : ℕ} → At gs g a rest → length gs ≡ g + length rest
length-at here = omega arith
length-at (there r e) = omega (arith, length-at r)

-- the groups and the channels of the subsystems from one on
module _ (us : List Subsystem) where
  abbrev pub AtSubsystem : ℕ → ℕ → ℕ → Type 0
  AtSubsystem i first a = At (groups_of us) first a (groups_from i (drop i us))

  pub at_start : AtSubsystem 0 0 0
  unfolding groups_of
  at_start = here

  module _ (i first a : ℕ) (u d : Subsystem) (inside : i < length us) (is : u ≡ get_or us i d) (p : AtSubsystem i first a) where
    abbrev pub groups_here : List Group
    groups_here = groups_by_test i u.vote.n u.test

    pub subsystems-here : drop i us ≡ u ∷ drop (suc i) us
    subsystems-here = drop-cons us i d inside ∙ ap (λ x. x ∷ drop (suc i) us) (sym is)

    pub at_here : At (groups_of us) first a (groups_here ++ groups_from (suc i) (drop (suc i) us))
    at_here = rw subsystems-here at p

    pub at_next : AtSubsystem (i + 1) (first + length groups_here) (a + u.vote.n)
    at_next = rw (add-one i) (rw (channels-by_test i u.vote.n u.test) at (advance groups_here (groups_from (suc i) (drop (suc i) us)) at_here))

    pub groups_within : first + length groups_here ≤ length (groups_of us)
    groups_within = omega (arith, length-at at_here, length-append groups_here (groups_from (suc i) (drop (suc i) us)))

-- a subsystem of a valid loop has its values in their ranges
pub in_range : (us : List Subsystem) → All IsSubsystemInRange us → (i : ℕ) (u : Subsystem) → i < length us → u ≡ get_or us i u → IsSubsystemInRange u
in_range us v i u inside is = rw (← is) at (All-get_or IsSubsystemInRange us i u inside v)
