-- How large groups are, and how many count vectors a loop can have.
use Rattle.std.proofs.Common.{◌≡◌, ℕ, zero, suc, ◌+◌, ◌*◌, ◌^◌, ◌<◌, ◌≤◌, List, [], ◌∷◌, ◌++◌, length, true, false, refl, arith, lit≤}
use Rattle.std.specs.Prelude.{All, Option, Some, None, if◌then◌else◌, ◌==◌}
use Rattle.std.proofs.Math.Nat.{mul-le-mul, mul-le-mul_right, pow-suc, pow-le-pow_right}
use Rattle.std.proofs.lemmas.Nat.{pow-add}
use Rattle.std.proofs.lemmas.List.Elements.{All-nil, All-cons, All-append, All-head, All-tail}
use Rattle.sil_model.specs.LoopValue.{IsValid, IsSubsystemInRange, LoopValue, channels_of, groups_of, groups_from, groups_by_test, single_groups}
use Rattle.sil_model.specs.Sizes.{channel_states, shares_of, states_over}
use Rattle.sil_model.specs.Counts.{lists_below}
use Rattle.sil_model.specs.declared.parts.Subsystem.{Subsystem}
use Rattle.sil_model.specs.declared.parts.TestPlan.{TestPlan}
use Rattle.sil_model.specs.declared.parts.Group.{Group}
use Rattle.sil_model.proofs.StatesAlone.{states-single}
use Rattle.count_laws.proofs.Closed.{shares, six-triples, twice-pairs}
use Rattle.count_laws.proofs.Lists.{below-next}

-- a group has at most eight channels

abbrev Few : Group → Type 0
Few g = g.size ≤ 8

few-single : (i c n : ℕ) → All Few (single_groups i c n)
few-single i c zero = All-nil Few
few-single i c (suc n) = All-cons Few (record { subsystem = i; first_channel = c; size = 1 }) (single_groups i (suc c) n) (lit≤ tt) (few-single i (suc c) n)

few-whole : (i n : ℕ) → n ≤ 8 → All Few (record { subsystem = i; first_channel = 0; size = n } ∷ [])
few-whole i n h = All-cons Few (record { subsystem = i; first_channel = 0; size = n }) [] h (All-nil Few)

few-by_test : (i n : ℕ) (t : Option TestPlan) → n ≤ 8 → All Few (groups_by_test i n t)
few-by_test i n None h = few-whole i n h
few-by_test i n (Some p) h =
    elim (p.stagger == 0) as (λ b. All Few (if b then record { subsystem = i; first_channel = 0; size = n } ∷ [] else single_groups i 0 n))
    [ true ↦ few-whole i n h | false ↦ few-single i 0 n ]

few-from : (i : ℕ) (us : List Subsystem) → All IsSubsystemInRange us → All Few (groups_from i us)
few-from i [] h = All-nil Few
few-from i (u ∷ us) h =
    let here = All-head IsSubsystemInRange u us h in
    All-append Few (groups_by_test i u.vote.n u.test) (groups_from (suc i) us)
    (few-by_test i u.vote.n u.test here.vote.few) (few-from (suc i) us (All-tail IsSubsystemInRange u us h))

pub groups-few : (l : LoopValue) → IsValid l → All (λ g. g.size ≤ 8) (groups_of l.subsystems)
unfolding groups_of
groups-few l v = few-from 0 l.subsystems v.subsystems

-- there are at most as many count vectors as full states

four-triples : (n : ℕ) → lists_below 3 (suc (suc n)) ≤ channel_states * lists_below 3 (suc n)
four-triples n =
    let some : 1 ≤ n + 1 = omega arith in
    omega (arith, below-next 2 (suc n), twice-pairs (suc (suc n)), six-triples (suc n), mul-le-mul_right ((n + 2) * (n + 3)) some)

one-triple : lists_below 3 1 ≡ 1
unfolding lists_below
one-triple = refl

triples-pow : (n : ℕ) → lists_below 3 (suc n) ≤ channel_states ^ n
triples-pow zero = omega (arith, one-triple)
triples-pow (suc n) = rw (pow-suc channel_states n) (omega (arith, four-triples n, triples-pow n))

shares-pow : (n : ℕ) → shares_of n ≤ channel_states ^ n
shares-pow n = rw (shares n) (triples-pow n)

states_over-append : (xs ys : List Group) → states_over (xs ++ ys) ≡ states_over xs * states_over ys
states_over-append [] ys = omega arith
states_over-append (x ∷ xs) ys = rw (states_over-append xs ys) (omega arith)

states-by_test : (i n : ℕ) (t : Option TestPlan) → states_over (groups_by_test i n t) ≤ channel_states ^ n
states-by_test i n None = omega (arith, shares-pow n)
states-by_test i n (Some p) =
    elim (p.stagger == 0) as (λ b. states_over (if b then record { subsystem = i; first_channel = 0; size = n } ∷ [] else single_groups i 0 n) ≤ channel_states ^ n)
    [ true ↦ omega (arith, shares-pow n) | false ↦ omega (arith, states-single i 0 n) ]

states-from : (i : ℕ) (us : List Subsystem) → states_over (groups_from i us) ≤ channel_states ^ channels_of us
states-from i [] = omega arith
states-from i (u ∷ us) =
    rw (states_over-append (groups_by_test i u.vote.n u.test) (groups_from (suc i) us), pow-add channel_states u.vote.n (channels_of us))
    (mul-le-mul (states-by_test i u.vote.n u.test) (states-from (suc i) us))

channels-few : (us : List Subsystem) → All IsSubsystemInRange us → channels_of us ≤ 8 * length us
channels-few [] h = omega arith
channels-few (u ∷ us) h = omega (arith, (All-head IsSubsystemInRange u us h).vote.few, channels-few us (All-tail IsSubsystemInRange u us h))

pub states-few : (l : LoopValue) → IsValid l → states_over (groups_of l.subsystems) ≤ channel_states ^ 48
unfolding groups_of
states-few l v =
    let some : 0 < channel_states = lit≤ tt in
    let most : channels_of l.subsystems ≤ 48 = omega (arith, channels-few l.subsystems v.subsystems, v.few.below) in
    omega (arith, states-from 0 l.subsystems, pow-le-pow_right some most)
