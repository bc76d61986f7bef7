-- When the groups of a subsystem are tested, one by one.
use Rattle.std.proofs.Common.{◌≡◌, ℕ, zero, suc, ◌+◌, ◌-◌, ◌<◌, ◌≤◌, List, [], ◌∷◌, ◌++◌, length, get_or, drop, refl, sym, ap, ◌∙◌, arith, add-one}
use Rattle.std.specs.Prelude.{Bool, true, false, cond, Some, ◌==◌}
use Rattle.std.proofs.Math.Seq.{drop-cons}
use Rattle.sil_model.specs.declared.parts.Subsystem.{Subsystem}
use Rattle.sil_model.specs.declared.parts.TestPlan.{TestPlan}
use Rattle.sil_model.specs.LoopValue.{groups_by_test, single_groups}
use Rattle.sil_model.specs.Calendar.{first_test}
use Rattle.sil_model.proofs.Groups.{length-single}
use Rattle.test_calendar.specs.Repeats.{Repeats}
use Rattle.test_calendar.specs.Plans.{repeats_by_test, repeats_from}

-- those of n groups of one plan, from the group g on, which begins with the channel c
abbrev pub repeats_along : TestPlan → ℕ → ℕ → ℕ → List Repeats
repeats_along p g c zero = []
repeats_along p g c (suc n) = record { group = g; first = first_test p c; every = p.every; full_each = p.full_each } ∷ repeats_along p (suc g) (suc c) n

singles : (p : TestPlan) (g i c n : ℕ) → repeats_by_test (Some p) g (single_groups i c n) ≡ repeats_along p g c n
singles p g i c zero = refl
singles p g i c (suc n) = ap (λ rs. record { group = g; first = first_test p c; every = p.every; full_each = p.full_each } ∷ rs) (singles p (suc g) i (suc c) n)

pub repeats-along : (p : TestPlan) (g i n : ℕ) → repeats_by_test (Some p) g (groups_by_test i n (Some p)) ≡ repeats_along p g 0 (length (groups_by_test i n (Some p)))
repeats-along p g i n = go (p.stagger == 0)
  where
    go : (b : Bool) → repeats_by_test (Some p) g (cond b (record { subsystem = i; first_channel = 0; size = n } ∷ []) (single_groups i 0 n))
        ≡ repeats_along p g 0 (length (cond b (record { subsystem = i; first_channel = 0; size = n } ∷ []) (single_groups i 0 n)))
    go true = refl
    go false = singles p g i 0 n ∙ ap (repeats_along p g 0) (sym (length-single i 0 n))

-- one more of them is found
pub along-next : (p : TestPlan) (g c n : ℕ) → c < n → repeats_along p (g + c) c (n - c) ≡ record { group = g + c; first = first_test p c; every = p.every; full_each = p.full_each } ∷ repeats_along p (g + (c + 1)) (c + 1) (n - (c + 1))
along-next p g c n h =
    let e : n - c ≡ suc (n - (c + 1)) = omega arith in
    let a : suc (g + c) ≡ g + (c + 1) = omega arith in
    let b : suc c ≡ c + 1 = omega arith in
    rw e (rw (a, b) refl)

pub along-end : (p : TestPlan) (g c n : ℕ) → n ≤ c → repeats_along p (g + c) c (n - c) ≡ []
along-end p g c n h = let e : n - c ≡ 0 = omega arith in rw e refl

-- the subsystem i is next
pub repeats-next : (us : List Subsystem) (i g : ℕ) (u : Subsystem) → i < length us → u ≡ get_or us i u
    → repeats_from i g (drop i us) ≡ repeats_by_test u.test g (groups_by_test i u.vote.n u.test) ++ repeats_from (i + 1) (g + length (groups_by_test i u.vote.n u.test)) (drop (i + 1) us)
repeats-next us i g u inside here = rw (add-one) (ap (repeats_from i g) (drop-cons us i u inside ∙ ap (λ x. x ∷ drop (suc i) us) (sym here)))
