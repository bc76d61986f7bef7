-- Checks that pass and refusals, of lists of checks that are put together.
use Rattle.std.proofs.Common.{◌≡◌, ◌⊎◌, inl, inr, ◌+◌, ◌-◌, zero-add, ◌≤◌, ℕ, zero, suc, List, [], ◌∷◌, ◌++◌, Some, None, Result, Ok, Err, refl, ◌∙◌, sym, arith}
use Rattle.std.proofs.Math.Nat.{suc-add}
use Rattle.file_fault.specs.declared.FileFault.{FileFault}
use Rattle.loop_file.specs.declared.fault.Flaw.{Flaw}
use Rattle.loop_file.specs.Walk.{Check, first_fault, checks_below, Pass, IsMemory, IsRefusal, Walks}
use Rattle.loop_file.specs.Paths.{check_at}

first-append : (xs ys : List Check) → first_fault xs ≡ None → first_fault (xs ++ ys) ≡ first_fault ys
first-append [] ys h = refl
first-append (None ∷ xs) ys h = first-append xs ys h
first-append (Some f ∷ xs) ys h = cc

first-append_fault : (xs ys : List Check) (f : FileFault) → first_fault xs ≡ Some f → first_fault (xs ++ ys) ≡ Some f
first-append_fault [] ys f h = cc
first-append_fault (None ∷ xs) ys f h = first-append_fault xs ys f h
first-append_fault (Some g ∷ xs) ys f h = h

pub pass_append : (xs ys : List Check) → Pass xs → Pass ys → Pass (xs ++ ys)
pass_append xs ys p q = record { none = first-append xs ys p.none ∙ q.none }

pub refused_left : (xs ys : List Check) (e : FileFault) → IsRefusal xs e → IsRefusal (xs ++ ys) e
refused_left xs ys e r = record { cause = elim (r.cause) [ inl m ↦ inl m | inr h ↦ inr (first-append_fault xs ys e h) ] }

pub refused_right : (xs ys : List Check) (e : FileFault) → Pass xs → IsRefusal ys e → IsRefusal (xs ++ ys) e
refused_right xs ys e p r = record { cause = elim (r.cause) [ inl m ↦ inl m | inr h ↦ inr (first-append xs ys p.none ∙ h) ] }

-- a check that passes, before the others
pub pass_cons : (c : Check) (cs : List Check) → c ≡ None → Pass cs → Pass (c ∷ cs)
pass_cons c cs h p = record { none = rw h (p.none) }

pub refused_later : (c : Check) (cs : List Check) (e : FileFault) → c ≡ None → IsRefusal cs e → IsRefusal (c ∷ cs) e
refused_later c cs e h r = record { cause = elim (r.cause) [ inl m ↦ inl m | inr f ↦ inr (rw h f) ] }

pub refused_here : (c : Check) (cs : List Check) (e : FileFault) → IsMemory e ⊎ (c ≡ Some e) → IsRefusal (c ∷ cs) e
refused_here c cs e r = record { cause = elim r [ inl m ↦ inl m | inr f ↦ inr (rw f refl) ] }

pub pass_none : Pass []
pass_none = record { none = refl }

-- a reading that succeeds is a check that passes
pub read_passes : {A : Type 0} (path : List ℕ) (r : Result A Flaw) (x : A) → r ≡ Ok x → check_at path r ≡ None
read_passes path r x h = rw h refl

-- a refusal by the first entries is one by all of them
pub refused_below : (f : ℕ → List Check) (i more : ℕ) (e : FileFault) → IsRefusal (checks_below f i) e → IsRefusal (checks_below f (more + i)) e
refused_below f i zero e r = rw (zero-add i) r
refused_below f i (suc more) e r = rw (suc-add more i) (refused_left (checks_below f (more + i)) (f (more + i)) e (refused_below f i more e r))

pub refused_within : (f : ℕ → List Check) (i n : ℕ) (e : FileFault) → i ≤ n → IsRefusal (checks_below f i) e → IsRefusal (checks_below f n) e
refused_within f i n e h r =
    let sum : (n - i) + i ≡ n = omega arith in
    rw sum at (refused_below f i (n - i) e r)

-- what stands there was read as r, and passes
pub passed : {A : Type 0} (path : List ℕ) (r s : Result A Flaw) (x : A) → r ≡ s → r ≡ Ok x → check_at path s ≡ None
passed path r s x same ok = rw (sym same ∙ ok) refl

-- what stands there was read as r, and is refused
pub failed : {A : Type 0} (path : List ℕ) (r s : Result A Flaw) (e : FileFault) → r ≡ s → IsMemory e ⊎ (check_at path r ≡ Some e) → IsMemory e ⊎ (check_at path s ≡ Some e)
failed path r s e same h = rw (← same) h

-- a reader that goes on after checks that passed
pub walks_after : {A : Type 0} (xs ys : List Check) (v : A) (r : Result A FileFault) → Pass xs → Walks ys v r → Walks (xs ++ ys) v r
walks_after xs ys v (Ok x) p w = (pass_append xs ys p w.0, w.1)
walks_after xs ys v (Err e) p w = refused_right xs ys e p w
