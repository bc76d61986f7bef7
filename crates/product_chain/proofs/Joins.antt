-- Which step a new one joins.
use Rattle.std.proofs.Common.{◌≡◌, ℕ, zero, suc, ◌+◌, ◌<◌, ◌≤◌, List, [], ◌∷◌, ◌++◌, length, get_or, set, refl, sym, ap, arith}
use Rattle.std.specs.Prelude.{Bool, true, false, ◌&&◌}
use Rattle.std.proofs.Math.Dec.{eqb}
use Rattle.std.proofs.lemmas.Bool.{eq-eqb, ne_eqb}
use Rattle.std.proofs.lemmas.List.{get_or_read}
use Rattle.product_chain.specs.declared.step.Step.{Step}
use Rattle.product_chain.specs.Steps.{joined, joined_at}

abbrev pub no_step : Step
no_step = record { source = 0; target = 0; num = 0; den = 0 }

abbrev pub joins : Step → Step → Bool
joins s t = eqb s.target t.target && eqb s.den t.den

-- no step before the number i joins
abbrev pub NoneBefore : List Step → ℕ → Step → Type 0
NoneBefore ss i t = (k : ℕ) → k < i → joins (get_or ss k no_step) t ≡ false

pub joins_true : (s t : Step) → s.target ≡ t.target → s.den ≡ t.den → joins s t ≡ true
joins_true s t e d = rw (eq-eqb s.target t.target e, eq-eqb s.den t.den d) refl

pub joins_target : (s t : Step) → (s.target ≡ t.target → ⊥) → joins s t ≡ false
joins_target s t e = rw (ne_eqb s.target t.target e) refl

pub joins_den : (s t : Step) → (s.den ≡ t.den → ⊥) → joins s t ≡ false
joins_den s t e = rw (ne_eqb s.den t.den e) (go (eqb s.target t.target))
  where
    go : (b : Bool) → (b && false) ≡ false
    go true = refl
    go false = refl

pub found : (ss : List Step) (i : ℕ) (t : Step) → NoneBefore ss i t → i < length ss → joins (get_or ss i no_step) t ≡ true → joined ss t ≡ joined_at ss i t
found [] i t n h e = absurd (omega arith)
found (s ∷ ss) zero t n h e = rw e refl
found (s ∷ ss) (suc i) t n h e = rw (n 0 (omega arith)) (ap (λ r. s ∷ r) (found ss i t (λ k p. n (suc k) (omega arith)) (omega arith) e))

pub not_found : (ss : List Step) (i : ℕ) (t : Step) → length ss ≤ i → NoneBefore ss i t → joined ss t ≡ joined_at ss (length ss) t
not_found [] i t h n = refl
not_found (s ∷ ss) zero t h n = absurd (omega arith)
not_found (s ∷ ss) (suc i) t h n = rw (n 0 (omega arith)) (ap (λ r. s ∷ r) (not_found ss i t (omega arith) (λ k p. n (suc k) (omega arith))))

pub at_end : (ss : List Step) (t : Step) → joined_at ss (length ss) t ≡ ss ++ (t ∷ [])
at_end [] t = refl
at_end (s ∷ ss) t = ap (λ r. s ∷ r) (at_end ss t)

pub at_set : (ss : List Step) (i : ℕ) (t : Step) → i < length ss → joined_at ss i t
    ≡ set ss i (record (get_or ss i no_step) { num = (get_or ss i no_step).num + t.num })
at_set [] i t h = absurd (omega arith)
at_set (s ∷ ss) zero t h = refl
at_set (s ∷ ss) (suc i) t h = ap (λ r. s ∷ r) (at_set ss i t (omega arith))

pub at_read : (ss : List Step) (i : ℕ) (x t : Step) → x ≡ get_or ss i x → i < length ss → joined ss t ≡ joined_at ss i t
    → set ss i (record { source = x.source; target = x.target; num = x.num + t.num; den = x.den }) ≡ joined ss t
at_read ss i x t e h j = let r : x ≡ get_or ss i no_step = get_or_read ss i x h e no_step in rw (j, at_set ss i t h, ← r) refl

pub at_push : (ss : List Step) (i : ℕ) (t : Step) → i ≡ length ss → joined ss t ≡ joined_at ss i t → ss ++ (t ∷ []) ≡ joined ss t
at_push ss i t e j = rw (j, e) (sym (at_end ss t))
