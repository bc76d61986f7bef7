-- Turns of the loops that make moves and columns.
use Rattle.std.proofs.Common.{◌≡◌, ℕ, zero, suc, ◌+◌, ◌<◌, ◌≤◌, List, [], ◌∷◌, ◌++◌, length, get_or, set, take, drop, refl, sym, ap, ◌∙◌, arith, add-one, append_assoc, length-append}
use Rattle.std.specs.Prelude.{All, map}
use Rattle.std.proofs.lemmas.List.{take_more, get_or_append_left}
use Rattle.std.proofs.lemmas.List.Elements.{All-append, All-cons, All-nil, All-get_or, All-head, All-tail}
use Rattle.sil_model.specs.declared.parts.Subsystem.{Subsystem}
use Rattle.product_chain.specs.declared.moves.Move.{Move}
use Rattle.product_chain.specs.declared.moves.TickRate.{TickRate}
use Rattle.product_chain.specs.declared.column.Entry.{Entry}
use Rattle.product_chain.specs.declared.step.Step.{Step}
use Rattle.product_chain.proofs.Joins.{no_step}
use Rattle.product_chain.specs.Steps.{down_of, up_of, IsSlow}
use Rattle.product_chain.specs.Columns.{no_rate, rate_of, step_of_move, timed, kept, entries_of}

-- a list whose first i elements are mapped
module _ {A : Type 0} (f : A → A) where
  abbrev front : ℕ → List A → List A
  front i xs = map f (take i xs) ++ drop i xs

  get-front : (i : ℕ) (xs : List A) (d : A) → i < length xs → get_or (front i xs) i d ≡ get_or xs i d
  get-front i [] d h = absurd (omega arith)
  get-front zero (x ∷ xs) d h = refl
  get-front (suc i) (x ∷ xs) d h = get-front i xs d (omega arith)

  set-front : (i : ℕ) (xs : List A) (d : A) → i < length xs → set (front i xs) i (f (get_or xs i d)) ≡ front (suc i) xs
  set-front i [] d h = absurd (omega arith)
  set-front zero (x ∷ xs) d h = refl
  set-front (suc i) (x ∷ xs) d h = ap (λ ys. f x ∷ ys) (set-front i xs d (omega arith))

pub rate-here : (h b : ℕ) (xs ys : List TickRate) (i : ℕ) → ys ≡ map (timed h b) (take i xs) ++ drop i xs → i < length xs → get_or ys i no_rate
    ≡ get_or xs i no_rate
rate-here h b xs ys i e p = rw e (get-front (timed h b) i xs no_rate p)

pub rate-turn : (h b : ℕ) (xs ys : List TickRate) (i : ℕ) (down up : ℕ) → ys ≡ map (timed h b) (take i xs) ++ drop i xs → i < length xs
    → down ≡ down_of h b (get_or ys i no_rate).num (get_or ys i no_rate).den → up ≡ up_of h b (get_or ys i no_rate).num (get_or ys i no_rate).den
    → set ys i (record { num = (get_or ys i no_rate).num; den = (get_or ys i no_rate).den; down = down; up = up })
    ≡ map (timed h b) (take (i + 1) xs) ++ drop (i + 1) xs
rate-turn h b xs ys i down up e p d u = rw (d, u, rate-here h b xs ys i e p, e, add-one i) (set-front (timed h b) i xs no_rate p)

-- the entries of moves
pub entries-append : (rates : List TickRate) (ms ns : List Move) → entries_of rates (ms ++ ns) ≡ entries_of rates ms ++ entries_of rates ns
entries-append rates [] ns = refl
entries-append rates (m ∷ ms) ns =
    rw (entries-append rates ms ns) (sym (append_assoc (kept m.source (rate_of rates m).down) (entries_of rates ms) (entries_of rates ns)))

append-none : {A : Type 0} (xs : List A) → xs ++ [] ≡ xs
append-none [] = refl
append-none (x ∷ xs) = ap (λ ys. x ∷ ys) (append-none xs)

pub entries-turn : (rates : List TickRate) (ms : List Move) (i : ℕ) (d : Move) (old now new : List Entry) → i < length ms
    → now ≡ old ++ entries_of rates (take i ms)
    → new ≡ now ++ kept (get_or ms i d).source (rate_of rates (get_or ms i d)).down → new ≡ old ++ entries_of rates (take (i + 1) ms)
entries-turn rates ms i d old now new h e f =
    rw (
      f,
      e,
      take_more ms i d h,
      entries-append rates (take i ms) (get_or ms i d ∷ []),
      append-none
          (kept (get_or ms i d).source (rate_of rates (get_or ms i d)).down),
    ) (append_assoc old _ _)

-- moves keep their steps where rates are added
pub steps-more : (rates rs : List TickRate) (ms : List Move) → All (λ m. m.rate < length rates) ms → map (step_of_move (rates ++ rs)) ms
    ≡ map (step_of_move rates) ms
steps-more rates rs [] known = refl
steps-more rates rs (m ∷ ms) known =
    let here : m.rate < length rates = All-head (λ (m : Move). m.rate < length rates) m ms known in
    rw (get_or_append_left rates rs no_rate m.rate here, steps-more rates rs ms (All-tail (λ (m : Move). m.rate < length rates) m ms known)) refl

map-append : {A B : Type 0} (f : A → B) (xs ys : List A) → map f (xs ++ ys) ≡ map f xs ++ map f ys
map-append f [] ys = refl
map-append f (x ∷ xs) ys = ap (λ zs. f x ∷ zs) (map-append f xs ys)

module _ (rates rs new : List TickRate) (ms : List Move) (steps : List Step) (i n : ℕ) (s : Step) (added : new ≡ rates ++ rs)
    (known : All (λ m. m.rate < length rates) ms) (inside : i < length steps) (here : s ≡ get_or steps i s) where
  pub moves-turn : (before : List Step) → map (step_of_move rates) ms ≡ before ++ take i steps
      → (get_or new n no_rate).num ≡ s.num → (get_or new n no_rate).den ≡ s.den
      → map (step_of_move new) (ms ++ record { source = s.source; target = s.target; rate = n } ∷ []) ≡ before ++ take (i + 1) steps
  moves-turn before e num den =
      let last : step_of_move new (record { source = s.source; target = s.target; rate = n }) ≡ s = rw (num, den) refl in
      map-append (step_of_move new) ms (record { source = s.source; target = s.target; rate = n } ∷ [])
      ∙ cc (last, rw (← added) at (steps-more rates rs ms known), e, take_more steps i s inside, here, append_assoc before (take i steps) (s ∷ []))

  pub known-turn : n < length new → All (λ m. m.rate < length new) (ms ++ record { source = s.source; target = s.target; rate = n } ∷ [])
  known-turn h =
      let more : length rates ≤ length new = omega (arith, ap length added, length-append rates rs) in
      All-append (λ (m : Move). m.rate < length new) ms (record { source = s.source; target = s.target; rate = n } ∷ [])
      (λ k d p. omega (arith, known k d p, more))
      (All-cons (λ (m : Move). m.rate < length new) (record { source = s.source; target = s.target; rate = n }) [] h
      (All-nil (λ (m : Move). m.rate < length new)))

  pub slow-turn : (us : List Subsystem) → All (λ r. (r.num ≡ s.num) × (r.den ≡ s.den)) rs → All (λ s. IsSlow us s.num s.den) steps
      → All (λ r. IsSlow us r.num r.den) rates → All (λ r. IsSlow us r.num r.den) new
  slow-turn us same slow old =
      let mine : IsSlow us s.num s.den = rw (← here) at (All-get_or (λ (s : Step). IsSlow us s.num s.den) steps i s inside slow) in
      rw added (All-append (λ (r : TickRate). IsSlow us r.num r.den) rates rs old (λ k d p. let e = same k d p in rw (e.0, e.1) mine))

pub read-step : (steps : List Step) (i : ℕ) → i < length steps → get_or steps i no_step ≡ get_or steps i (get_or steps i no_step)
read-step [] i h = absurd (omega arith)
read-step (s ∷ ss) zero h = refl
read-step (s ∷ ss) (suc i) h = read-step ss i (omega arith)
