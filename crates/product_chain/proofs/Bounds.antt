-- How great the weights of a chain are, and how many entries its columns have.
use Rattle.std.proofs.Common.{◌≡◌, ℕ, zero, suc, ◌+◌, ◌-◌, ◌*◌, ◌<◌, ◌≤◌, List, [], ◌∷◌, length, get_or, drop, refl, sym, ap, arith, length-append, add-one}
use Rattle.std.specs.Prelude.{Bool, true, false, All, map, nat_lt, sum_by, if◌then◌else◌, ◌==◌}
use Rattle.std.proofs.Math.Nat.{mul-le-mul_right, mul-pos, div-mul-le_self, le_of_mul-le-mul_right}
use Rattle.std.proofs.lemmas.Bool.{eq-eqb, ltb-true}
use Rattle.std.proofs.lemmas.List.Elements.{All-append, All-cons, All-nil, All-head, All-tail}
use Rattle.std.proofs.lemmas.List.Sums.{sum_by-cons, sum_by-take-le, sum_by-take-drop}
use Rattle.std.proofs.lemmas.List.Sorted.{sum_by-IsPermutation, length_permutation}
use Rattle.std.proofs.lemmas.List.{length-map}
use Rattle.sil_model.specs.LoopValue.{LoopValue}
use Rattle.sil_model.specs.Sizes.{states_of, most_states}
use Rattle.sil_model.specs.declared.parts.Subsystem.{Subsystem}
use Rattle.common_cause.specs.LumpEvents.{lump_events_of}
use Rattle.product_chain.specs.declared.moves.Move.{Move}
use Rattle.product_chain.specs.declared.moves.TickRate.{TickRate}
use Rattle.product_chain.specs.declared.column.Entry.{Entry}
use Rattle.product_chain.specs.Steps.{scale, steps_below, down_of}
use Rattle.product_chain.specs.Columns.{no_rate, rate_of, step_of_move, kept, entries_of, part, AreWeighted}
use Rattle.product_chain.specs.Kept.{IsChain}
use Rattle.product_chain.proofs.Parts.{length-slice, parts-within, All-slice}
use Rattle.product_chain.proofs.Chains.{sources-inside, beats-some}
use Rattle.product_chain.proofs.Flow.{below-length}
use Rattle.product_chain.proofs.Distinct.{reaches, one_if, below-reached}

-- entries that are kept
module _ (P : Entry → Type 0) where
  kept-all : (s w : ℕ) → P (record { source = s; weight = w }) → All P (kept s w)
  kept-all s w p = go (nat_lt 0 w)
    where
      go : (b : Bool) → All P (if b then record { source = s; weight = w } ∷ [] else [])
      go true = All-cons P (record { source = s; weight = w }) [] p (All-nil P)
      go false = All-nil P

  entries-all : (rates : List TickRate) (ms : List Move) → All (λ m. P (record { source = m.source; weight = (rate_of rates m).down })) ms
      → All P (entries_of rates ms)
  entries-all rates [] all = All-nil P
  entries-all rates (m ∷ ms) all =
      All-append P (kept m.source (rate_of rates m).down) (entries_of rates ms)
      (kept-all m.source (rate_of rates m).down (All-head (λ (m : Move). P (record { source = m.source; weight = (rate_of rates m).down })) m ms all))
      (entries-all rates ms (All-tail (λ (m : Move). P (record { source = m.source; weight = (rate_of rates m).down })) m ms all))

kept-positive : (s w : ℕ) → All (λ e. 0 < e.weight) (kept s w)
kept-positive s w = go (nat_lt 0 w) refl
  where
    go : (b : Bool) → nat_lt 0 w ≡ b → All (λ (e : Entry). 0 < e.weight) (if b then record { source = s; weight = w } ∷ [] else [])
    go true h = All-cons (λ (e : Entry). 0 < e.weight) (record { source = s; weight = w }) [] (ltb-true 0 w h) (All-nil (λ (e : Entry). 0 < e.weight))
    go false h = All-nil (λ (e : Entry). 0 < e.weight)

entries-positive : (rates : List TickRate) (ms : List Move) → All (λ e. 0 < e.weight) (entries_of rates ms)
entries-positive rates [] = All-nil (λ (e : Entry). 0 < e.weight)
entries-positive rates (m ∷ ms) =
    All-append (λ (e : Entry). 0 < e.weight) (kept m.source (rate_of rates m).down) (entries_of rates ms) (kept-positive m.source (rate_of rates m).down)
    (entries-positive rates ms)

length-kept : (s w : ℕ) → length (kept s w) ≤ 1
length-kept s w = go (nat_lt 0 w)
  where
    go : (b : Bool) → length {A = Entry} (if b then record { source = s; weight = w } ∷ [] else []) ≤ 1
    go true = omega arith
    go false = omega arith

length-entries : (rates : List TickRate) (ms : List Move) → length (entries_of rates ms) ≤ length ms
length-entries rates [] = omega arith
length-entries rates (m ∷ ms) = omega (
  arith,
  length-append (kept m.source (rate_of rates m).down) (entries_of rates ms),
  length-kept m.source
      (rate_of rates m).down,
  length-entries rates ms,
)

-- what the columns of a chain hold
module _ (l : LoopValue) (hours beats : ℕ) (rates : List TickRate) (moves : List Move) (move_starts stays starts : List ℕ) (entries : List Entry)
    (capacity : ℕ) (c : IsChain l hours beats rates moves move_starts stays starts entries capacity) where
  abbrev us : List Subsystem
  us = l.subsystems

  abbrev n : ℕ
  n = states_of us

  sources : All (λ m. m.source < n) moves
  sources = sources-inside us c.valid.subsystems rates moves c.known_moves.steps

  moves-within : (j : ℕ) → j < n → get_or move_starts (j + 1) 0 ≤ length moves
  moves-within j h = parts-within n move_starts moves c.known_moves.parts (j + 1) (omega arith)

  down-small : (m : Move) → m.rate < length rates → (rate_of rates m).down ≤ scale
  down-small m h =
      let slow = c.known_moves.slow m.rate no_rate h in
      let r : TickRate = rate_of rates m in
      let is : r.down ≡ down_of hours beats r.num r.den = ap (λ (x : TickRate). x.down) (c.columns.chances m.rate no_rate h) in
      let some : 0 < beats = omega (arith, beats-some us hours beats c.timed) in
      let den : 0 < beats * r.den = mul-pos some slow.some in
      let most : hours * r.num * scale ≤ beats * r.den * scale = mul-le-mul_right scale (slow.slow hours beats c.timed.enough) in
      rw is (le_of_mul-le-mul_right {k = beats * r.den} (omega (arith, div-mul-le_self (hours * r.num * scale) (beats * r.den), most)) den)

  column-sources : (j : ℕ) → j < n → All (λ e. e.source < n) (part starts entries j)
  column-sources j h =
      rw (c.columns.columns j h)
      (All-append (λ (e : Entry). e.source < n) (entries_of rates (part move_starts moves j)) (kept j (get_or stays j 0))
      (entries-all (λ (e : Entry). e.source < n) rates (part move_starts moves j) (All-slice (λ (m : Move). m.source < n) moves
      (get_or move_starts j 0) (get_or move_starts (j + 1) 0) (c.known_moves.parts.rising j h) (moves-within j h) sources))
      (kept-all (λ (e : Entry). e.source < n) j (get_or stays j 0) h))

  column-weights : (j : ℕ) → j < n → All (λ e. e.weight ≤ scale) (part starts entries j)
  column-weights j h =
      let stay : get_or stays j 0 ≤ scale = omega (arith, c.columns.stay j h) in
      rw (c.columns.columns j h)
      (All-append (λ (e : Entry). e.weight ≤ scale) (entries_of rates (part move_starts moves j)) (kept j (get_or stays j 0))
      (entries-all (λ (e : Entry). e.weight ≤ scale) rates (part move_starts moves j)
      (All-slice (λ (m : Move). (rate_of rates m).down ≤ scale) moves (get_or move_starts j 0) (get_or move_starts (j + 1) 0)
      (c.known_moves.parts.rising j h) (moves-within j h) (λ k d p. down-small (get_or moves k d) (c.known_moves.known k d p))))
      (kept-all (λ (e : Entry). e.weight ≤ scale) j (get_or stays j 0) stay))

  pub column-positive : (j : ℕ) → j < n → All (λ e. 0 < e.weight) (part starts entries j)
  column-positive j h =
      rw (c.columns.columns j h)
      (All-append (λ (e : Entry). 0 < e.weight) (entries_of rates (part move_starts moves j)) (kept j (get_or stays j 0))
      (entries-positive rates (part move_starts moves j)) (kept-positive j (get_or stays j 0)))

  -- how many entries there are
  column-length : (j : ℕ) → j < n → length (part starts entries j) ≤ length (part move_starts moves j) + 1
  column-length j h = omega (
    arith,
    ap length (c.columns.columns j h),
    length-append (entries_of rates (part move_starts moves j))
        (kept j (get_or stays j 0)),
    length-entries rates (part move_starts moves j),
    length-kept j (get_or stays j 0),
  )

  starts-le : (j : ℕ) → j ≤ n → get_or starts j 0 ≤ get_or move_starts j 0 + j
  starts-le zero h = omega (arith, c.columns.parts.first)
  starts-le (suc j) h =
      let e : j + 1 ≡ suc j = add-one j in
      let p : j < n = omega arith in
      let mine = length-slice entries (get_or starts j 0) (get_or starts (j + 1) 0) (c.columns.parts.rising j p)
      (parts-within n starts entries c.columns.parts (j + 1) (omega arith)) in
      let other = length-slice moves (get_or move_starts j 0) (get_or move_starts (j + 1) 0) (c.known_moves.parts.rising j p) (moves-within j p) in
      rw (← e) (omega (arith, mine, other, column-length j p, starts-le j (omega arith), c.columns.parts.rising j p, c.known_moves.parts.rising j p))

  pub entries-few : length entries ≤ n * (length (lump_events_of us) + 1)
  entries-few =
      omega (
        arith,
        starts-le n (omega arith),
        c.columns.parts.last,
        c.known_moves.parts.last,
        length_permutation (steps_below us n) (map (step_of_move rates) moves) c.known_moves.steps,
        length-map moves (step_of_move rates),
        below-length us c.valid.subsystems n,
      )

  -- how many moves lead to one count vector
  abbrev arrives : ℕ → Move → ℕ
  arrives j m = one_if (m.target == j)

  all-arrive : (j : ℕ) (ms : List Move) → All (λ m. m.target ≡ j) ms → sum_by (arrives j) ms ≡ length ms
  all-arrive j [] all = refl
  all-arrive j (m ∷ ms) all =
      let here : arrives j m ≡ 1 = ap one_if (eq-eqb m.target j (All-head (λ (m : Move). m.target ≡ j) m ms all)) in
      omega (arith, sum_by-cons (arrives j) m ms, here, all-arrive j ms (All-tail (λ (m : Move). m.target ≡ j) m ms all))

  sum-map : (j : ℕ) (ms : List Move) → sum_by (reaches j) (map (step_of_move rates) ms) ≡ sum_by (arrives j) ms
  sum-map j [] = refl
  sum-map j (m ∷ ms) = omega (arith, sum_by-cons (reaches j) (step_of_move rates m) (map (step_of_move rates) ms), sum_by-cons (arrives j) m ms, sum-map j ms)

  -- at most one from each count vector, and what stays
  column-few : (j : ℕ) → j < n → length (part starts entries j) ≤ most_states + 1
  column-few j h =
      let a : ℕ = get_or move_starts j 0 in
      let b : ℕ = get_or move_starts (j + 1) 0 in
      let mine : length (part move_starts moves j) ≡ sum_by (arrives j) (part move_starts moves j) =
      sym (all-arrive j (part move_starts moves j) (c.known_moves.targets j h)) in
      let some : sum_by (arrives j) (part move_starts moves j) ≤ sum_by (arrives j) moves =
      omega (arith, sum_by-take-le (arrives j) (drop a moves) (b - a), sum_by-take-drop (arrives j) moves a) in
      let order : sum_by (reaches j) (map (step_of_move rates) moves) ≡ sum_by (reaches j) (steps_below us n) =
      sum_by-IsPermutation (reaches j) (steps_below us n) (map (step_of_move rates) moves) c.known_moves.steps in
      omega (arith, column-length j h, mine, some, order, sum-map j moves, below-reached us c.valid.subsystems j n, c.few)

  pub weighted : AreWeighted n n starts entries
  weighted = record { parts = c.columns.parts; few = column-few; sources = column-sources; weights = column-weights }
