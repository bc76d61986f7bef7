-- What a vector gives to the columns is what its rows give.
use Rattle.std.proofs.Common.{◌≡◌, ℕ, zero, suc, ◌+◌, ◌-◌, ◌*◌, ◌^◌, ◌<◌, ◌≤◌, inl, inr, List, [], ◌∷◌, ◌++◌, length, get_or, refl, sym, ap, ◌∙◌, arith}
use Rattle.std.specs.Prelude.{Bool, true, false, All, map, nat_lt, sum_by, if◌then◌else◌, ◌==◌}
use Rattle.std.proofs.Math.Nat.{mul-le-mul}
use Rattle.std.specs.List.Sorted.{IsPermutation}
use Rattle.std.proofs.lemmas.Bool.{cases_lt, ltb-false, eq-eqb, ne_eqb}
use Rattle.std.proofs.lemmas.List.Elements.{All-head, All-tail}
use Rattle.std.proofs.lemmas.List.Sums.{sum_by-cons, sum_by-append}
use Rattle.std.proofs.lemmas.List.Sorted.{sum_by-IsPermutation}
use mathlib.Core.Path.{fun_ext}
use Rattle.sil_fraction.specs.Fraction.{Fraction, ◌+ℚ◌, ◌*ℚ◌, whole}
use Rattle.sil_fraction.specs.Sum.{total, total_below}
use Rattle.sil_fraction.proofs.Laws.{whole-add, whole-mul, mul_comm, mul_assoc, mul-add, zero-mul}
use Rattle.sil_fraction.proofs.Sums.{add-mul, total-append, total-map, mul-total, below-add, below-same}
use Rattle.sil_model.specs.declared.parts.Subsystem.{Subsystem}
use Rattle.product_chain.specs.declared.moves.Move.{Move}
use Rattle.product_chain.specs.declared.moves.TickRate.{TickRate}
use Rattle.product_chain.specs.declared.column.Entry.{Entry}
use Rattle.product_chain.specs.declared.step.Step.{Step}
use Rattle.product_chain.specs.Steps.{scale, steps_from, steps_below}
use Rattle.product_chain.specs.Columns.{rate_of, step_of_move, stay_of, timed, kept, entries_of, part, AreParts, given}
use Rattle.product_chain.proofs.Row.{step_down, step_up, sum_of, stays, row_of}
use Rattle.product_chain.proofs.Sums.{total-permutation, all-parts, whole-sum_by}

module _ (v : ℕ → ℕ) where
  given-kept : (s w : ℕ) → given v (kept s w) ≡ w * v s
  given-kept s w = go (nat_lt 0 w) refl
    where
      go : (b : Bool) → nat_lt 0 w ≡ b → given v (if b then record { source = s; weight = w } ∷ [] else []) ≡ w * v s
      go true e = refl_add
        where
          refl_add : given v (record { source = s; weight = w } ∷ []) ≡ w * v s
          refl_add = omega arith
      go false e = let none : w ≡ 0 = omega (arith, ltb-false 0 w e) in rw none (omega arith)

  given-entries : (rates : List TickRate) (ms : List Move) → given v (entries_of rates ms) ≡ sum_by (λ (m : Move). (rate_of rates m).down * v m.source) ms
  given-entries rates [] = refl
  given-entries rates (m ∷ ms) =
      sum_by-append (λ (e : Entry). e.weight * v e.source) (kept m.source (rate_of rates m).down) (entries_of rates ms)
      ∙ cc (given-kept m.source (rate_of rates m).down, given-entries rates ms, sum_by-cons (λ (m : Move). (rate_of rates m).down * v m.source) m ms)

-- moves to one target
one-target : (h : Move → Fraction) (f : ℕ → Fraction) (j : ℕ) (ms : List Move) → All (λ m. m.target ≡ j) ms → total h ms *ℚ f j
    ≡ total (λ m. h m *ℚ f m.target) ms
one-target h f j [] all = zero-mul (f j)
one-target h f j (m ∷ ms) all =
    add-mul (h m) (total h ms) (f j)
    ∙ cc (one-target h f j ms (All-tail (λ (m : Move). m.target ≡ j) m ms all), ap (λ k. h m *ℚ f k) (All-head (λ (m : Move). m.target ≡ j) m ms all))

-- the steps of one source after those of another
from-source : (us : List Subsystem) → ((i : ℕ) → All (λ s. s.source ≡ i) (steps_from us i)) → (H : ℕ → Step → Fraction) (n : ℕ)
    → total (λ s. H s.source s) (steps_below us n) ≡ total_below n (λ i. total (H i) (steps_from us i))
unfolding steps_below
from-source us own H zero = refl
from-source us own H (suc n) =
    total-append (λ (s : Step). H s.source s) (steps_below us n) (steps_from us n)
    ∙ cc (from-source us own H n, same (steps_from us n) (own n))
  where
    same : (ss : List Step) → All (λ s. s.source ≡ n) ss → total (λ s. H s.source s) ss ≡ total (H n) ss
    same [] all = refl
    same (s ∷ ss) all = cc (same ss (All-tail (λ (s : Step). s.source ≡ n) s ss all), ap (λ i. H i s) (All-head (λ (s : Step). s.source ≡ n) s ss all))

-- the same of whole numbers, for the steps of one source
module _ (F : Step → ℕ) (i : ℕ) where
  abbrev G : Step → ℕ
  G s = if s.source == i then F s else 0

  other-steps : (k : ℕ) (ss : List Step) → All (λ s. s.source ≡ k) ss → (k ≡ i → ⊥) → sum_by G ss ≡ 0
  other-steps k [] all ne = refl
  other-steps k (s ∷ ss) all ne =
      let here : s.source ≡ k = All-head (λ (s : Step). s.source ≡ k) s ss all in
      let none : G s ≡ 0 = rw (ne_eqb s.source i (λ e. ne (sym here ∙ e))) refl in
      omega (arith, sum_by-cons G s ss, none, other-steps k ss (All-tail (λ (s : Step). s.source ≡ k) s ss all) ne)

  own-steps : (k : ℕ) (ss : List Step) → All (λ s. s.source ≡ k) ss → k ≡ i → sum_by G ss ≡ sum_by F ss
  own-steps k [] all e = refl
  own-steps k (s ∷ ss) all e =
      let here : s.source ≡ i = All-head (λ (s : Step). s.source ≡ k) s ss all ∙ e in
      let mine : G s ≡ F s = rw (eq-eqb s.source i here) refl in
      omega (arith, sum_by-cons G s ss, sum_by-cons F s ss, mine, own-steps k ss (All-tail (λ (s : Step). s.source ≡ k) s ss all) e)

  module _ (us : List Subsystem) (own : (k : ℕ) → All (λ s. s.source ≡ k) (steps_from us k)) where
    earlier-steps : (m : ℕ) → m ≤ i → sum_by G (steps_below us m) ≡ 0
    unfolding steps_below
    earlier-steps zero h = refl
    earlier-steps (suc m) h = omega (
      arith,
      sum_by-append G (steps_below us m) (steps_from us m),
      earlier-steps m (omega arith),
      other-steps m
          (steps_from us m) (own m) (λ e. absurd (omega arith)),
    )

    pub own-sum : (n : ℕ) → i < n → sum_by G (steps_below us n) ≡ sum_by F (steps_from us i)
    unfolding steps_below
    own-sum zero h = absurd (omega arith)
    own-sum (suc n) h = elim (cases_lt i n) [
      | inl p ↦ omega (
        arith,
        sum_by-append G (steps_below us n) (steps_from us n),
        own-sum n p,
        other-steps n (steps_from us n) (own n)
            (λ e. absurd (omega arith)),
      )
      | inr p ↦
          let e : n ≡ i = omega arith in
          omega (
            arith,
            sum_by-append G (steps_below us n) (steps_from us n),
            earlier-steps n (omega arith),
            own-steps n (steps_from us n) (own n) e,
            ap (λ k. sum_by F (steps_from us k)) e,
          )
    ]

sum_of-is : (F : Step → ℕ) (ss : List Step) → sum_of 0 0 F ss ≡ sum_by F ss
sum_of-is F [] = refl
sum_of-is F (s ∷ ss) = omega (arith, sum_of-is F ss, sum_by-cons F s ss)

-- the moves of a loop: what they give, and what they leave
module _ (us : List Subsystem) (n hours beats : ℕ) (rates : List TickRate) (moves : List Move) (own : (k : ℕ)
    → All (λ s. s.source ≡ k) (steps_from us k)) (order : IsPermutation (steps_below us n) (map (step_of_move rates) moves))
    (chances : (m : Move) → (rate_of rates m ≡ timed hours beats (rate_of rates m))) where
  down-is : (m : Move) → (rate_of rates m).down ≡ step_down hours beats (step_of_move rates m)
  down-is m = ap (λ (r : TickRate). r.down) (chances m)

  up-is : (m : Move) → (rate_of rates m).up ≡ step_up hours beats (step_of_move rates m)
  up-is m = ap (λ (r : TickRate). r.up) (chances m)

  pub sum_by-map : (F : Step → ℕ) (ms : List Move) → sum_by F (map (step_of_move rates) ms) ≡ sum_by (λ m. F (step_of_move rates m)) ms
  sum_by-map F [] = refl
  sum_by-map F (m ∷ ms) =
      omega (
        arith,
        sum_by-cons F (step_of_move rates m) (map (step_of_move rates) ms),
        sum_by-cons (λ (m : Move). F (step_of_move rates m)) m ms,
        sum_by-map F ms,
      )

  -- what stays at a source
  pub stay-is : (i : ℕ) → i < n → stay_of rates moves i ≡ stays hours beats (steps_from us i)
  stay-is i h =
      let H : Step → ℕ = λ s. if s.source == i then step_up hours beats s else 0 in
      let e : sum_by (λ (m : Move). if m.source == i then (rate_of rates m).up else 0) moves ≡ sum_by (λ (m : Move). H (step_of_move rates m)) moves =
      ap (λ (F : Move → ℕ). sum_by F moves) (fun_ext (λ m. ap (λ k. if m.source == i then k else 0) (up-is m))) in
      let d : sum_by (λ (m : Move). if m.source == i then (rate_of rates m).up else 0) moves ≡ sum_of hours beats (step_up hours beats) (steps_from us i) =
      e ∙ sym (sum_by-map H moves) ∙ sum_by-IsPermutation H (steps_below us n) (map (step_of_move rates) moves) order
      ∙ own-sum (step_up hours beats) i us own n h ∙ sym (sum_of-is (step_up hours beats) (steps_from us i)) in
      ap (λ k. scale - k) d

  module _ (v : ℕ → ℕ) (f : ℕ → Fraction) where
    abbrev gives : Step → Fraction
    gives s = whole (step_down hours beats s * v s.source) *ℚ f s.target

    -- what all moves give
    pub moves-give : total (λ (m : Move). whole ((rate_of rates m).down * v m.source) *ℚ f m.target) moves
        ≡ total_below n (λ i. whole (v i) *ℚ total (λ (s : Step). whole (step_down hours beats s) *ℚ f s.target) (steps_from us i))
    moves-give =
        ap (λ (F : Move → Fraction). total F moves) (fun_ext (λ m. ap (λ k. whole (k * v m.source) *ℚ f m.target) (down-is m)))
        ∙ sym (total-map gives (step_of_move rates) moves)
        ∙ total-permutation gives (steps_below us n) (map (step_of_move rates) moves) order
        ∙ from-source us own (λ i s. whole (step_down hours beats s * v i) *ℚ f s.target) n
        ∙ below-same n _ _ (λ i h. each i (steps_from us i))
      where
        one : (i : ℕ) (s : Step) → whole (step_down hours beats s * v i) *ℚ f s.target ≡ whole (v i) *ℚ (whole (step_down hours beats s) *ℚ f s.target)
        one i s = ap (λ x. x *ℚ f s.target) (whole-mul (step_down hours beats s) (v i) ∙ mul_comm _ _) ∙ mul_assoc _ _ _

        each : (i : ℕ) (ss : List Step) → total (λ (s : Step). whole (step_down hours beats s * v i) *ℚ f s.target) ss
            ≡ whole (v i) *ℚ total (λ (s : Step). whole (step_down hours beats s) *ℚ f s.target) ss
        each i ss = ap (λ (F : Step → Fraction). total F ss) (fun_ext (one i))
            ∙ sym (mul-total (whole (v i)) (λ (s : Step). whole (step_down hours beats s) *ℚ f s.target) ss)

    module _ (move_starts stays' starts : List ℕ) (entries : List Entry) (parts : AreParts n move_starts moves) (targets : (j : ℕ) → j < n
        → All (λ m. m.target ≡ j) (part move_starts moves j))
        (stay : (i : ℕ) → i < n → get_or stays' i 0 ≡ stay_of rates moves i) (columns : (j : ℕ) → j < n → part starts entries j
        ≡ entries_of rates (part move_starts moves j) ++ kept j (get_or stays' j 0)) where
      abbrev h : Move → Fraction
      h m = whole ((rate_of rates m).down * v m.source)

      column-gives : (j : ℕ) → j < n → whole (given v (part starts entries j)) *ℚ f j
          ≡ total (λ (m : Move). h m *ℚ f m.target) (part move_starts moves j) +ℚ whole (v j) *ℚ (whole (stays hours beats (steps_from us j)) *ℚ f j)
      column-gives j p =
          let ms : List Move = part move_starts moves j in
          let w : ℕ = stays hours beats (steps_from us j) in
          let same : get_or stays' j 0 ≡ w = stay j p ∙ stay-is j p in
          let sum : given v (part starts entries j) ≡ sum_by (λ (m : Move). (rate_of rates m).down * v m.source) ms + w * v j =
          ap (given v) (columns j p) ∙ sum_by-append (λ (e : Entry). e.weight * v e.source) (entries_of rates ms) (kept j (get_or stays' j 0))
          ∙ cc (given-entries v rates ms, given-kept v j (get_or stays' j 0), same) in
          ap (λ k. whole k *ℚ f j) sum
          ∙ ap (λ x. x *ℚ f j) (whole-add _ _)
          ∙ add-mul _ _ (f j)
          ∙ cc (
            ap (λ x. x *ℚ f j) (whole-sum_by (λ (m : Move). (rate_of rates m).down * v m.source) ms) ∙ one-target h f j ms (targets j p),
            ap (λ x. x *ℚ f j) (whole-mul w (v j) ∙ mul_comm _ _) ∙ mul_assoc (whole (v j)) (whole w) (f j),
          )

      -- the columns together give what the rows give
      pub all-given : total_below n (λ j. whole (given v (part starts entries j)) *ℚ f j)
          ≡ total_below n (λ i. whole (v i) *ℚ row_of hours beats (steps_from us i) i f)
      all-given =
          below-same n _ _ column-gives
          ∙ below-add n (λ j. total (λ (m : Move). h m *ℚ f m.target) (part move_starts moves j))
          (λ j. whole (v j) *ℚ (whole (stays hours beats (steps_from us j)) *ℚ f j))
          ∙ ap (λ x. x +ℚ total_below n (λ j. whole (v j) *ℚ (whole (stays hours beats (steps_from us j)) *ℚ f j)))
          (all-parts (λ (m : Move). h m *ℚ f m.target) n move_starts moves parts ∙ moves-give)
          ∙ sym (below-same n _ _ (λ i p. mul-add (whole (v i)) _ _)
          ∙ below-add n (λ i. whole (v i) *ℚ total (λ (s : Step). whole (step_down hours beats s) *ℚ f s.target) (steps_from us i))
          (λ j. whole (v j) *ℚ (whole (stays hours beats (steps_from us j)) *ℚ f j)))

-- a column is given little by numbers that are at most 1
pub given-small : (v : ℕ → ℕ) → ((i : ℕ) → v i ≤ 2 ^ 48) → (es : List Entry) → All (λ e. e.weight ≤ 2 ^ 48) es → given v es ≤ length es * 2 ^ 96
given-small v small [] all = omega arith
given-small v small (e ∷ es) all =
    let one : e.weight * v e.source ≤ 2 ^ 48 * 2 ^ 48 = mul-le-mul (All-head (λ (e : Entry). e.weight ≤ 2 ^ 48) e es all) (small e.source) in
    omega (
      arith,
      sum_by-cons (λ (e : Entry). e.weight * v e.source) e es,
      one,
      given-small v small es (All-tail (λ (e : Entry). e.weight ≤ 2 ^ 48) e es all),
    )
