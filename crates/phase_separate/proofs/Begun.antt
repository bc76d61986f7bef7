-- The subsystems of a loop, begun one after another.
use Rattle.std.proofs.Common.{◌≡◌, ℕ, suc, ◌+◌, ◌-◌, ◌*◌, ◌^◌, ◌<◌, ◌≤◌, List, [], ◌∷◌, ◌++◌, length, get_or, set, map, take, drop, sum_by}
use Rattle.std.proofs.Common.{refl, sym, ap, ◌∙◌, arith, append-nil, drop-cons}
use Rattle.std.proofs.Math.Nat.{mul-le-mul_left}
use Rattle.std.proofs.lemmas.List.{get_or-append_right, get_or-drop, get_or-map, length-map, length-take-le, map-append, take_all, take_more, drop_all}
use Rattle.std.proofs.lemmas.List.Edits.{map_over_more}
use Rattle.std.proofs.lemmas.List.Sums.{sum_by-cons, get_or-le-sum_by}
use Rattle.interval_fixed.proofs.Rounding.{ceiling-le-ceiling}
use Rattle.sil_model.specs.Calendar.{beats_of, beat_rate_of, ceiling}
use Rattle.sil_model.specs.LoopValue.{LoopValue}
use Rattle.sil_model.specs.declared.parts.Subsystem.{Subsystem}
use Rattle.product_chain.specs.Kept.{ChainValue, IsTimed}
use Rattle.subsystem_power.proofs.Valid.{some_of}
use Rattle.subsystem_power.specs.Powers.{PowerValue, alone_of, begin_products}
use Rattle.phase_separate.specs.Subsystems.{chain_alone, loops_of, powers_at}

rate_in : Subsystem → ℕ
rate_in u = u.vote.n * (u.figures.du + u.figures.dd + ceiling (10 ^ 12) u.figures.repair)

-- a subsystem alone needs no more beats than all
fewer_alone : (us : List Subsystem) (k : ℕ) (d : Subsystem) → k < length us → beat_rate_of (get_or us k d ∷ []) ≤ beat_rate_of us
unfolding beat_rate_of rate_in
fewer_alone us k d h = omega (arith, get_or-le-sum_by rate_in us k d h, sum_by-cons rate_in (get_or us k d) [])

fewer_beats : (us vs : List Subsystem) (t : ℕ) → beat_rate_of us ≤ beat_rate_of vs → beats_of us t ≤ beats_of vs t
unfolding beats_of
fewer_beats us vs t h =
    let more : ceiling (t * beat_rate_of us) (10 ^ 12) ≤ ceiling (t * beat_rate_of vs) (10 ^ 12) =
    ceiling-le-ceiling (t * beat_rate_of us) (t * beat_rate_of vs) (10 ^ 12) (omega arith) (mul-le-mul_left t h) in
    omega (arith, more)

pub alone_timed : (us : List Subsystem) (hours beats k : ℕ) (d : Subsystem) → k < length us → IsTimed us hours beats
    → IsTimed (get_or us k d ∷ []) hours beats
alone_timed us hours beats k d h timed = record {
  some = timed.some;
  short = timed.short;
  enough = omega (arith, fewer_beats (get_or us k d ∷ []) us hours (fewer_alone us k d h), timed.enough);
  few = timed.few;
}

sum_by-map : {X Y : Type 0} (g : Y → ℕ) (f : X → Y) (xs : List X) → sum_by g (map f xs) ≡ sum_by (λ x. g (f x)) xs
sum_by-map g f [] = refl
sum_by-map g f (x ∷ xs) =
    sum_by-cons g (f x) (map f xs) ∙ ap (λ s. g (f x) + s) (sum_by-map g f xs) ∙ sym (sum_by-cons (λ x. g (f x)) x xs)

map-map : {X Y Z : Type 0} (g : Y → Z) (f : X → Y) (xs : List X) → map g (map f xs) ≡ map (λ x. g (f x)) xs
map-map g f [] = refl
map-map g f (x ∷ xs) = ap (λ ys. g (f x) ∷ ys) (map-map g f xs)

-- the products to begin a loop
abbrev pub to_begin : LoopValue → ℕ
to_begin l = begin_products l.subsystems

module _ (hours beats : ℕ) where
  abbrev of_loop : LoopValue → PowerValue
  of_loop l = record { chain = record { of = l; hours = hours; beats = beats }; power = 1 }

  -- a subsystem whose phase is begun
  abbrev pub begun : PowerValue → PowerValue
  begun p = of_loop p.chain.of

  module _ (ps : List PowerValue) where
    -- the first i are begun
    pub record AreBegun (i : ℕ) (now : List PowerValue) (from steps : ℕ) : Type 0 where
      pub list : now ≡ map begun (take i ps) ++ drop i ps
      pub products : steps + sum_by (λ p. to_begin p.chain.of) (drop i ps) ≤ from + sum_by (λ p. to_begin p.chain.of) ps

    pub none_begun : (from : ℕ) → AreBegun 0 ps from from
    none_begun from = record { list = refl; products = omega arith }

    module _ (i : ℕ) (now : List PowerValue) (from steps : ℕ) (before : AreBegun i now from steps) where
      module _ (h : i < length ps) (p : PowerValue) (at : p ≡ get_or now i p) where
        same : get_or now i p ≡ get_or ps i p
        same =
            let none : i + 0 ≡ i = omega arith in
            let far : i - i ≡ 0 = omega arith in
            let long : length (map begun (take i ps)) ≡ i = length-map (take i ps) begun ∙ length-take-le i ps (omega arith) in
            ap (λ xs. get_or xs i p) before.list ∙ get_or-append_right (map begun (take i ps)) (drop i ps) i i p long (omega arith)
            ∙ ap (λ k. get_or (drop i ps) k p) far ∙ get_or-drop i ps 0 p ∙ ap (λ k. get_or ps k p) none

        -- it is timed for the phase, since it is a subsystem of the loop
        pub one_timed : (l : LoopValue) → loops_of ps ≡ map (alone_of l) l.subsystems → IsTimed l.subsystems hours beats
            → IsTimed p.chain.of.subsystems hours beats
        one_timed l all timed = timed_at l.subsystems refl
          where
            own : p.chain.of ≡ get_or (loops_of ps) i p.chain.of
            own = ap (λ (x : PowerValue). x.chain.of) (at ∙ same) ∙ sym (get_or-map (λ (x : PowerValue). x.chain.of) ps i p p.chain.of h)

            timed_at : (us : List Subsystem) → us ≡ l.subsystems → IsTimed p.chain.of.subsystems hours beats
            timed_at [] e =
                let none : length (loops_of ps) ≡ 0 = ap length all ∙ length-map l.subsystems (alone_of l) ∙ sym (ap length e) in
                absurd (omega (arith, h, none, length-map ps (λ (x : PowerValue). x.chain.of)))
            timed_at (u ∷ us) e =
                let long : i < length l.subsystems =
                omega (arith, h, ap length all, length-map l.subsystems (alone_of l), length-map ps (λ (x : PowerValue). x.chain.of)) in
                let is : p.chain.of ≡ alone_of l (get_or l.subsystems i u) =
                own ∙ ap (λ ls. get_or ls i p.chain.of) all ∙ get_or-map (alone_of l) l.subsystems i u p.chain.of long in
                rw is (alone_timed l.subsystems hours beats i u long timed)

        pub one_begun : (q : PowerValue) (later : ℕ) → q ≡ begun p → later ≤ steps + to_begin p.chain.of → AreBegun (i + 1) (set now i q) from later
        one_begun q later e few =
            let one_more : i + 1 ≡ suc i = omega arith in
            let left : drop i ps ≡ get_or ps i p ∷ drop (suc i) ps = drop-cons ps i p h in
            let sums : sum_by (λ p. to_begin p.chain.of) (drop i ps)
            ≡ to_begin (get_or ps i p).chain.of + sum_by (λ p. to_begin p.chain.of) (drop (suc i) ps) =
            ap (sum_by (λ p. to_begin p.chain.of)) left ∙ sum_by-cons (λ p. to_begin p.chain.of) (get_or ps i p) (drop (suc i) ps) in
            let own : to_begin p.chain.of ≡ to_begin (get_or ps i p).chain.of = ap (λ (x : PowerValue). to_begin x.chain.of) (at ∙ same) in
            record {
              list = rw e (map_over_more begun ps now i p h before.list at);
              products = rw one_more (omega (arith, before.products, sums, own, few));
            }

      -- all are
      module _ (end : length ps ≤ i) (c : ChainValue) (all : loops_of ps ≡ map (alone_of c.of) c.of.subsystems) where
        at_chain : hours ≡ c.hours → beats ≡ c.beats → map of_loop (map (alone_of c.of) c.of.subsystems) ≡ powers_at c 1
        at_chain e f = rw (e, f) (map-map _ (alone_of c.of) c.of.subsystems)

        pub all_begun : hours ≡ c.hours → beats ≡ c.beats → now ≡ powers_at c 1
        all_begun e f =
            before.list ∙ ap (λ xs. map begun xs ++ drop i ps) (take_all i ps end) ∙ ap (λ xs. map begun ps ++ xs) (drop_all i ps end)
            ∙ append-nil (map begun ps) ∙ sym (map-map of_loop (λ p. p.chain.of) ps) ∙ ap (map of_loop) all ∙ at_chain e f

        pub all_products : steps ≤ from + sum_by (λ u. begin_products (u ∷ [])) c.of.subsystems
        all_products =
            let sums : sum_by (λ p. to_begin p.chain.of) ps ≡ sum_by (λ u. begin_products (u ∷ [])) c.of.subsystems =
            sym (sum_by-map to_begin (λ p. p.chain.of) ps) ∙ ap (sum_by to_begin) all ∙ sum_by-map to_begin (alone_of c.of) c.of.subsystems in
            omega (arith, before.products, sums)

-- one subsystem more
pub one_pushed : (l : LoopValue) (ps : List PowerValue) (i : ℕ) (q : PowerValue) → i < length l.subsystems
    → loops_of ps ≡ map (alone_of l) (take i l.subsystems) → ((d : Subsystem) → q.chain.of ≡ alone_of l (get_or l.subsystems i d))
    → loops_of (ps ++ q ∷ []) ≡ map (alone_of l) (take (i + 1) l.subsystems)
one_pushed l ps i q h before is =
    let d : Subsystem = some_of l.subsystems i h in
    map-append (λ (p : PowerValue). p.chain.of) ps (q ∷ []) ∙ ap (λ ls. ls ++ q.chain.of ∷ []) before
    ∙ ap (λ x. map (alone_of l) (take i l.subsystems) ++ x ∷ []) (is d)
    ∙ sym (ap (map (alone_of l)) (take_more l.subsystems i d h) ∙ map-append (alone_of l) (take i l.subsystems) (get_or l.subsystems i d ∷ []))

pub all_pushed : (l : LoopValue) (ps : List PowerValue) (i : ℕ) → length l.subsystems ≤ i
    → loops_of ps ≡ map (alone_of l) (take i l.subsystems) → loops_of ps ≡ map (alone_of l) l.subsystems
all_pushed l ps i end before = before ∙ ap (map (alone_of l)) (take_all i l.subsystems end)

-- the loops of the subsystems stay the same at any power
pub loops_at : (c : ChainValue) (n : ℕ) → loops_of (powers_at c n) ≡ map (alone_of c.of) c.of.subsystems
loops_at c n = map-map (λ (p : PowerValue). p.chain.of) (λ u. record { chain = chain_alone c u; power = n }) c.of.subsystems
