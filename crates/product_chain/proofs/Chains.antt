-- Chains are made and retimed.
use Rattle.std.proofs.Common.{◌≡◌, ℕ, suc, ◌+◌, ◌*◌, ◌^◌, ◌<◌, ◌≤◌, List, [], ◌∷◌, ◌++◌, length, get_or, take, drop, refl, ap, arith}
use Rattle.std.proofs.Math.ListN.{drop_of_length-le}
use Rattle.std.specs.Prelude.{All, map}
use Rattle.std.specs.List.Sorted.{IsPermutation}
use Rattle.std.proofs.lemmas.List.{get_or-map, length-map}
use Rattle.std.proofs.lemmas.List.Elements.{All-map}
use Rattle.std.proofs.lemmas.List.Sorted.{All-permutation}
use Rattle.sil_model.specs.LoopValue.{LoopValue, IsValid, IsSubsystemInRange}
use Rattle.sil_model.specs.Sizes.{states_of, most_states}
use Rattle.sil_model.specs.declared.parts.Subsystem.{Subsystem}
use Rattle.model_laws.proofs.Rates.{some_beats}
use Rattle.product_chain.specs.declared.moves.Move.{Move}
use Rattle.product_chain.specs.declared.moves.TickRate.{TickRate}
use Rattle.product_chain.specs.declared.column.Entry.{Entry}
use Rattle.product_chain.specs.declared.step.Step.{Step}
use Rattle.product_chain.specs.Steps.{steps_below, IsSlow}
use Rattle.product_chain.specs.Columns.{no_rate, step_of_move, stay_of, timed, kept, entries_of, part, AreParts}
use Rattle.product_chain.specs.Kept.{IsTimed, AreMoves, AreColumns, IsChain}
use Rattle.product_chain.proofs.Flow.{all-inside}
use Rattle.product_chain.proofs.Joins.{no_step}

All-unmap : {A B : Type 0} (P : B → Type 0) (f : A → B) (xs : List A) (e : B) → All P (map f xs) → All (λ x. P (f x)) xs
All-unmap P f xs e all k d h = let same : get_or (map f xs) k e ≡ f (get_or xs k d) = get_or-map f xs k d e h in
    rw same at (all k e (omega (arith, length-map xs f)))

-- beats are at least one
pub beats-some : (us : List Subsystem) (hours beats : ℕ) → IsTimed us hours beats → 1 ≤ beats
beats-some us hours beats t = omega (arith, t.enough, some_beats us hours)

-- rates that are slow enough
module _ (us : List Subsystem) (hours beats : ℕ) (t : IsTimed us hours beats) (rates : List TickRate) (slow : All (λ r. IsSlow us r.num r.den) rates) where
  pub divisors : All (λ r. (0 < r.den) × (r.den ≤ 10 ^ 18)) rates
  divisors k d h = let s = slow k d h in (s.some, s.small)

  pub short-enough : All (λ r. hours * r.num ≤ beats * r.den) rates
  short-enough k d h = (slow k d h).slow hours beats t.enough

-- the moves do not depend on the length of a tick
module _ (hours beats : ℕ) (rates : List TickRate) where
  timed-step : (m : Move) → m.rate < length rates → step_of_move (map (timed hours beats) rates) m ≡ step_of_move rates m
  timed-step m h = rw (get_or-map (timed hours beats) rates m.rate no_rate no_rate h) refl

  timed-steps : (ms : List Move) → All (λ m. m.rate < length rates) ms → map (step_of_move (map (timed hours beats) rates)) ms ≡ map (step_of_move rates) ms
  timed-steps [] known = refl
  timed-steps (m ∷ ms) known = cc (timed-step m (known 0 m (omega arith)), timed-steps ms (λ k d h. known (suc k) d (omega arith)))

  pub known-timed : (ms : List Move) → All (λ m. m.rate < length rates) ms → All (λ m. m.rate < length (map (timed hours beats) rates)) ms
  known-timed ms known k d h = omega (arith, known k d h, length-map rates (timed hours beats))

  chances-timed : All (λ r. r ≡ timed hours beats r) (map (timed hours beats) rates)
  chances-timed = All-map (λ (r : TickRate). r ≡ timed hours beats r) (timed hours beats) rates (λ k d h. refl)

  pub timed-moves : (us : List Subsystem) (moves : List Move) (starts : List ℕ) → AreMoves us rates moves starts
      → AreMoves us (map (timed hours beats) rates) moves starts
  timed-moves us moves starts a = record {
    steps = rw (timed-steps moves a.known) (a.steps);
    known = known-timed moves a.known;
    slow = All-map (λ (r : TickRate). IsSlow us r.num r.den) (timed hours beats) rates (λ k d h. a.slow k d h);
    parts = a.parts;
    targets = a.targets;
  }

  pub timed-columns : (us : List Subsystem) (moves : List Move) (move_starts stays starts : List ℕ) (entries : List Entry) → length stays ≡ states_of us
      → ((i : ℕ) → i < length stays → get_or stays i 0 ≡ stay_of (map (timed hours beats) rates) moves i) → AreParts (length stays) starts entries
      → ((j : ℕ) → j < length stays → part starts entries j ≡ entries_of (map (timed hours beats) rates) (part move_starts moves j) ++ kept j
      (get_or stays j 0))
      → AreColumns us hours beats (map (timed hours beats) rates) moves move_starts stays starts entries
  timed-columns us moves move_starts stays starts entries size stay parts columns = record {
    chances = chances-timed;
    stay = λ i h. stay i (omega arith);
    parts = rw size at parts;
    columns = λ j h. columns j (omega arith);
  }

-- sources and targets are numbers of count vectors
module _ (us : List Subsystem) (r : All IsSubsystemInRange us) (rates : List TickRate) (moves : List Move)
    (order : IsPermutation (steps_below us (states_of us)) (map (step_of_move rates) moves)) where
  abbrev Inside : Step → Type 0
  Inside s = (s.source < states_of us) × (s.target < states_of us)

  moves-inside : All (λ m. Inside (step_of_move rates m)) moves
  moves-inside = All-unmap Inside (step_of_move rates) moves no_step (All-permutation Inside (steps_below us (states_of us))
      (map (step_of_move rates) moves) order (all-inside us r (states_of us) (states_of us) (omega arith)))

  pub sources-inside : All (λ m. m.source < states_of us) moves
  sources-inside k d h = (moves-inside k d h).0

  pub targets-inside : All (λ m. m.target < states_of us) moves
  targets-inside k d h = (moves-inside k d h).1

-- a list that was written in its place
pub written : {A : Type 0} (n : ℕ) (new old : List A) → length new ≡ length old → n ≡ length old → take n (new ++ drop (length new) old) ≡ new
written n new old e d =
    let long : length old ≤ length new = omega arith in
    let same : n ≡ length new = omega arith in
    rw (same, drop_of_length-le old long) (take-whole new)
  where
    take-whole : {A : Type 0} (xs : List A) → take (length xs) (xs ++ []) ≡ xs
    take-whole [] = refl
    take-whole (x ∷ xs) = ap (λ ys. x ∷ ys) (take-whole xs)

-- the chain of another phase
module _ (l : LoopValue) (hours beats : ℕ) (t : IsTimed l.subsystems hours beats) (rates : List TickRate) (moves : List Move)
    (move_starts stays starts : List ℕ) (entries : List Entry) (capacity : ℕ) where
  pub timed-chain : IsValid l → states_of l.subsystems ≤ most_states → AreMoves l.subsystems rates moves move_starts → length stays
      ≡ states_of l.subsystems → (now : List TickRate) → now ≡ map (timed hours beats) rates
      → ((i : ℕ) → i < length stays → get_or stays i 0 ≡ stay_of now moves i) → AreParts (length stays) starts entries
      → ((j : ℕ) → j < length stays → part starts entries j ≡ entries_of now (part move_starts moves j) ++ kept j (get_or stays j 0))
      → length moves + length stays ≤ capacity → IsChain l hours beats now moves move_starts stays starts entries capacity
  timed-chain v few a size now e stay parts columns room = record {
    valid = v;
    few = few;
    timed = t;
    known_moves = rw e (timed-moves hours beats rates l.subsystems moves move_starts a);
    size = size;
    columns = rw e (timed-columns hours beats rates l.subsystems moves move_starts stays starts entries size (rw e at stay) parts (rw e at columns));
    room = omega arith;
  }

pub few-states : (l space : LoopValue) (size : ℕ) → space ≡ l → size ≡ states_of space.subsystems → size ≤ most_states → states_of l.subsystems ≤ most_states
few-states l space size e d h = rw (d, e) at h
