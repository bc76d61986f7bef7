use Rattle.std.proofs.Common.{◌≡◌, ℕ, ◌+◌, ◌*◌, ◌/◌, ◌^◌, ◌<◌, ◌≤◌, List, length, slice_index, arith, inl, inr}
use Rattle.std.proofs.lemmas.Bool.{cases_lt}
use Rattle.beat_ladder.specs.Powers.{square_at, at_place}
use Rattle.beat_ladder.proofs.Rungs.{beats-le-half, held_mass, next_power}
use Rattle.beat_ladder.proofs.rung.Rung.doubled.Goals as goal

pub square-requires-clause-few : goal.square-requires-clause-few
square-requires-clause-few c = rw c.deref.ensures.value (omega (arith, c.args.self.now.held.few, beats-le-half c.args.self.now.exponent c.requires))

pub square-requires-clause-mass : goal.square-requires-clause-mass
square-requires-clause-mass c = rw c.deref.ensures.value (held_mass c.args.self.now.exponent c.args.self.now.low c.args.self.now.numbers.items c.args.self.now.held)

-- the first number that is not 0 stands before the end
ordered : (square : List ℕ) (first end : ℕ) → (0 < first → slice_index square first ≡ 0 → ⊥) → ((k : ℕ) → end ≤ k → slice_index square k ≡ 0) → 0 < end → first < end
ordered square first end front back some = elim (cases_lt first end) [
  | inl h ↦ h
  | inr h ↦ absurd (front (omega arith) (back first h))
]

pub new-requires-clause-held : goal.new-requires-clause-held
new-requires-clause-held c =
    let numbers : List ℕ = c.args.self.now.numbers.items in
    let square : List ℕ = c.in_ok-square.square.items in
    let len : length square + 1 ≡ 2 * length numbers = omega (arith, c.in_ok-square.square.ok.0, rw c.deref.ensures.value at c.in_ok-square.ensures.len) in
    let each : (k : ℕ) → k < length square → slice_index square k ≡ square_at (at_place numbers) k / 2 ^ 48 = λ k h. (rw c.deref.ensures.value at c.in_ok-square.ensures.numbers) k (omega (arith, c.in_ok-square.square.ok.0)) in
    let front : (k : ℕ) → k < c.first_place-first.result → slice_index square k ≡ 0 = rw c.deref-2.ensures.value at c.first_place-first.ensures.before in
    let back : (k : ℕ) → c.end_place-end.result ≤ k → slice_index square k ≡ 0 = rw c.deref-3.ensures.value at c.end_place-end.ensures.after in
    let first : 0 < c.first_place-first.result → slice_index square c.first_place-first.result ≡ 0 → ⊥ = rw c.deref-2.ensures.value at c.first_place-first.ensures.first in
    let some : 0 < c.end_place-end.result = omega (arith, c.args.self.now.held.some) in
    rw (c.in_ok-numbers.ensures.items, c.deref-4.ensures.value)
    (next_power c.args.self.now.exponent c.args.self.now.low numbers c.args.self.now.held square len each c.first_place-first.result c.end_place-end.result front back
    (ordered square c.first_place-first.result c.end_place-end.result first back some) (omega arith))
