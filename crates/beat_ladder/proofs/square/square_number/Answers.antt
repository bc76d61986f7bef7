use Rattle.std.proofs.Common.{◌≡◌, ℕ, suc, ◌+◌, ◌-◌, ◌*◌, ◌/◌, ◌^◌, ◌≤◌, length, refl, sym, ap, ◌∙◌, arith}
use Rattle.interval_fixed.proofs.Rounding.{div_ceil-ceiling}
use Rattle.sil_fraction.specs.Sum.{sum_below}
use Rattle.sil_fraction.proofs.Sums.{sum-next}
use Rattle.vector_laws.proofs.Masses.{past}
use Rattle.beat_ladder.specs.Powers.{square_at, at_place}
use Rattle.beat_ladder.proofs.Squares.{square-first, square-odd, square-even}
use Rattle.beat_ladder.proofs.Numbers.{square-small, part-small, product-small}
use Rattle.beat_ladder.proofs.square.square_number.Goals as goal
use Rattle.beat_ladder.proofs.square.square_number.Goals.{then-k-eq0, else-k-eq0}

pub loop-i-init : goal.loop-i-init
loop-i-init c =
    let none : sum_below c.saturating_sub-first.result (λ j. at_place c.args.numbers.now j * at_place c.args.numbers.now (c.args.k - j)) ≡ 0 =
    square-first (at_place c.args.numbers.now) (length c.args.numbers.now) (past c.args.numbers.now) c.args.k c.saturating_sub-first.result (omega arith) in
    omega (arith, none)

-- one product more, taken twice
twice : (s p a b x y : ℕ) → p ≡ x → a ≡ 2 * y → s ≡ 2 * b → s + p * a ≡ 2 * (b + x * y)
twice s p a b x y f g h = rw (f, g, h) (omega arith)

next : (c : goal.After-from-in-loop-i) → c.loop-i.sum + c.from.result * c.from-in-loop-i.result
    ≡ 2 * sum_below (c.loop-i.i + 1) (λ j. at_place c.args.numbers.now j * at_place c.args.numbers.now (c.args.k - j))
next c =
    let f : ℕ → ℕ = λ j. at_place c.args.numbers.now j * at_place c.args.numbers.now (c.args.k - j) in
    twice _ _ _ (sum_below c.loop-i.i f) (at_place c.args.numbers.now c.loop-i.i) (at_place c.args.numbers.now (c.args.k - c.loop-i.i)) c.from.ensures
    c.from-in-loop-i.ensures c.loop-i.invariant
    ∙ ap (λ s. 2 * s) (sym (sum-next c.loop-i.i f))

pub overflow_add-sum : goal.overflow_add-sum
overflow_add-sum c = omega (arith, next c, part-small c.args.numbers.now c.args.k (c.loop-i.i + 1) c.requires.mass)

pub loop-i-preserved : goal.loop-i-preserved
loop-i-preserved c = next c

-- all products are there: the middle one once, where there is one
module _ (x : ℕ → ℕ) (k half s : ℕ) (sum : s ≡ 2 * sum_below half (λ j. x j * x (k - j))) where
  even_all : (t m : ℕ) → k ≡ 2 * half → t ≡ s + m * m → m ≡ x half → t ≡ square_at x k
  even_all t m e f h = f ∙ rw (h, sum) refl ∙ sym (square-even x half k e)

  odd_all : (t : ℕ) → suc k ≡ 2 * half → t ≡ s → t ≡ square_at x k
  odd_all t e f =
      let odd : k ≡ 2 * (half - 1) + 1 = omega arith in
      let one : suc (half - 1) ≡ half = omega arith in
      f ∙ sum ∙ sym (rw one at (square-odd x (half - 1) k odd))

pub overflow_add-sum-then-k-eq0 : goal.overflow_add-sum-then-k-eq0
overflow_add-sum-then-k-eq0 c =
    let middle : c.from-middle.result * c.from-middle.result ≤ 2 ^ 96 =
    rw c.from-middle.ensures (product-small c.args.numbers.now c.div_ceil-half.result c.div_ceil-half.result c.requires.mass) in
    omega (arith, c.loop-i.invariant, part-small c.args.numbers.now c.args.k c.loop-i.i c.requires.mass, middle)

pub overflow_cast-result : goal.overflow_cast-result
overflow_cast-result c =
    let end : c.loop-i.i ≡ c.div_ceil-half.result = omega arith in
    let half : c.div_ceil-half.result ≡ (c.args.k + 1) / 2 = omega (arith, c.div_ceil-half.ensures, div_ceil-ceiling c.args.k 2 (omega arith)) in
    let all : c.if-k-eq0.sum ≡ square_at (at_place c.args.numbers.now) c.args.k = elim c.if-k-eq0.branch [
      | then-k-eq0 w ↦
          even_all (at_place c.args.numbers.now) c.args.k c.div_ceil-half.result c.loop-i.sum (rw end at c.loop-i.invariant) c.if-k-eq0.sum w.from-middle.result
          (omega (arith, half)) w.sum-is w.from-middle.ensures
      | else-k-eq0 w ↦
          odd_all (at_place c.args.numbers.now) c.args.k c.div_ceil-half.result c.loop-i.sum (rw end at c.loop-i.invariant) c.if-k-eq0.sum
          (omega (arith, half)) w.sum-is
    ] in
    omega (arith, all, square-small c.args.numbers.now c.args.k c.requires.mass)

pub returns : goal.returns
returns c =
    let end : c.loop-i.i ≡ c.div_ceil-half.result = omega arith in
    let half : c.div_ceil-half.result ≡ (c.args.k + 1) / 2 = omega (arith, c.div_ceil-half.ensures, div_ceil-ceiling c.args.k 2 (omega arith)) in
    let all : c.if-k-eq0.sum ≡ square_at (at_place c.args.numbers.now) c.args.k = elim c.if-k-eq0.branch [
      | then-k-eq0 w ↦
          even_all (at_place c.args.numbers.now) c.args.k c.div_ceil-half.result c.loop-i.sum (rw end at c.loop-i.invariant) c.if-k-eq0.sum w.from-middle.result
          (omega (arith, half)) w.sum-is w.from-middle.ensures
      | else-k-eq0 w ↦
          odd_all (at_place c.args.numbers.now) c.args.k c.div_ceil-half.result c.loop-i.sum (rw end at c.loop-i.invariant) c.if-k-eq0.sum
          (omega (arith, half)) w.sum-is
    ] in
    ap (λ s. s / 2 ^ 48) all
