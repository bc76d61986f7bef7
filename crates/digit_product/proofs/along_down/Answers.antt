use Rattle.std.proofs.Common.{◌≡◌, ℕ, ◌*◌, ◌/◌, ◌%◌, ◌<◌, ◌≤◌, length, ◌∙◌, arith, inl, inr}
use Rattle.std.proofs.Math.Nat.{mul-le-mul}
use Rattle.std.proofs.lemmas.Bool.{cases_lt}
use Rattle.std.proofs.lemmas.Nat.{mod_below}
use Rattle.separate_laws.specs.Digits.{digit_of}
use Rattle.digit_product.proofs.Digits.{its-place, block-below}
use Rattle.digit_product.proofs.Entries.{weighed-small}
use Rattle.digit_product.proofs.Listed.{others-stay, digit-filled}
use Rattle.digit_product.proofs.along_down.Goals as goal

pub fill_digit-requires-clause-small : goal.fill_digit-requires-clause-small
fill_digit-requires-clause-small g c =
    weighed-small c.args.matrix.now c.args.stride c.loop-digit.digit c.of-column.result c.args.v.now c.requires.some
    (omega (arith, c.loop-digit-test.true, c.size-digit-end.ensures.size)) c.requires.small c.requires.mass c.of-column.ensures

pub loop-digit-preserved : goal.loop-digit-preserved
loop-digit-preserved g c =
    let size : ℕ = c.args.matrix.now.size in
    let digit : ℕ = c.loop-digit.digit in
    let inside : digit < size = omega (arith, c.loop-digit-test.true, c.size-digit-end.ensures.size) in
    let lines = rw c.size.ensures.size at c.of-lines.ensures in
    let stay = others-stay c.args.matrix.now c.args.stride c.args.blocks digit c.args.v.now c.of-lines.result c.of-column.result c.loop-digit.out
    c.fill_digit.new.out c.requires.some inside lines c.of-column.ensures (rw c.starts.ensures at c.fill_digit.ensures.filled)
    (rw c.starts.ensures at c.fill_digit.ensures.others) in
    let here = digit-filled c.args.matrix.now c.args.stride c.args.blocks digit c.args.v.now c.of-lines.result c.of-column.result c.loop-digit.out
    c.fill_digit.new.out c.requires.some inside lines c.of-column.ensures (rw c.starts.ensures at c.fill_digit.ensures.filled)
    (rw c.starts.ensures at c.fill_digit.ensures.others) in
    record {
      size = c.fill_digit.ensures.size ∙ c.loop-digit.invariant.size;
      filled = λ low other high h p q. elim (cases_lt other digit) [
        | inl before ↦ stay low other high h (omega (arith, before, inside)) (λ e. absurd (omega (arith, before, e))) ∙ c.loop-digit.invariant.filled low other high h before q
        | inr after ↦
            let e : other ≡ digit = omega (arith, p, after) in
            rw e (here low high h q (c.loop-digit.invariant.left low digit high h (omega arith) inside q))
      ];
      left = λ low other high h after p q.
          stay low other high h p (λ e. absurd (omega (arith, after, e))) ∙ c.loop-digit.invariant.left low other high h (omega (arith, after)) p q;
      steps =
          let most : length c.of-lines.result * length c.of-column.result ≤ c.args.blocks * c.args.stride * size = mul-le-mul lines.few c.of-column.ensures.few in
          omega (arith, rw c.starts.ensures at c.fill_digit.ensures.steps, most, c.loop-digit.invariant.steps, c.requires.v);
    }

pub returns-clause-floors : goal.returns-clause-floors
returns-clause-floors g c = record {
  size = c.loop-digit.invariant.size;
  floor = λ j h.
      let stride : ℕ = c.args.stride in
      let size : ℕ = c.args.matrix.now.size in
      let some : 0 < size = omega (arith, c.size-digit-end.ensures.some, c.size-digit-end.ensures.size) in
      rw (its-place stride size j) at
      (c.loop-digit.invariant.filled (j % stride) (digit_of stride size j) (j / (stride * size)) (mod_below j stride c.requires.some)
      (omega (arith, mod_below (j / stride) size some, c.loop-digit-test.false, c.size-digit-end.ensures.size))
      (block-below stride size j c.args.blocks c.requires.some some (omega (arith, h, c.requires.v, c.loop-digit.invariant.size))));
}
