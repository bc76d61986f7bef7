use Rattle.std.proofs.Common.{◌≡◌, ℕ, ◌+◌, ◌*◌, ◌/◌, ◌^◌, ◌<◌, ap, ◌∙◌, arith, inl, inr}
use Rattle.std.proofs.lemmas.Bool.{cases_lt}
use Rattle.vector_laws.specs.Matrix.{Matrix, entry_of, product_of}
use Rattle.dense_power.proofs.Products.{sum-same_column, mul-square, product_small}
use Rattle.dense_power.proofs.dense.Dense.mul_down.Goals as goal

pub loop-j-preserved : goal.loop-j-preserved
loop-j-preserved g c =
    let size : c.loop-j.self.size ≡ c.args.self.now.size = c.loop-j.invariant.size in
    let inside : c.self.inside.size ≡ c.args.self.now.size = ap (λ (m : Matrix). m.size) c.self.view_is in
    let a_size : c.args.a.now.size ≡ c.args.self.now.size = c.requires.a_size in
    let here : (i : ℕ) → i < c.args.self.now.size → entry_of c.fill_column.new.self i c.loop-j.j ≡ product_of c.args.a.now c.args.b.now i c.loop-j.j / 2 ^ 48 =
    λ i h. c.fill_column.ensures.filled i (omega (arith, size))
    ∙ ap (λ s. s / 2 ^ 48) (sum-same_column _ _ (λ k. entry_of c.args.a.now i k) _ _ (omega (arith, size, a_size))
    (λ k p. c.column.ensures k (omega (arith, a_size, c.requires.b_size)))) in
    record {
      size = c.fill_column.ensures.size ∙ size;
      filled = λ i k h p. elim (cases_lt k c.loop-j.j) [
        | inl before ↦ c.fill_column.ensures.others i k (omega (arith, size, inside)) (λ e. absurd (omega (arith, e))) ∙ c.loop-j.invariant.filled i k h before
        | inr after ↦ let e : k ≡ c.loop-j.j = omega arith in rw e (here i h)
      ];
      steps = let e : c.fill_column.new.steps ≡ c.loop-j.steps + c.args.self.now.size ^ 2 =
          rw size at c.fill_column.ensures.steps in omega (arith, e, c.loop-j.invariant.steps);
    }

pub returns-clause-steps : goal.returns-clause-steps
returns-clause-steps g c =
    let inside : c.self.inside.size ≡ c.args.self.now.size = ap (λ (m : Matrix). m.size) c.self.view_is in
    let all : c.loop-j.j ≡ c.args.self.now.size = omega (arith, inside) in
    let e : c.loop-j.steps ≡ c.args.steps.now + c.args.self.now.size * c.args.self.now.size ^ 2 = rw all at c.loop-j.invariant.steps in
    omega (arith, e, mul-square c.args.self.now.size)

pub returns-clause-small : goal.returns-clause-small
returns-clause-small g c =
    let size : c.loop-j.self.size ≡ c.args.self.now.size = c.loop-j.invariant.size in
    let inside : c.self.inside.size ≡ c.args.self.now.size = ap (λ (m : Matrix). m.size) c.self.view_is in
    record {
      entry = λ i j h p.
          let e : entry_of c.loop-j.self i j ≡ product_of c.args.a.now c.args.b.now i j / 2 ^ 48 =
          c.loop-j.invariant.filled i j (omega (arith, size)) (omega (arith, size, inside)) in
          rw e (product_small c.args.a.now.size (entry_of c.args.a.now i) (λ k. entry_of c.args.b.now k j) (omega (arith, inside, c.requires.a_size))
          (λ k q. c.requires.a_small.entry i k (omega (arith, size, c.requires.a_size)) q)
          (λ k q. c.requires.b_small.entry k j (omega (arith, c.requires.a_size, c.requires.b_size)) (omega (arith, size, c.requires.b_size))));
    }
