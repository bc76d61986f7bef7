use Rattle.std.proofs.Common.{◌≡◌, ℕ, ◌+◌, ◌<◌, inl, inr, length, get_or, arith, ◌∙◌, get_or-set_same, get_or-set_other}
use Rattle.std.proofs.lemmas.Bool.{cases_lt}
use Rattle.product_chain.proofs.Parts.{length-slice, parts-within}
use Rattle.product_chain.proofs.gathering.gather.Goals as goal

pub offset_bounds-columns-columns : goal.offset_bounds-columns-columns
offset_bounds-columns-columns g c =
    let here = parts-within (length c.args.to.now) c.args.columns.starts.now c.args.columns.entries.now c.requires.columns.parts c.loop-j.j (omega arith) in
    omega (arith, here)

pub slice_bounds-column-start : goal.slice_bounds-column-start
slice_bounds-column-start g c = c.requires.columns.parts.rising c.loop-j.j (omega arith)

pub slice_bounds-column-end : goal.slice_bounds-column-end
slice_bounds-column-end g c =
    let next = parts-within (length c.args.to.now) c.args.columns.starts.now c.args.columns.entries.now c.requires.columns.parts (c.loop-j.j + 1) (omega arith) in
    omega (arith, next)

pub loop-j-preserved : goal.loop-j-preserved
loop-j-preserved g c =
    let j : ℕ = c.loop-j.j in
    let inside : j < length c.args.to.now = omega arith in
    let within = parts-within (length c.args.to.now) c.args.columns.starts.now c.args.columns.entries.now c.requires.columns.parts (j + 1) (omega arith) in
    let long = length-slice c.args.columns.entries.now (get_or c.args.columns.starts.now j 0) (get_or c.args.columns.starts.now (j + 1) 0)
    (c.requires.columns.parts.rising j inside) within in
    record {
      floors = λ k h. elim (cases_lt k j) [
        | inl p ↦ get_or-set_other c.loop-j.to j k c.gathered.result 0 (λ e. absurd (omega arith)) ∙ c.loop-j.invariant.floors k p
        | inr p ↦ let e : k ≡ j = omega arith in rw e (get_or-set_same c.loop-j.to j c.gathered.result 0 (omega arith) ∙ c.gathered.ensures.floor)
      ];
      steps = omega (arith, long, c.requires.columns.parts.rising j inside, c.gathered.ensures.steps, c.loop-j.invariant.steps);
    }
