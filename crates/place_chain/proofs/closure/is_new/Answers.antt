use Rattle.std.proofs.Common.{◌+◌, length, arith}
use Rattle.product_chain.proofs.Parts.{parts-within}
use Rattle.place_chain.proofs.closure.is_new.Goals as goal

pub offset_bounds-columns-columns : goal.offset_bounds-columns-columns
offset_bounds-columns-columns c =
    let here = parts-within (length c.args.marks.now) c.args.columns.starts.now c.args.columns.entries.now c.requires.columns.parts c.args.target (omega arith) in
    omega (arith, here)

pub slice_bounds-is_led_to-end : goal.slice_bounds-is_led_to-end
slice_bounds-is_led_to-end c =
    let next = parts-within (length c.args.marks.now) c.args.columns.starts.now c.args.columns.entries.now c.requires.columns.parts (c.args.target + 1) (omega arith) in
    omega (arith, next)

pub returns-clause-led : goal.returns-clause-led
returns-clause-led c e P on has = c.is_led_to.ensures.some e (P c.args.target) (λ k d h f. on c.args.target c.requires.target k d h (has _ f))
