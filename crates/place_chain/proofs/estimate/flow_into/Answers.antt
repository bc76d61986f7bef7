use Rattle.std.proofs.Common.{◌+◌, length, get_or, arith}
use Rattle.product_chain.proofs.Parts.{length-slice, parts-within}
use Rattle.place_chain.proofs.estimate.flow_into.Goals as goal

pub offset_bounds-columns-columns : goal.offset_bounds-columns-columns
offset_bounds-columns-columns g c =
    let here = parts-within (length c.args.masses.now) c.args.columns.starts.now c.args.columns.entries.now c.requires.columns.parts c.args.target (omega arith) in
    omega (arith, here)

pub slice_bounds-flow_through-end : goal.slice_bounds-flow_through-end
slice_bounds-flow_through-end g c =
    let next = parts-within (length c.args.masses.now) c.args.columns.starts.now c.args.columns.entries.now c.requires.columns.parts (c.args.target + 1) (omega arith) in
    omega (arith, next)

pub returns : goal.returns
returns g c =
    let rising = c.requires.columns.parts.rising c.args.target c.requires.target in
    let next = parts-within (length c.args.masses.now) c.args.columns.starts.now c.args.columns.entries.now c.requires.columns.parts (c.args.target + 1) (omega arith) in
    let long = length-slice c.args.columns.entries.now (get_or c.args.columns.starts.now c.args.target 0) (get_or c.args.columns.starts.now (c.args.target + 1) 0) rising next in
    omega (arith, long, rising, c.flow_through.ensures)
