use Rattle.std.proofs.Common.{◌<◌, ◌+◌, length, get_or, arith}
use Rattle.product_chain.specs.declared.moves.Move.{Move}
use Rattle.product_chain.proofs.Parts.{parts-within, All-slice, length-slice, filled-next}
use Rattle.product_chain.proofs.column.fill.Goals as goal

pub offset_bounds-moves-move_starts : goal.offset_bounds-moves-move_starts
offset_bounds-moves-move_starts c =
    let here = parts-within (length c.args.stays.now) c.args.move_starts.now c.args.moves.now c.requires.parts c.loop-j.j (omega arith) in
    omega (arith, here)

pub slice_bounds-push_moves-end : goal.slice_bounds-push_moves-end
slice_bounds-push_moves-end c =
    let next = parts-within (length c.args.stays.now) c.args.move_starts.now c.args.moves.now c.requires.parts (c.loop-j.j + 1) (omega arith) in
    omega (arith, next)

pub push_moves-requires-clause-known : goal.push_moves-requires-clause-known
push_moves-requires-clause-known c =
    All-slice (λ (m : Move). m.rate < length c.args.rates.now) c.args.moves.now (get_or c.args.move_starts.now c.loop-j.j 0)
    (get_or c.args.move_starts.now (c.loop-j.j + 1) 0) (c.requires.parts.rising c.loop-j.j (omega arith))
    (parts-within (length c.args.stays.now) c.args.move_starts.now c.args.moves.now c.requires.parts (c.loop-j.j + 1) (omega arith)) c.requires.known

pub push_entry-requires : goal.push_entry-requires
push_entry-requires c =
    let next = parts-within (length c.args.stays.now) c.args.move_starts.now c.args.moves.now c.requires.parts (c.loop-j.j + 1) (omega arith) in
    let rising = c.requires.parts.rising c.loop-j.j (omega arith) in
    let long = length-slice c.args.moves.now (get_or c.args.move_starts.now c.loop-j.j 0) (get_or c.args.move_starts.now (c.loop-j.j + 1) 0) rising next in
    omega (arith, next, rising, long)

pub loop-j-preserved : goal.loop-j-preserved
loop-j-preserved c =
    let next = parts-within (length c.args.stays.now) c.args.move_starts.now c.args.moves.now c.requires.parts (c.loop-j.j + 1) (omega arith) in
    let rising = c.requires.parts.rising c.loop-j.j (omega arith) in
    let long = length-slice c.args.moves.now (get_or c.args.move_starts.now c.loop-j.j 0) (get_or c.args.move_starts.now (c.loop-j.j + 1) 0) rising next in
    record {
      filled =
          filled-next c.args.rates.now c.args.moves.now c.args.move_starts.now c.args.stays.now (length c.args.stays.now) c.loop-j.j c.len.result
          c.loop-j.starts c.loop-j.entries.items c.push_moves.new.entries.items c.push_entry.new.entries.items
          c.loop-j.invariant.filled (omega arith) c.push_moves.ensures.items c.push_entry.ensures.items (omega arith);
      len = omega (arith, rising, long);
      room = omega arith;
    }
