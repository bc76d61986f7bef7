use Rattle.std.proofs.Common.{ℕ, ◌+◌, ◌<◌, ◌≤◌, length, get_or, arith}
use Rattle.std.specs.Prelude.{vec_len}
use Rattle.product_chain.proofs.Parts.{parts-within, length-slice}
use Rattle.place_chain.proofs.Begun.{starts-le, begun-next}
use Rattle.place_chain.proofs.compact.compact.Goals as goal

pub offset_bounds-all-all : goal.offset_bounds-all-all
offset_bounds-all-all c =
    let k : ℕ = c.loop-place.place-index in
    let j : ℕ = get_or c.args.places.now k 0 in
    let inside : k < length c.args.places.now = omega arith in
    let here = parts-within (length c.args.marks.now) c.args.all.starts.now c.args.all.entries.now c.requires.columns.parts j
    (omega (arith, c.requires.places.below k inside)) in
    omega (arith, here)

pub slice_bounds-push_column-end : goal.slice_bounds-push_column-end
slice_bounds-push_column-end c =
    let k : ℕ = c.loop-place.place-index in
    let j : ℕ = get_or c.args.places.now k 0 in
    let inside : k < length c.args.places.now = omega arith in
    let next = parts-within (length c.args.marks.now) c.args.all.starts.now c.args.all.entries.now c.requires.columns.parts (j + 1)
    (omega (arith, c.requires.places.below k inside)) in
    omega (arith, next)

pub push_column-requires-clause-room : goal.push_column-requires-clause-room
push_column-requires-clause-room c =
    let k : ℕ = c.loop-place.place-index in
    let j : ℕ = get_or c.args.places.now k 0 in
    let inside : k < length c.args.places.now = omega arith in
    let below : j < length c.args.marks.now = c.requires.places.below k inside in
    let next = parts-within (length c.args.marks.now) c.args.all.starts.now c.args.all.entries.now c.requires.columns.parts (j + 1) (omega arith) in
    let rising = c.requires.columns.parts.rising j below in
    let long = length-slice c.args.all.entries.now (get_or c.args.all.starts.now j 0) (get_or c.args.all.starts.now (j + 1) 0) rising next in
    omega (arith, next, rising, long, c.loop-place.invariant.here inside)

pub loop-place-preserved : goal.loop-place-preserved
loop-place-preserved c =
    let k : ℕ = c.loop-place.place-index in
    let j : ℕ = get_or c.args.places.now k 0 in
    let inside : k < length c.args.places.now = omega arith in
    let below : j < length c.args.marks.now = c.requires.places.below k inside in
    let next = parts-within (length c.args.marks.now) c.args.all.starts.now c.args.all.entries.now c.requires.columns.parts (j + 1) (omega arith) in
    let rising = c.requires.columns.parts.rising j below in
    let long = length-slice c.args.all.entries.now (get_or c.args.all.starts.now j 0) (get_or c.args.all.starts.now (j + 1) 0) rising next in
    let most : vec_len c.push_column.new.entries ≤ get_or c.args.all.starts.now (j + 1) 0 =
    omega (arith, rising, long, c.loop-place.invariant.here inside, c.push_column.ensures.len) in
    record {
      begun =
          begun-next c.args.marks.now c.args.ranks.now c.args.places.now c.args.all.starts.now c.args.all.entries.now k c.len.result c.loop-place.starts.items
          c.push_start-in-loop-place.new.starts.items c.loop-place.entries.items c.push_column.new.entries.items c.loop-place.invariant.begun
          c.push_column.ensures.items c.push_start-in-loop-place.ensures.items (omega arith);
      here = λ h.
          let later : j < get_or c.args.places.now (k + 1) 0 = c.requires.places.rising k (k + 1) (omega arith) h in
          let last : get_or c.args.places.now (k + 1) 0 < length c.args.marks.now = c.requires.places.below (k + 1) h in
          let up = starts-le (length c.args.marks.now) c.args.all.starts.now c.args.all.entries.now c.requires.columns.parts (j + 1) (get_or c.args.places.now (k + 1) 0)
          (omega arith) (omega arith) in
          omega (arith, most, up);
      few = omega (arith, most, next);
      room = omega arith;
      starts_room = omega arith;
      starts_len = omega arith;
    }
