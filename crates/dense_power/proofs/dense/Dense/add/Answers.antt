use Rattle.std.proofs.Common.{◌≡◌, ◌+◌, ◌^◌, ◌<◌, ◌*◌, length, slice_index, sym, ap, ◌∙◌, arith}
use Rattle.std.proofs.lemmas.List.{get_or_read}
use Rattle.vector_laws.specs.Matrix.{Matrix}
use Rattle.dense_power.proofs.Places.{room_at}
use Rattle.dense_power.proofs.dense.Dense.add.Goals as goal

pub overflow_add-index_mut : goal.overflow_add-index_mut
overflow_add-index_mut c =
    let k = c.loop-k.k in
    let size : c.self.inside.size ≡ c.args.self.now.size = ap (λ (m : Matrix). m.size) c.self.view_is in
    let other_size : c.other.inside.size ≡ c.args.other.now.size = ap (λ (m : Matrix). m.size) c.other.view_is in
    let within : k < length c.self.inside.entries.items = omega (arith, c.len-k-end.ensures) in
    let filled : length c.self.inside.entries.items ≡ c.args.self.now.size * c.args.self.now.size =
    sym c.self.inside.entries.ok.0 ∙ rw size at c.self.invariant.filled in
    let same : c.other.inside.size ≡ c.self.inside.size = omega (arith, size, other_size, c.requires.size) in
    let other_filled : length c.other.inside.entries.items ≡ c.self.inside.size * c.self.inside.size =
    sym c.other.inside.entries.ok.0 ∙ rw same at c.other.invariant.filled in
    let a : c.index_mut.result.now ≡ slice_index c.args.self.now.entries k =
    get_or_read c.loop-k.self-inside.entries.items k _ (omega (arith, within, c.loop-k.invariant.room)) c.index_mut.ensures.value 0
    ∙ c.loop-k.invariant.kept k (omega arith) ∙ ap (λ (m : Matrix). slice_index m.entries k) c.self.view_is in
    let b : c.index.result.now ≡ slice_index c.args.other.now.entries k =
    get_or_read c.other.inside.entries.items k _ (omega (arith, within, c.self.invariant.filled, other_filled)) c.index.ensures 0
    ∙ ap (λ (m : Matrix). slice_index m.entries k) c.other.view_is in
    let r : slice_index c.args.self.now.entries k + slice_index c.args.other.now.entries k < 2 ^ 128 =
    room_at c.args.self.now c.args.other.now k c.requires.size (omega (arith, within, filled)) (omega (arith, size, c.self.invariant.some)) c.requires.room in
    omega (arith, a, b, r)
