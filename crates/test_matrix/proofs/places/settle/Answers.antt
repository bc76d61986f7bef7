use Rattle.std.proofs.Common.{arith}
use Rattle.sil_model.specs.declared.parts.Chan.TheVariants.{Hidden}
use Rattle.test_matrix.proofs.Small.{room_for_deep}
use Rattle.test_matrix.proofs.places.settle.Goals as goal

pub move_in-requires-then-full-clause-room : goal.move_in-requires-then-full-clause-room
move_in-requires-then-full-clause-room c =
    rw (c.count_in-deep.ensures.count, c.move_in.ensures)
    (room_for_deep c.args.counts.now c.args.g c.count_in-hidden.result (omega arith) c.requires.room
    (omega (arith, c.count_in-hidden.ensures.count, c.requires.room Hidden)))
