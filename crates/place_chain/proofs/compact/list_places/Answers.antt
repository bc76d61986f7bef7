use Rattle.std.proofs.Common.{arith}
use Rattle.place_chain.proofs.Listed.{listed-not, listed-next}
use Rattle.place_chain.proofs.compact.list_places.Goals.{then-marks-i+in-Ok, else-marks-i}
use Rattle.place_chain.proofs.compact.list_places.Goals as goal

pub loop-i-preserved : goal.loop-i-preserved
loop-i-preserved c = elim c.if-marks-i.branch [
  | then-marks-i+in-Ok w ↦
      record {
        listed =
            rw (w.places-is)
            (listed-next c.args.marks.now c.loop-i.i c.len.result c.loop-i.places.items c.loop-i.ranks c.loop-i.invariant.listed (omega arith) (omega arith)
            w.push.new.self.items w.in-Ok.ensures.items w.if-marks-i.true);
        room = rw (w.places-is) (omega arith);
      }
  | else-marks-i w ↦
      record {
        listed =
            rw (w.places-is)
            (listed-not c.args.marks.now c.loop-i.i c.len.result c.loop-i.places.items c.loop-i.ranks c.loop-i.invariant.listed (omega arith) (omega arith)
            w.if-marks-i.false);
        room = rw (w.places-is) (omega arith);
      }
]
