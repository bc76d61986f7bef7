use Rattle.std.proofs.Common.{◌+◌, arith}
use Rattle.place_chain.proofs.Marks.{IsTurn, turn-new, turn-old}
use Rattle.place_chain.proofs.closure.mark_round.Goals.{then-is_new, else-is_new}
use Rattle.place_chain.proofs.closure.mark_round.Goals as goal

pub loop-j-preserved : goal.loop-j-preserved
loop-j-preserved c = elim c.if-is_new.branch [
  | then-is_new w ↦
      let t : IsTurn c.args.marks.now c.args.columns.starts.now c.args.columns.entries.now (c.loop-j.j + 1) c.if-is_new.marks c.if-is_new.found =
      rw (w.marks-is, w.found-is)
      (turn-new c.args.marks.now c.args.columns.starts.now c.args.columns.entries.now c.loop-j.j c.loop-j.marks c.loop-j.found
      (record { kept = c.loop-j.invariant.kept; closed = c.loop-j.invariant.closed; fewer = c.loop-j.invariant.fewer; most = c.loop-j.invariant.most; least = c.loop-j.invariant.least })
      (omega arith) (c.is_new.ensures.new w.if-is_new.true) (rw c.loop-j.auto.marks at (c.is_new.ensures.led w.if-is_new.true))) in
      record { kept = t.kept; closed = t.closed; fewer = t.fewer; most = t.most; least = t.least }
  | else-is_new w ↦
      let t : IsTurn c.args.marks.now c.args.columns.starts.now c.args.columns.entries.now (c.loop-j.j + 1) c.if-is_new.marks c.if-is_new.found =
      rw (w.marks-is, w.found-is)
      (turn-old c.args.marks.now c.args.columns.starts.now c.args.columns.entries.now c.loop-j.j c.loop-j.marks c.loop-j.found
      (record { kept = c.loop-j.invariant.kept; closed = c.loop-j.invariant.closed; fewer = c.loop-j.invariant.fewer; most = c.loop-j.invariant.most; least = c.loop-j.invariant.least })
      (c.is_new.ensures.old w.if-is_new.false)) in
      record { kept = t.kept; closed = t.closed; fewer = t.fewer; most = t.most; least = t.least }
]
