use Rattle.std.proofs.Common.{rules}
use Rattle.sil_watch.specs.Lines.{lines_of_asked}
use Rattle.sil_watch.proofs.Pieces.{piece_of}
use Rattle.sil_watch.proofs.putting.put_lines.Goals as goal

pub loop-i-preserved : goal.loop-i-preserved
loop-i-preserved g c =
    piece_of (λ b. (goal.Watcher-dyn g (b.vtable, b.value)).watcher_value b.value) (lines_of_asked c.args.asked) c.args.all.now c.loop-i.i c.args.out.now.items
    c.loop-i.out.items c.put_asked.new.out.items c.index-all-i.result c.loop-i.invariant c.index-all-i.is (search rules) c.in_ok-put_asked.ensures
