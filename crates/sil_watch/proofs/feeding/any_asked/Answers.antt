use Rattle.std.proofs.Common.{rules, sym, ◌∙◌}
use Rattle.sil_watch.specs.Watching.{fed_of}
use Rattle.sil_watch.proofs.Folds.{fed-other}
use Rattle.sil_watch.proofs.Lists.{one_other}
use Rattle.sil_watch.proofs.feeding.any_asked.Goals as goal

pub loop-i-preserved : goal.loop-i-preserved
loop-i-preserved g c rs =
    one_other (λ b. (goal.Watcher-dyn g (b.vtable, b.value)).watcher_value b.value) (fed_of c.args.asked rs) c.args.all.now c.loop-i.i c.index-all-i.result c.index-all-i.is
    (search rules) (c.loop-i.invariant rs) (fed-other c.args.asked rs ((goal.Watcher-dyn g (c.index-all-i.result.vtable, c.index-all-i.result.value)).watcher_value c.index-all-i.result.value) (sym c.is_asked.ensures ∙ c.if-is_asked.false))
