use Rattle.std.proofs.Common.{◌≡◌, ◌++◌, take}
use Rattle.sil_watch.specs.Lines.{text_of_lines}
use Rattle.sil_watch.specs.Watching.{WatcherValue}
use Rattle.sil_watch.proofs.putting.put_all_of.Given as goal

-- the lines before i are put
abbrev pub invariant-loop-i : goal.invariant-loop-i
invariant-loop-i g l =
    let v : WatcherValue = (goal.Watcher-dyn g (l.w.vtable, l.w.value)).watcher_value l.w.value in
    l.out.items ≡ l.fn.out.items ++ text_of_lines (take l.i (v.lines v.state))
