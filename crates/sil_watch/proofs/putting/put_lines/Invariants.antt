use Rattle.std.proofs.Common.{◌≡◌, ◌++◌, map, take}
use Rattle.sil_watch.specs.Lines.{lines_of_all}
use Rattle.sil_watch.proofs.putting.put_lines.Given as goal

-- the lines of those before i are put
abbrev pub invariant-loop-i : goal.invariant-loop-i
invariant-loop-i g l =
    l.out.items ≡ l.fn.out.items ++ lines_of_all l.fn.asked (take l.i (map (λ b. (goal.Watcher-dyn g (b.vtable, b.value)).watcher_value b.value) l.fn.all))
