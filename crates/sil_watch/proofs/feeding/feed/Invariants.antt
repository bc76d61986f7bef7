use Rattle.std.proofs.Common.{◌≡◌, ◌++◌, [], ◌∷◌, map, take, drop}
use Rattle.sil_watch.specs.Watching.{fed_of}
use Rattle.sil_watch.proofs.feeding.feed.Given as goal

-- those before i have been offered the record
abbrev pub invariant-loop-i : goal.invariant-loop-i
invariant-loop-i g l =
    map (λ b. (goal.Watcher-dyn g (b.vtable, b.value)).watcher_value b.value) l.all
    ≡ map (fed_of l.fn.asked (l.rec ∷ [])) (take l.i (map (λ b. (goal.Watcher-dyn g (b.vtable, b.value)).watcher_value b.value) l.fn.all))
    ++ drop l.i (map (λ b. (goal.Watcher-dyn g (b.vtable, b.value)).watcher_value b.value) l.fn.all)
