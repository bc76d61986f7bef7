use Rattle.std.proofs.Common.{◌≡◌, List, map, take}
use Rattle.sil_watch.specs.Watching.{fed_of}
use Rattle.sil_watch.specs.declared.record.PhaseRecord.{PhaseRecord}
use Rattle.sil_watch.proofs.feeding.any_asked.Given as goal

-- of those before i none is asked for, so that none takes in a record
abbrev pub invariant-loop-i : goal.invariant-loop-i
invariant-loop-i g l = (rs : List PhaseRecord)
    → map (fed_of l.fn.asked rs) (take l.i (map (λ b. (goal.Watcher-dyn g (b.vtable, b.value)).watcher_value b.value) l.fn.all))
    ≡ take l.i (map (λ b. (goal.Watcher-dyn g (b.vtable, b.value)).watcher_value b.value) l.fn.all)
