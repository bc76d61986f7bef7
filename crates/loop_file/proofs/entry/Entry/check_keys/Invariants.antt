use Rattle.std.proofs.Common.{◌≡◌, map}
use Rattle.toml.specs.View.{members_view}
use Rattle.loop_file.specs.LoopFile.{unknown_checks}
use Rattle.loop_file.specs.Walk.{first_fault}
use Rattle.loop_file.proofs.entry.Entry.check_keys.Given as goal

abbrev pub invariant-keys : goal.invariant-keys
invariant-keys l =
    (goal.iterator-keys).can_next l.key-iterator × (goal.iterator-keys).is_finite l.key-iterator
    × (first_fault (unknown_checks l.self.place (map (λ k. k.now) l.known) (members_view l.key-iterator))
    ≡ first_fault (unknown_checks l.self.place (map (λ k. k.now) l.known) (members_view l.self.table.now.entries)))
