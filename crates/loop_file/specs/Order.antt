-- The order of a table's members.
use Rattle.std.specs.Prelude.{Bool, true, ◌&&◌}
use Rattle.toml.specs.Data.{Members, no_members, member, is_before}

-- each key is before the next one, in the order of bytes; so of the keys that are not known the least is the first
abbrev pub keys_ascend : Members → Bool
keys_ascend no_members = true
keys_ascend (member k d ms) = is_before k ms && keys_ascend ms
