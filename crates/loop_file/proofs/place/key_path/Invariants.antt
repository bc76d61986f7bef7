use Rattle.std.proofs.Common.{◌≡◌, ◌++◌, map, string_bytes}
use Rattle.loop_file.specs.Paths.{prefix_of, shown_byte}
use Rattle.loop_file.proofs.place.key_path.Given as goal

abbrev pub invariant-loop-byte : goal.invariant-loop-byte
invariant-loop-byte l = string_bytes l.path ≡ prefix_of l.fn.place ++ map shown_byte l.yielded
