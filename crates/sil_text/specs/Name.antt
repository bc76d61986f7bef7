-- Names of subsystems and types.
use Rattle.std.specs.Prelude.{ℕ, Bool, ◌&&◌, nat_le, List, length}
use Rattle.std.specs.List.{list_all}

-- the test of a name: 1 to 32 bytes, each of them from the blank to the tilde
unfoldable pub is_name_text : List ℕ → Bool
is_name_text bytes =
    nat_le 1 (length bytes) && nat_le (length bytes) 32 && list_all (λ byte. nat_le 32 byte && nat_le byte 126) bytes
