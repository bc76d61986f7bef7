-- The members of a table stand in the order of their keys' bytes.
use Rattle.std.proofs.Common.{◌≡◌, true, List, [], ◌∷◌, refl}
use Rattle.std.specs.List.Sorted.{IsStrictlySortedBy}
use Rattle.std.specs.Map.{keys_of}
use Rattle.std.specs.String.{string_cmp}
use Rattle.toml.specs.View.{members_view}
use Rattle.toml.proofs.Views.{Entry, is_before-sorted}
use Rattle.loop_file.specs.Order.{keys_ascend}

pub keys_ascend-from : (es : List Entry) → IsStrictlySortedBy string_cmp (keys_of es) → keys_ascend (members_view es) ≡ true
unfolding IsStrictlySortedBy
keys_ascend-from [] h = refl
keys_ascend-from (e ∷ es) h = rw (is_before-sorted e.0 es h.0) (keys_ascend-from es h.1)
