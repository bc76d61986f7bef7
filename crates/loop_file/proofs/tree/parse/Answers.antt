use Rattle.std.proofs.Common.{rules, ◌≡◌, None, Bool, true, false, List, ℕ, refl, inr, if◌then◌else◌}
use Rattle.std.specs.Str.{IsUtf8, is_utf8}
use Rattle.std.proofs.lemmas.Str.{is_utf8-from_IsUtf8, IsUtf8-from_is_utf8}
use Rattle.toml.specs.Parse.{parse_document}
use Rattle.loop_file.specs.Tree.{tree_of}
use Rattle.loop_file.proofs.tree.parse.Goals as goal

refused_tree : (bs : List ℕ) → (IsUtf8 bs → parse_document bs ≡ None) → tree_of bs ≡ None
refused_tree bs h = by (is_utf8 bs) refl
  where
    by : (b : Bool) → is_utf8 bs ≡ b → (if b then parse_document bs else None) ≡ None
    by true e = h (IsUtf8-from_is_utf8 bs e)
    by false e = refl

pub returns-in-Ok-clause-ok : goal.returns-in-Ok-clause-ok
returns-in-Ok-clause-ok c = rw (is_utf8-from_IsUtf8 _ c.in-Ok.ensures.ok.0) c.in-Ok.ensures.ok.1

pub returns-else-is_memory-clause-refused : goal.returns-else-is_memory-clause-refused
returns-else-is_memory-clause-refused c = inr (refl, refused_tree _ (c.in-Err.ensures.refused (search rules)))
