use Rattle.std.proofs.Common.{◌≡◌, ◌⊎◌, inl, inr, ◌<◌, ◌≤◌, nat_le, ◌&&◌, if◌then◌else◌, length, sym, ap, ◌∙◌, arith, ℕ, List, Some, None, Result, Ok, Err, OnOk, IfErr}
use Rattle.toml.specs.Data.{Data, as_array}
use Rattle.toml.specs.View.{view, items_view}
use Rattle.toml.specs.declared.value.Value.{Value}
use Rattle.file_fault.specs.declared.FileFault.{FileFault}
use Rattle.file_fault.specs.declared.FileFault.TheVariants.{OutOfRange}
use Rattle.loop_file.specs.declared.place.Place.TheVariants.{Top}
use Rattle.loop_file.specs.LoopFile.{items_checks, array_checks, items_len, items_or_none, entry_checks, tables_of}
use Rattle.loop_file.specs.Paths.{path_of}
use Rattle.loop_file.specs.Walk.{IsMemory, IsRefusal, Pass}
use Rattle.loop_file.proofs.Walks.{refused_here, refused_later, pass_cons}
use Rattle.loop_file.proofs.Entries.{pass_equal, refusal_equal, items_len-view, out_of_range, in_range}
use Rattle.loop_file.proofs.tree.read_tables.Goals as goal
use Rattle.loop_file.proofs.tree.read_tables.Goals.{then-len-least-via-then-len-least, then-len-least-via-else-len-least+then-len-greatest}

-- the length check, at an array
too_many : (l g : ℕ) (key : List ℕ) (d : Data) (vs : List Value) → as_array d ≡ Some (items_view vs) → (length vs < l) ⊎ (g < length vs) → (e : FileFault)
    → IsMemory e ⊎ (e ≡ OutOfRange (path_of Top key)) → IsRefusal (array_checks l g key d) e
too_many l g key d vs is out e fault =
    refusal_equal _ _ e (ap (items_checks l g key) is) (refused_here _ _ e (elim fault [
      | inl m ↦ inl m
      | inr h ↦ inr (out_of_range l g (items_len (items_view vs)) None (Some (OutOfRange (path_of Top key))) (rw (items_len-view vs) out) ∙ ap Some (sym h))
    ]))

-- the entries, at an array that has as many as it may
module _ (l g : ℕ) (key : List ℕ) (d : Data) (vs : List Value) (is : as_array d ≡ Some (items_view vs)) (low : l ≤ length vs) (high : length vs ≤ g) where
  fits : (if nat_le l (items_len (items_view vs)) && nat_le (items_len (items_view vs)) g then None else Some (OutOfRange (path_of Top key))) ≡ None
  fits = in_range l g (items_len (items_view vs)) None (Some (OutOfRange (path_of Top key))) (rw (items_len-view vs) low) (rw (items_len-view vs) high)

  entries_pass : {A : Type 0} (r : Result A FileFault) → OnOk r (Pass (entry_checks key 0 (items_view vs))) → OnOk r (Pass (array_checks l g key d))
  entries_pass (Ok ts) p = pass_equal _ _ (ap (items_checks l g key) is) (pass_cons _ _ fits p)
  entries_pass (Err e) p = tt

  entries_refused : {A : Type 0} (r : Result A FileFault) → IfErr r (IsRefusal (entry_checks key 0 (items_view vs))) → IfErr r (IsRefusal (array_checks l g key d))
  entries_refused (Ok ts) f = tt
  entries_refused (Err e) f = refusal_equal _ _ e (ap (items_checks l g key) is) (refused_later _ _ _ fits f)

pub returns-then-len-least-clause-fault : goal.returns-then-len-least-clause-fault
returns-then-len-least-clause-fault c =
    let is : as_array (view c.args.value.now) ≡ Some (items_view c.in-Some.entries.now.items) = sym c.in-Some.ensures in
    let out : (length c.in-Some.entries.now.items < c.args.least) ⊎ (c.args.greatest < length c.in-Some.entries.now.items) =
    elim c.then-len-least.branch [ then-len-least-via-then-len-least w ↦ inl (omega arith) | then-len-least-via-else-len-least+then-len-greatest w ↦ inr (omega arith) ] in
    too_many _ _ _ _ _ is out _ (rw c.requires at c.fault-then-len-least.ensures)

pub returns : goal.returns
returns c =
    let vs = c.in-Some.entries.now.items in
    let is : as_array (view c.args.value.now) ≡ Some (items_view vs) = sym c.in-Some.ensures in
    let same : c.deref.result.now ≡ vs = c.deref.ensures.value in
    let low : c.args.least ≤ length vs = omega arith in
    let high : length vs ≤ c.args.greatest = omega arith in
    record {
      pass = entries_pass c.args.least c.args.greatest c.args.key.now _ vs is low high _ (rw same at c.tables_of.ensures.pass);
      tables = rw is (rw same at c.tables_of.ensures.tables);
      fault = entries_refused c.args.least c.args.greatest c.args.key.now _ vs is low high _ (rw same at c.tables_of.ensures.fault);
    }
