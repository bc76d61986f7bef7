-- The places that are marked, their ranks, and columns over the ranks.
use Rattle.std.specs.Prelude.{◌≡◌, ℕ, Bool, true, ◌<◌, ◌≤◌, List, [], ◌∷◌, ◌++◌, length, slice_index, if◌then◌else◌}
use Rattle.product_chain.specs.declared.column.Entry.{Entry}
use Rattle.product_chain.specs.Columns.{AreParts, part}
use Rattle.place_chain.specs.Marks.{is_marked}

-- the marked numbers in their order; the rank of a marked number is its place among them
pub record ArePlaces (marks : List Bool) (places ranks : List ℕ) : Type 0 where
  pub rising : (k l : ℕ) → k < l → l < length places → slice_index places k < slice_index places l
  pub below : (k : ℕ) → k < length places → slice_index places k < length marks
  pub marked : (k : ℕ) → k < length places → is_marked marks (slice_index places k) ≡ true
  pub few : length places ≤ length marks
  pub ranked : (i : ℕ) → i < length marks → is_marked marks i ≡ true → slice_index ranks i < length places
  pub back : (i : ℕ) → i < length marks → is_marked marks i ≡ true → slice_index places (slice_index ranks i) ≡ i

-- the entries of marked sources, over their ranks
abbrev pub compacted : List Bool → List ℕ → List Entry → List Entry
compacted marks ranks [] = []
compacted marks ranks (e ∷ es) =
    (if is_marked marks e.source then record { source = slice_index ranks e.source; weight = e.weight } ∷ [] else []) ++ compacted marks ranks es

-- a column for each place
pub record AreCompact (marks : List Bool) (ranks places all_starts : List ℕ) (all : List Entry) (starts : List ℕ) (entries : List Entry) : Type 0 where
  pub parts : AreParts (length places) starts entries
  pub columns : (k : ℕ) → k < length places → part starts entries k ≡ compacted marks ranks (part all_starts all (slice_index places k))
