-- Marked numbers, and when they are closed: no entry leads from a marked number to one that is not.
use Rattle.std.specs.Prelude.{◌≡◌, ℕ, Bool, true, false, ◌<◌, List, length, slice_index_or, sum_by, if◌then◌else◌, All}
use Rattle.product_chain.specs.declared.column.Entry.{Entry}
use Rattle.product_chain.specs.Columns.{part}

abbrev pub is_marked : List Bool → ℕ → Bool
is_marked marks i = slice_index_or marks i false

-- how many are not marked
abbrev pub left_over : List Bool → ℕ
left_over marks = sum_by (λ b. if b then 0 else 1) marks

pub record IsClosed (n : ℕ) (starts : List ℕ) (entries : List Entry) (marks : List Bool) : Type 0 where
  pub closed : (j : ℕ) → j < n → is_marked marks j ≡ false → All (λ e. is_marked marks e.source ≡ false) (part starts entries j)

-- a property of numbers that each entry passes on from its source to its target
abbrev pub IsPassedOn : ℕ → List ℕ → List Entry → (ℕ → Bool) → Type 0
IsPassedOn n starts entries P = (j : ℕ) → j < n → (k : ℕ) (d : Entry) → k < length (part starts entries j)
    → P (slice_index_or (part starts entries j) k d).source ≡ true → P j ≡ true

-- marks that were made for need alone: what the first ones have and entries pass on, all have
abbrev pub AreNeeded : ℕ → List ℕ → List Entry → List Bool → List Bool → Type 0
AreNeeded n starts entries before marks = (P : ℕ → Bool) → IsPassedOn n starts entries P → ((i : ℕ) → is_marked before i ≡ true → P i ≡ true)
    → (i : ℕ) → is_marked marks i ≡ true → P i ≡ true
