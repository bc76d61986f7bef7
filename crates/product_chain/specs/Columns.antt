-- The columns of a chain: for each count vector, from which it is reached and with what weight.
use Rattle.std.specs.Prelude.{◌≡◌, ℕ, ◌+◌, ◌-◌, ◌*◌, ◌^◌, ◌<◌, ◌≤◌, List, [], ◌∷◌, ◌++◌, length, slice_index, slice_index_or, slice_range, sum_by, if◌then◌else◌, nat_lt, ◌==◌, All}
use Rattle.sil_model.specs.Sizes.{most_states}
use Rattle.product_chain.specs.declared.moves.Move.{Move}
use Rattle.product_chain.specs.declared.moves.TickRate.{TickRate}
use Rattle.product_chain.specs.declared.column.Entry.{Entry}
use Rattle.product_chain.specs.declared.step.Step.{Step}
use Rattle.product_chain.specs.Steps.{scale, down_of, up_of}

abbrev pub no_rate : TickRate
no_rate = record { num = 0; den = 0; down = 0; up = 0 }

-- the quotient of a rate
abbrev pub quotient : TickRate → ℕ × ℕ
quotient r = (r.num, r.den)

module _ (rates : List TickRate) where
  abbrev pub rate_of : Move → TickRate
  rate_of m = slice_index_or rates m.rate no_rate

  -- the step that a move stands for
  abbrev pub step_of_move : Move → Step
  step_of_move m = record { source = m.source; target = m.target; num = (rate_of m).num; den = (rate_of m).den }

  -- what stays at a count vector
  abbrev pub stay_of : List Move → ℕ → ℕ
  stay_of ms i = scale - sum_by (λ (m : Move). if m.source == i then (rate_of m).up else 0) ms

-- a rate with its chances in a tick
abbrev pub timed : ℕ → ℕ → TickRate → TickRate
timed hours beats r = record { num = r.num; den = r.den; down = down_of hours beats r.num r.den; up = up_of hours beats r.num r.den }

-- an entry is kept where it has a weight
abbrev pub kept : ℕ → ℕ → List Entry
kept source weight = if nat_lt 0 weight then record { source = source; weight = weight } ∷ [] else []

-- the entries of some moves
abbrev pub entries_of : List TickRate → List Move → List Entry
entries_of rates [] = []
entries_of rates (m ∷ ms) = kept m.source (rate_of rates m).down ++ entries_of rates ms

-- the part of the number j of a list of parts that lie together
abbrev pub part : {A : Type 0} → List ℕ → List A → ℕ → List A
part starts xs j = slice_range xs (slice_index starts j) (slice_index starts (j + 1))

-- n parts, one after another, that make up the list
pub record AreParts {A : Type 0} (n : ℕ) (starts : List ℕ) (xs : List A) : Type 0 where
  pub number : length starts ≡ n + 1
  pub first : slice_index starts 0 ≡ 0
  pub rising : (j : ℕ) → j < n → slice_index starts j ≤ slice_index starts (j + 1)
  pub last : slice_index starts n ≡ length xs

-- what a vector gives to the entries of a column
abbrev pub given : (ℕ → ℕ) → List Entry → ℕ
given v es = sum_by (λ (e : Entry). e.weight * v e.source) es

-- columns for n numbers, whose entries ask for m numbers
pub record AreWeighted (n m : ℕ) (starts : List ℕ) (entries : List Entry) : Type 0 where
  pub parts : AreParts n starts entries
  pub few : (j : ℕ) → j < n → length (part starts entries j) ≤ most_states + 1
  pub sources : (j : ℕ) → j < n → All (λ e. e.source < m) (part starts entries j)
  pub weights : (j : ℕ) → j < n → All (λ e. e.weight ≤ 2 ^ 48) (part starts entries j)
