-- Sums over the means of a mission.
use Rattle.std.specs.Prelude.{ℕ, ◌*◌, Bool, false, List, length, slice_index, slice_index_or, if◌then◌else◌}
use Rattle.sil_fraction.specs.Sum.{sum_below}

-- how much is where the loop is down, and where it is up
abbrev pub sum_down : List Bool → List ℕ → ℕ
sum_down up means = sum_below (length means) (λ i. if slice_index_or up i false then 0 else slice_index means i)

abbrev pub sum_up : List Bool → List ℕ → ℕ
sum_up up means = sum_below (length means) (λ i. if slice_index_or up i false then slice_index means i else 0)

-- each mean times the rate there
abbrev pub entries_of : List ℕ → List ℕ → ℕ
entries_of rates means = sum_below (length means) (λ i. slice_index means i * slice_index rates i)
