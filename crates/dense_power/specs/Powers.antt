-- The end matrix and the dwell sum of a number of beats.
use Rattle.std.specs.Prelude.{◌≡◌, ℕ, ◌+◌, ◌-◌, ◌*◌, ◌/◌, ◌^◌, ◌<◌}
use Rattle.vector_laws.specs.Matrix.{Matrix, entry_of, product_of, IsProductDown}

-- how much a row of the end matrix of so many beats lacks at most, where a row of one beat lacks at most r
abbrev pub end_lack_of : ℕ → ℕ → ℕ → ℕ
end_lack_of size r beats = beats * (r + size)

-- the same of the dwell sum, where a row of the mean of one beat lacks at most d
abbrev pub dwell_lack_of : ℕ → ℕ → ℕ → ℕ → ℕ
dwell_lack_of size r d beats = beats * d + (beats - 1) * (end_lack_of size r beats + size)

-- the end matrix and the dwell sum of the beats of a pair, followed by those of a second pair
pub record IsJoined (first_end first_dwell second_end second_dwell end dwell : Matrix) : Type 0 where
  pub end_size : end.size ≡ first_end.size
  pub dwell_size : dwell.size ≡ first_end.size
  pub ends : IsProductDown first_end second_end end
  pub dwells : (i j : ℕ) → i < first_end.size → j < first_end.size → entry_of dwell i j
      ≡ entry_of first_dwell i j + product_of first_end second_dwell i j / 2 ^ 48
