-- Phase records as whole numbers.
use Rattle.std.specs.Prelude.{ℕ, List, [], ◌∷◌, ◌++◌}
use Rattle.sil_watch.specs.declared.record.PhaseRecord.{PhaseRecord}

-- the numbers of a record, in the order of its line
abbrev pub numbers_of : PhaseRecord → List ℕ
numbers_of r = r.index ∷ r.start ∷ r.hours ∷ r.mean.lo ∷ r.mean.hi ∷ r.at_end.lo ∷ r.at_end.hi ∷ []

abbrev pub numbers_of_all : List PhaseRecord → List ℕ
numbers_of_all [] = []
numbers_of_all (r ∷ rs) = numbers_of r ++ numbers_of_all rs
