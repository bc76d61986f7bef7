-- Counts of several groups, and the move of all their channels that work.
use Rattle.std.specs.Prelude.{ℕ, zero, suc, ◌+◌, List}
use Rattle.sil_model.specs.Counts.{count_in, moved_in}
use Rattle.sil_model.specs.declared.parts.Chan.{Chan}
use Rattle.sil_model.specs.declared.parts.Chan.TheVariants.{Work}

-- how many channels of the n groups from the number g on are in a state
abbrev pub sum_in : List ℕ → ℕ → ℕ → Chan → ℕ
sum_in cs g zero k = 0
sum_in cs g (suc n) k = count_in cs g k + sum_in cs (suc g) n k

-- all channels of the n groups from the number g on that work go to a state
abbrev pub moved_together : ℕ → ℕ → Chan → List ℕ → List ℕ
moved_together g zero to cs = cs
moved_together g (suc n) to cs = moved_together (suc g) n to (moved_in cs g Work to (count_in cs g Work))
