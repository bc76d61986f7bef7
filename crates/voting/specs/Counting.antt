-- How many channels count as working, by the counts.
use Rattle.std.specs.Prelude.{ℕ, ◌+◌, List}
use Rattle.sil_model.specs.declared.parts.Chan.TheVariants.{Work, Repair}
use Rattle.sil_model.specs.declared.parts.InRepair.{InRepair}
use Rattle.sil_model.specs.declared.parts.InRepair.TheVariants.{Lost, Tripped}
use Rattle.channel_counts.specs.GroupSums.{sum_in}

-- of the n groups from the number g on
abbrev pub counting_in : InRepair → List ℕ → ℕ → ℕ → ℕ
counting_in Lost cs g n = sum_in cs g n Work
counting_in Tripped cs g n = sum_in cs g n Work + sum_in cs g n Repair
