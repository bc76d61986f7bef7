-- Which bands show that a safety integrity level is met.
use Rattle.std.specs.Prelude.{ℕ, Bool, true, false, nat_le}
use Rattle.sil_model.specs.declared.answers.Band.{Band}
use Rattle.sil_model.specs.declared.answers.Band.TheVariants.{Beyond4, Sil4, Sil3, Sil2, Sil1, NoSil, Undecided}

-- that of the level, and each better one
abbrev pub meets_of : Band → ℕ → Bool
meets_of Beyond4 need = true
meets_of Sil4 need = nat_le need 4
meets_of Sil3 need = nat_le need 3
meets_of Sil2 need = nat_le need 2
meets_of Sil1 need = nat_le need 1
meets_of NoSil need = false
meets_of Undecided need = false
