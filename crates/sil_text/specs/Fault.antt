-- The words of a text's fault.
use Rattle.std.specs.Prelude.{ℕ, List, codes}
use Rattle.sil_text.specs.declared.fault.TextFault.{TextFault}
use Rattle.sil_text.specs.declared.fault.TextFault.TheVariants.{NotDecimal, TooFine, TooLarge, NotName, NotChoice}

-- what is wrong with a text
abbrev pub text_fault_of : TextFault → List ℕ
text_fault_of NotDecimal = codes "not a decimal"
text_fault_of TooFine = codes "too fine"
text_fault_of TooLarge = codes "too large"
text_fault_of NotName = codes "not a name"
text_fault_of NotChoice = codes "not a choice"
