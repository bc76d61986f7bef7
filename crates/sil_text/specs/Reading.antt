-- What a reader of decimals answers.
use Rattle.std.specs.Prelude.{◌≡◌, ◌≢◌, ℕ, ◌*◌, ◌<◌, ◌≤◌, List, Result, Ok, Err}
use Rattle.sil_text.specs.declared.fault.TextFault.{TextFault}
use Rattle.sil_text.specs.declared.fault.TextFault.TheVariants.{NotDecimal, TooFine, TooLarge, NotName, NotChoice}
use Rattle.sil_text.specs.Decimal.{Decimal, IsDecimal, text_of, dividend_of, divisor_of}

-- d is a decimal that is written so
pub record IsWritten (d : Decimal) (bytes : List ℕ) : Type 0 where
  pub decimal : IsDecimal d
  pub text : text_of d ≡ bytes

-- what dividend / divisor units are, where at most `greatest` are allowed
abbrev pub IsCount : ℕ → ℕ → ℕ → Result ℕ TextFault → Type 0
IsCount dividend divisor greatest (Ok units) = (dividend ≡ units * divisor) × (units ≤ greatest)
IsCount dividend divisor greatest (Err NotDecimal) = ⊥
IsCount dividend divisor greatest (Err TooFine) = (units : ℕ) → dividend ≢ units * divisor
IsCount dividend divisor greatest (Err TooLarge) =
    (units : ℕ) × (dividend ≡ units * divisor) × (greatest < units)
IsCount dividend divisor greatest (Err NotName) = ⊥
IsCount dividend divisor greatest (Err NotChoice) = ⊥

-- no decimal is written so
abbrev pub IsNoDecimal : List ℕ → Type 0
IsNoDecimal text = (d : Decimal) → ¬ IsWritten d text

-- the text is that of a decimal, and these are its units of 10^-places
abbrev pub IsCountOf : ℕ → ℕ → List ℕ → Result ℕ TextFault → Type 0
IsCountOf places greatest text answer =
    (d : Decimal) × IsWritten d text × IsCount (dividend_of places d) (divisor_of d) greatest answer

-- what a reader of units of 10^-places, of which `greatest` are allowed, answers
abbrev pub IsReading : ℕ → ℕ → List ℕ → Result ℕ TextFault → Type 0
IsReading places greatest text (Ok units) = IsCountOf places greatest text (Ok units)
IsReading places greatest text (Err NotDecimal) = IsNoDecimal text
IsReading places greatest text (Err TooFine) = IsCountOf places greatest text (Err TooFine)
IsReading places greatest text (Err TooLarge) = IsCountOf places greatest text (Err TooLarge)
IsReading places greatest text (Err NotName) = ⊥
IsReading places greatest text (Err NotChoice) = ⊥
