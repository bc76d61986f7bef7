-- Decimals: their grammar, as the parts that a text is written from, and their value.
use Rattle.std.specs.Prelude.{◌≡◌, ◌⊎◌, ℕ, ◌+◌, ◌*◌, ◌^◌, ◌≤◌, List, [], ◌∷◌, ◌++◌, length, All}
use Rattle.std.specs.Char.{IsAsciiDigit}
use Rattle.std.specs.Str.Parse.{digits_value}

-- the sign of an exponent, as it is written
pub data Sign : Type 0 where
  unsigned : Sign
  plus : Sign
  minus : Sign

-- what may stand behind the digits: nothing, or a letter, a sign and digits
pub data Exponent : Type 0 where
  no_exponent : Exponent
  with_exponent : ℕ → Sign → List ℕ → Exponent

-- the parts of a decimal: the digits before the point, those after it, none where there is no point, and the exponent
pub record Decimal : Type 0 where
  pub whole : List ℕ
  pub fraction : List ℕ
  pub exponent : Exponent

-- The grammar.

-- one to three digits
pub record AreExponentDigits (bytes : List ℕ) : Type 0 where
  pub some : 1 ≤ length bytes
  pub few : length bytes ≤ 3
  pub digits : All IsAsciiDigit bytes

-- the letter is E or e
abbrev pub IsExponent : Exponent → Type 0
IsExponent no_exponent = Unit {0}
IsExponent (with_exponent letter sign digits) =
    ((letter ≡ 69) ⊎ (letter ≡ 101)) × AreExponentDigits digits

-- a digit or more before the point, and at most 24 before the exponent
pub record IsDecimal (d : Decimal) : Type 0 where
  pub whole : All IsAsciiDigit d.whole
  pub fraction : All IsAsciiDigit d.fraction
  pub some : 1 ≤ length d.whole
  pub few : length d.whole + length d.fraction ≤ 24
  pub exponent : IsExponent d.exponent

abbrev pub fraction_text : List ℕ → List ℕ
fraction_text [] = []
fraction_text (digit ∷ digits) = 46 ∷ digit ∷ digits

abbrev pub sign_text : Sign → List ℕ
sign_text unsigned = []
sign_text plus = 43 ∷ []
sign_text minus = 45 ∷ []

abbrev pub exponent_text : Exponent → List ℕ
exponent_text no_exponent = []
exponent_text (with_exponent letter sign digits) = letter ∷ (sign_text sign ++ digits)

-- the text of the parts
abbrev pub text_of : Decimal → List ℕ
text_of d = d.whole ++ (fraction_text d.fraction ++ exponent_text d.exponent)

-- The value: the number that all digits write, times ten to the power of the exponent, divided by ten for each digit after
-- the point.

abbrev pub number_of : Decimal → ℕ
number_of d = digits_value 10 (d.whole ++ d.fraction)

-- the powers of ten that an exponent multiplies by, and divides by
abbrev pub raised_by : Exponent → ℕ
raised_by no_exponent = 0
raised_by (with_exponent letter unsigned digits) = digits_value 10 digits
raised_by (with_exponent letter plus digits) = digits_value 10 digits
raised_by (with_exponent letter minus digits) = 0

abbrev pub lowered_by : Exponent → ℕ
lowered_by no_exponent = 0
lowered_by (with_exponent letter unsigned digits) = 0
lowered_by (with_exponent letter plus digits) = 0
lowered_by (with_exponent letter minus digits) = digits_value 10 digits

-- the value is dividend / divisor units of 10^-places
abbrev pub dividend_of : ℕ → Decimal → ℕ
dividend_of places d = number_of d * 10 ^ (raised_by d.exponent + places)

abbrev pub divisor_of : Decimal → ℕ
divisor_of d = 10 ^ (lowered_by d.exponent + length d.fraction)
