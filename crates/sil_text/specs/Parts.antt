-- The answers as functions of the text: the text is cut into parts, and these are a decimal or not.
use Rattle.std.specs.Prelude.{ℕ, ◌/◌, ◌%◌, ◌+◌, ◌^◌, Bool, true, ◌&&◌, ◌||◌, not, ◌==◌, nat_le, if◌then◌else◌, List, [], ◌∷◌, length, drop, Result, Ok, Err}
use Rattle.std.specs.Char.{is_ascii_digit}
use Rattle.std.specs.List.{before_first, position_or_len, list_all}
use Rattle.sil_text.specs.declared.fault.TextFault.{TextFault}
use Rattle.sil_text.specs.declared.fault.TextFault.TheVariants.{NotDecimal, TooFine, TooLarge}
use Rattle.sil_text.specs.Decimal.{Sign, unsigned, plus, minus, Exponent, no_exponent, with_exponent, Decimal, fraction_text, sign_text, dividend_of, divisor_of}

abbrev pub is_no_digit : ℕ → Bool
is_no_digit byte = not (is_ascii_digit byte)

-- the digits that a text begins with, and what follows them
unfoldable pub leading_digits : List ℕ → List ℕ
leading_digits text = before_first is_no_digit text

unfoldable pub after_digits : List ℕ → List ℕ
after_digits text = drop (position_or_len is_no_digit text) text

-- the digits after the point that a text begins with, and what follows them
unfoldable pub fraction_of : List ℕ → List ℕ
fraction_of [] = []
fraction_of (byte ∷ bytes) = if byte == 46 then leading_digits bytes else []

unfoldable pub after_fraction : List ℕ → List ℕ
after_fraction text = drop (length (fraction_text (fraction_of text))) text

-- the sign that a text begins with, and what follows it
unfoldable pub sign_of : List ℕ → Sign
sign_of [] = unsigned
sign_of (byte ∷ bytes) = if byte == 43 then plus else (if byte == 45 then minus else unsigned)

unfoldable pub after_sign : List ℕ → List ℕ
after_sign text = drop (length (sign_text (sign_of text))) text

-- a letter, a sign and the rest
unfoldable pub exponent_of : List ℕ → Exponent
exponent_of [] = no_exponent
exponent_of (letter ∷ bytes) = with_exponent letter (sign_of bytes) (after_sign bytes)

-- the parts of a text
unfoldable pub parts_of : List ℕ → Decimal
parts_of text =
    let rest = after_digits text in
    record { whole = leading_digits text; fraction = fraction_of rest; exponent = exponent_of (after_fraction rest) }

unfoldable pub is_exponent : Exponent → Bool
is_exponent no_exponent = true
is_exponent (with_exponent letter sign digits) =
    (letter == 69 || letter == 101) && nat_le 1 (length digits) && nat_le (length digits) 3 && list_all is_ascii_digit digits

unfoldable pub is_decimal : Decimal → Bool
is_decimal d =
    list_all is_ascii_digit d.whole && list_all is_ascii_digit d.fraction && nat_le 1 (length d.whole)
    && nat_le (length d.whole + length d.fraction) 24 && is_exponent d.exponent

-- dividend / divisor units, where at most `greatest` are allowed
unfoldable pub count_of : ℕ → ℕ → ℕ → Result ℕ TextFault
count_of dividend divisor greatest =
    if dividend % divisor == 0
    then (if nat_le (dividend / divisor) greatest then Ok (dividend / divisor) else Err TooLarge)
    else Err TooFine

-- the answer of a reader of units of 10^-places, of which `greatest` are allowed
unfoldable pub reading_of : ℕ → ℕ → List ℕ → Result ℕ TextFault
reading_of places greatest text =
    let d = parts_of text in
    if is_decimal d then count_of (dividend_of places d) (divisor_of d) greatest else Err NotDecimal

-- the rate in units of 10^-12 per hour, and a share in thousandths and in millionths
unfoldable pub rate_of : List ℕ → Result ℕ TextFault
rate_of text = reading_of 12 (10 ^ 9) text

unfoldable pub thousandths_of : List ℕ → Result ℕ TextFault
thousandths_of text = reading_of 3 (10 ^ 3) text

unfoldable pub millionths_of : List ℕ → Result ℕ TextFault
millionths_of text = reading_of 6 (10 ^ 6) text
