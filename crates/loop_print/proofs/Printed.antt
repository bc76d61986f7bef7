-- The values of a canonical table are read back as they were.
use Rattle.std.proofs.Common.{codes, ◌≡◌, inl, ℕ, ◌+◌, ◌-◌, ◌*◌, ◌^◌, ◌<◌, ◌≤◌, nat_le, true, List, [], ◌∷◌, ◌++◌, length, Ok, refl, sym, ap, ◌∙◌, arith, lit≤}
use Rattle.std.proofs.lemmas.Bool.Decides.{nat_tests}
use Rattle.std.proofs.lemmas.List.Elements.{All-from_get_or, All-nil, All-cons}
use Rattle.std.proofs.lemmas.Str.Parse.{digit_at}
use Rattle.std.proofs.lemmas.List.{append-nil}
use Rattle.std.proofs.lemmas.Fmt.{decimal_is_IsNumeral, length-decimal-le, decimal_digit}
use Rattle.std.specs.Char.{IsAsciiDigit}
use Rattle.std.specs.Fmt.{decimal}
use Rattle.std.specs.Str.Parse.{digits_value}
use Rattle.sil_model.specs.LoopValue.{IsWithin, IsVoteInRange}
use Rattle.sil_model.specs.declared.parts.InRepair.{InRepair}
use Rattle.sil_model.specs.declared.parts.InRepair.TheVariants.{Lost, Tripped}
use Rattle.sil_model.specs.declared.parts.Vote.{Vote}
use Rattle.sil_text.specs.Decimal.{Decimal, IsDecimal, AreExponentDigits, with_exponent, minus}
use Rattle.sil_text.specs.Parts.{reading_of, rate_of, thousandths_of, millionths_of}
use Rattle.sil_text.specs.Reading.{IsWritten}
use Rattle.sil_text.proofs.Readings.{reading_is}
use Rattle.toml.specs.Data.{string}
use Rattle.loop_print.specs.Canonical.{whole_number, rate_text, thousandths_text, millionths_text, vote_text, choice_bytes}
use Rattle.loop_file.specs.Readings.{whole_in, rate_in, thousandths_in, millionths_in, in_repair_in, vote_in, vote_of, or_bad_text}

-- Integers.

pub whole_read : (least greatest n : ℕ) → IsWithin least greatest n → whole_in least greatest (whole_number n) ≡ Ok n
whole_read least greatest n w =
    let low : nat_le least n ≡ true = let h = w.above in grind (arith, nat_tests) in
    let high : nat_le n greatest ≡ true = let h = w.below in grind (arith, nat_tests) in
    rw (low, high) refl

-- Decimals.

-- n, and the exponent -p
abbrev lowered : ℕ → List ℕ → Decimal
lowered n digits = record { whole = decimal n; fraction = []; exponent = with_exponent 69 minus digits }

lowered_is_decimal : (n : ℕ) (digits : List ℕ) → n < 10 ^ 20 → n < 2 ^ 64 → AreExponentDigits digits → IsDecimal (lowered n digits)
lowered_is_decimal n digits small fits exponent =
    let numeral = decimal_is_IsNumeral n fits in
    let long : length (decimal n) ≤ 20 = length-decimal-le 20 n (lit≤ tt) small fits in
    record {
      whole = All-from_get_or IsAsciiDigit (decimal n) 0 (λ k h. digit_at (decimal n) k numeral.0.1 h);
      fraction = All-nil IsAsciiDigit;
      some = numeral.0.0;
      few = omega arith;
      exponent = (inl refl, exponent);
    }

reading_back : (p greatest n : ℕ) (digits : List ℕ) → n ≤ greatest → greatest ≤ 10 ^ 9 → digits_value 10 digits ≡ p → AreExponentDigits digits → reading_of p greatest (decimal n ++ 69 ∷ 45 ∷ digits) ≡ Ok n
reading_back p greatest n digits low few value exponent =
    let fits : n < 2 ^ 64 = omega arith in
    let numeral = decimal_is_IsNumeral n fits in
    let d = lowered n digits in
    let written : IsWritten d (decimal n ++ 69 ∷ 45 ∷ digits) = record { decimal = lowered_is_decimal n digits (omega arith) fits exponent; text = refl } in
    let count : digits_value 10 (decimal n ++ []) * 10 ^ (0 + p) ≡ n * 10 ^ (digits_value 10 digits + 0) =
    ap (λ ds. digits_value 10 ds * 10 ^ (0 + p)) (append-nil (decimal n)) ∙ ap (λ m. m * 10 ^ (0 + p)) numeral.1
    ∙ ap (λ e. n * 10 ^ e) (let e : 0 + p ≡ digits_value 10 digits + 0 = omega (arith, value) in e) in
    sym (reading_is p greatest _ (Ok n) (d, written, (count, low)))

pub rate_read : (n : ℕ) → n ≤ 10 ^ 9 → rate_in (rate_text n) ≡ Ok n
unfolding rate_of
rate_read n h = ap or_bad_text (reading_back 12 (10 ^ 9) n (codes "12") h (lit≤ tt) refl (record { some = lit≤ tt; few = lit≤ tt; digits = All-cons IsAsciiDigit 49 (50 ∷ []) (lit≤ tt, lit≤ tt) (All-cons IsAsciiDigit 50 [] (lit≤ tt, lit≤ tt) (All-nil IsAsciiDigit)) }))

pub thousandths_read : (n : ℕ) → n ≤ 1000 → thousandths_in (thousandths_text n) ≡ Ok n
unfolding thousandths_of
thousandths_read n h = ap or_bad_text (reading_back 3 (10 ^ 3) n (codes "3") h (lit≤ tt) refl (record { some = lit≤ tt; few = lit≤ tt; digits = All-cons IsAsciiDigit 51 [] (lit≤ tt, lit≤ tt) (All-nil IsAsciiDigit) }))

pub millionths_read : (n : ℕ) → n ≤ 1_000_000 → millionths_in (millionths_text n) ≡ Ok n
unfolding millionths_of
millionths_read n h = ap or_bad_text (reading_back 6 (10 ^ 6) n (codes "6") h (lit≤ tt) refl (record { some = lit≤ tt; few = lit≤ tt; digits = All-cons IsAsciiDigit 54 [] (lit≤ tt, lit≤ tt) (All-nil IsAsciiDigit) }))

-- Words.

pub choice_read : (choice : InRepair) → in_repair_in (string (choice_bytes choice)) ≡ Ok choice
choice_read Lost = refl
choice_read Tripped = refl

-- Votes.

digits_read : (m n : ℕ) → 1 ≤ m → m ≤ n → n ≤ 8 → vote_of ((48 + m) ∷ 111 ∷ 111 ∷ (48 + n) ∷ []) ≡ Ok (record { m = m; n = n })
digits_read m n some suffice few =
    let a : nat_le 49 (48 + m) ≡ true = grind (arith, nat_tests) in
    let b : nat_le (48 + m) (48 + n) ≡ true = grind (arith, nat_tests) in
    let c : nat_le (48 + n) 56 ≡ true = grind (arith, nat_tests) in
    let d : 48 + m - 48 ≡ m = omega arith in
    let e : 48 + n - 48 ≡ n = omega arith in
    rw (a, b, c, d, e) refl

pub vote_read : (v : Vote) → IsVoteInRange v → vote_in (vote_text v) ≡ Ok v
vote_read v h =
    let some = h.some in
    let suffice = h.suffice in
    let few = h.few in
    ap (λ t. vote_of (t ++ (codes "oo" ++ decimal v.n))) (decimal_digit v.m (omega arith))
    ∙ ap (λ t. vote_of ((48 + v.m) ∷ 111 ∷ 111 ∷ t)) (decimal_digit v.n (omega arith))
    ∙ digits_read v.m v.n some suffice few
