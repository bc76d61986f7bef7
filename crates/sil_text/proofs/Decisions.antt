-- The tests of the parts decide the grammar.
use Rattle.std.proofs.Common.{◌≡◌, ℕ, ◌+◌, ◌≤◌, true, leb, List, length, refl, arith, All, Decides}
use Rattle.std.specs.Char.{IsAsciiDigit, is_ascii_digit}
use Rattle.std.specs.List.{list_all}
use Rattle.std.proofs.lemmas.Bool.Decides.{Decides-and, Decides-or, Decides-eqb, Decides-like, nat_tests}
use Rattle.std.proofs.lemmas.List.Sums.{AllPass-from_list_all, list_all-from_AllPass}
use Rattle.std.proofs.lemmas.List.Elements.{All-weaker}
use Rattle.sil_text.specs.Decimal.{Exponent, no_exponent, with_exponent, Decimal, IsExponent, IsDecimal}
use Rattle.sil_text.specs.Parts.{is_exponent, is_decimal}

pub decides_le : (a b : ℕ) → Decides (leb a b) (a ≤ b)
decides_le a b = (λ e. grind (arith, nat_tests), λ h. grind (arith, nat_tests))

decides_digits : (ds : List ℕ) → Decides (list_all is_ascii_digit ds) (All IsAsciiDigit ds)
decides_digits ds = (
  λ e. All-weaker (λ c. is_ascii_digit c ≡ true) IsAsciiDigit (λ c h. grind (arith, nat_tests)) ds (AllPass-from_list_all is_ascii_digit ds e),
  λ h. list_all-from_AllPass is_ascii_digit ds (All-weaker IsAsciiDigit (λ c. is_ascii_digit c ≡ true) (λ c g. grind (arith, nat_tests)) ds h),
)

pub decides_exponent : (e : Exponent) → Decides (is_exponent e) (IsExponent e)
unfolding is_exponent
decides_exponent no_exponent = (λ _. tt, λ _. refl)
decides_exponent (with_exponent letter sign digits) =
    Decides-like _
    (λ h. (h.0.0.0, record { some = h.0.0.1; few = h.0.1; digits = h.1 }))
    (λ h. (((h.0, h.1.some), h.1.few), h.1.digits))
    (Decides-and _ _ (Decides-and _ _ (Decides-and _ _ (Decides-or _ _ (Decides-eqb letter 69) (Decides-eqb letter 101)) (decides_le 1 (length digits))) (decides_le (length digits) 3)) (decides_digits digits))

pub decides_decimal : (d : Decimal) → Decides (is_decimal d) (IsDecimal d)
unfolding is_decimal
decides_decimal d =
    Decides-like _
    (λ h. record { whole = h.0.0.0.0; fraction = h.0.0.0.1; some = h.0.0.1; few = h.0.1; exponent = h.1 })
    (λ h. ((((h.whole, h.fraction), h.some), h.few), h.exponent))
    (Decides-and _ _ (Decides-and _ _ (Decides-and _ _ (Decides-and _ _ (decides_digits d.whole) (decides_digits d.fraction)) (decides_le 1 (length d.whole))) (decides_le (length d.whole + length d.fraction) 24)) (decides_exponent d.exponent))
