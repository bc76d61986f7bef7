-- What a scan of a text's pieces tells of its parts.
use Rattle.std.proofs.Common.{◌≡◌, ◌≢◌, ◌⊎◌, ℕ, suc, ◌+◌, ◌<◌, ◌≤◌, true, false, cond, eqb, List, [], ◌∷◌, ◌++◌, length, get_or, drop, Option, Some, None, IfSome, IfNone, refl, sym, ap, ◌∙◌, subst, inl, inr, arith, All}
use Rattle.std.specs.Char.{IsAsciiDigit}
use Rattle.std.specs.Str.Parse.{digits_value, digits_value_after}
use Rattle.std.proofs.lemmas.Bool.{cases_eq}
use Rattle.std.proofs.lemmas.Bool.Decides.{nat_tests}
use Rattle.std.proofs.lemmas.List.{drop_at, nil_from_length}
use Rattle.std.proofs.lemmas.List.Elements.{All-nil}
use Rattle.sil_text.specs.declared.scan.Powers.{Powers}
use Rattle.sil_text.specs.Decimal.{Sign, unsigned, plus, minus, Exponent, no_exponent, with_exponent, AreExponentDigits, IsExponent, IsDecimal, fraction_text, sign_text, lowered_by}
use Rattle.sil_text.specs.Parts.{leading_digits, after_digits, fraction_of, after_fraction, sign_of, after_sign, exponent_of, parts_of}
use Rattle.sil_text.specs.Values.{ArePowersOf, IsValueOf}
use Rattle.sil_text.proofs.DigitRuns.{leading_are_digits, leading-after, digits_value_append}

-- A text that begins with a point, and one that does not.
pub fraction_at_point : (text after : List ℕ) → 1 ≤ length text → get_or text 0 0 ≡ 46 → after ≡ drop 1 text → fraction_of text ≡ leading_digits after
unfolding fraction_of
fraction_at_point [] after some first e = absurd (omega arith)
fraction_at_point (b ∷ bs) after some first e =
    let point : eqb b 46 ≡ true = grind (arith, nat_tests) in
    rw point (ap leading_digits (sym e))

pub fraction_elsewhere : (text : List ℕ) → (1 ≤ length text → get_or text 0 0 ≢ 46) → fraction_of text ≡ []
unfolding fraction_of
fraction_elsewhere [] other = refl
fraction_elsewhere (b ∷ bs) other =
    let ne : b ≢ 46 = other (omega arith) in
    let no_point : eqb b 46 ≡ false = grind (arith, nat_tests) in
    rw no_point refl

pub after_fraction_elsewhere : (text : List ℕ) → fraction_of text ≡ [] → after_fraction text ≡ text
unfolding after_fraction
after_fraction_elsewhere text none = ap (λ f. drop (length (fraction_text f)) text) none

pub fraction_are_digits : (text : List ℕ) → All IsAsciiDigit (fraction_of text)
unfolding fraction_of
fraction_are_digits [] = All-nil IsAsciiDigit
fraction_are_digits (b ∷ bs) =
    let Digits : List ℕ → Type 0 = λ ds. All IsAsciiDigit ds in
    elim (cases_eq b 46) [
      | inl point ↦ let test : eqb b 46 ≡ true = grind (arith, nat_tests) in rw test (leading_are_digits bs)
      | inr other ↦ let test : eqb b 46 ≡ false = grind (arith, nat_tests) in rw test (All-nil IsAsciiDigit)
    ]

-- An exponent begins with the letter.
pub exponent_at_letter : (text : List ℕ) → 1 ≤ length text → exponent_of text ≡ with_exponent (get_or text 0 0) (sign_of (drop 1 text)) (after_sign (drop 1 text))
unfolding exponent_of
exponent_at_letter [] some = absurd (omega arith)
exponent_at_letter (b ∷ bs) some = refl

pub no_letter : (text : List ℕ) → 1 ≤ length text → get_or text 0 0 ≢ 69 → get_or text 0 0 ≢ 101 → ¬ IsExponent (exponent_of text)
no_letter text some capital small h =
    let letter : (get_or text 0 0 ≡ 69) ⊎ (get_or text 0 0 ≡ 101) = (subst IsExponent (exponent_at_letter text some) h).0 in
    elim letter [ inl e ↦ capital e | inr e ↦ small e ]

pub no_text : (text : List ℕ) → length text < 1 → exponent_of text ≡ no_exponent
unfolding exponent_of
no_text [] none = refl
no_text (b ∷ bs) none = absurd (omega arith)

-- A point without a digit is no exponent.
pub point_alone : (text after : List ℕ) → 1 ≤ length text → get_or text 0 0 ≡ 46 → after ≡ drop 1 text → length (leading_digits after) ≡ 0 → ¬ IsExponent (exponent_of (after_fraction text))
point_alone text after some first e none =
    let no_digits : fraction_of text ≡ [] = fraction_at_point text after some first e ∙ nil_from_length _ none in
    let No : List ℕ → Type 0 = λ t. ¬ IsExponent (exponent_of t) in
    subst No (sym (after_fraction_elsewhere text no_digits)) (no_letter text some (omega arith) (omega arith))

fraction_text_length : (f : List ℕ) → 0 < length f → length (fraction_text f) ≡ suc (length f)
fraction_text_length [] some = absurd (omega arith)
fraction_text_length (d ∷ ds) some = refl

pub after_fraction_at_point : (text after : List ℕ) → 1 ≤ length text → get_or text 0 0 ≡ 46 → after ≡ drop 1 text → 0 < length (leading_digits after) → after_fraction text ≡ after_digits after
unfolding after_fraction
after_fraction_at_point [] after some first e digits = absurd (omega arith)
after_fraction_at_point (b ∷ bs) after some first e digits =
    let f = leading_digits after in
    ap (λ g. drop (length (fraction_text g)) (b ∷ bs)) (fraction_at_point (b ∷ bs) after some first e)
    ∙ ap (λ n. drop n (b ∷ bs)) (fraction_text_length f digits)
    ∙ ap (λ t. drop (length f) t) (sym e ∙ sym (leading-after after))
    ∙ drop_at f (after_digits after) (length f) refl

-- The sign that a text begins with.
pub sign_at : (text : List ℕ) (byte : ℕ) → 1 ≤ length text → get_or text 0 0 ≡ byte → sign_of text ≡ cond (eqb byte 43) plus (cond (eqb byte 45) minus unsigned)
unfolding sign_of
sign_at [] byte some first = absurd (omega arith)
sign_at (b ∷ bs) byte some first = ap (λ c. cond (eqb c 43) plus (cond (eqb c 45) minus unsigned)) first

pub sign_elsewhere : (text : List ℕ) → (1 ≤ length text → get_or text 0 0 ≢ 43) → (1 ≤ length text → get_or text 0 0 ≢ 45) → sign_of text ≡ unsigned
unfolding sign_of
sign_elsewhere [] no_plus no_minus = refl
sign_elsewhere (b ∷ bs) no_plus no_minus =
    let ne : b ≢ 43 = no_plus (omega arith) in
    let ne' : b ≢ 45 = no_minus (omega arith) in
    let p : eqb b 43 ≡ false = grind (arith, nat_tests) in
    let m : eqb b 45 ≡ false = grind (arith, nat_tests) in
    rw (p, m) refl

pub after_sign_at : (text : List ℕ) (sign : Sign) → sign_of text ≡ sign → after_sign text ≡ drop (length (sign_text sign)) text
unfolding after_sign
after_sign_at text sign e = ap (λ s. drop (length (sign_text s)) text) e

-- The powers of ten, by the sign.
pub powers_of_minus : (letter power : ℕ) (sign : Sign) (ds : List ℕ) → sign ≡ minus → power ≡ digits_value 10 ds → power < 1000 → ArePowersOf (record { raised = 0; lowered = power }) (with_exponent letter sign ds)
powers_of_minus letter power unsigned ds e value small = absurd (cc)
powers_of_minus letter power plus ds e value small = absurd (cc)
powers_of_minus letter power minus ds e value small = record { raised = refl; lowered = value; raised_small = omega arith; lowered_small = small }

pub powers_of_others : (letter power : ℕ) (sign : Sign) (ds : List ℕ) → sign ≢ minus → power ≡ digits_value 10 ds → power < 1000 → ArePowersOf (record { raised = power; lowered = 0 }) (with_exponent letter sign ds)
powers_of_others letter power unsigned ds e value small = record { raised = value; lowered = refl; raised_small = small; lowered_small = omega arith }
powers_of_others letter power plus ds e value small = record { raised = value; lowered = refl; raised_small = small; lowered_small = omega arith }
powers_of_others letter power minus ds e value small = absurd (e refl)

exponent_behind : (text signed : List ℕ) → 1 ≤ length text → signed ≡ drop 1 text → exponent_of text ≡ with_exponent (get_or text 0 0) (sign_of signed) (after_sign signed)
exponent_behind text signed some e = exponent_at_letter text some ∙ ap (λ t. with_exponent (get_or text 0 0) (sign_of t) (after_sign t)) (sym e)

pub exponent_from_powers : (text signed : List ℕ) (r : Option Powers) → 1 ≤ length text → signed ≡ drop 1 text → (get_or text 0 0 ≡ 69) ⊎ (get_or text 0 0 ≡ 101)
    → IfSome r (λ powers. AreExponentDigits (after_sign signed) × ((letter : ℕ) → ArePowersOf powers (with_exponent letter (sign_of signed) (after_sign signed))))
    → IfSome r (λ powers. IsExponent (exponent_of text) × ArePowersOf powers (exponent_of text))
exponent_from_powers text signed None some e letter h = tt
exponent_from_powers text signed (Some powers) some e letter h =
    let Both : Exponent → Type 0 = λ x. IsExponent x × ArePowersOf powers x in
    subst Both (sym (exponent_behind text signed some e)) ((letter, h.0), h.1 (get_or text 0 0))

pub no_exponent_from_powers : (text signed : List ℕ) (r : Option Powers) → 1 ≤ length text → signed ≡ drop 1 text
    → IfNone r (¬ AreExponentDigits (after_sign signed)) → IfNone r (¬ IsExponent (exponent_of text))
no_exponent_from_powers text signed None some e h = λ is. h (subst IsExponent (exponent_behind text signed some e) is).1
no_exponent_from_powers text signed (Some powers) some e h = tt

-- The whole text.
pub decimal_from_scan : (text : List ℕ) → 1 ≤ length (leading_digits text) → length (leading_digits text) + length (fraction_of (after_digits text)) ≤ 24 → IsExponent (exponent_of (after_fraction (after_digits text))) → IsDecimal (parts_of text)
unfolding parts_of
decimal_from_scan text some few exponent = record { whole = leading_are_digits text; fraction = fraction_are_digits (after_digits text); some = some; few = few; exponent = exponent }

pub no_decimal_from_exponent : (text : List ℕ) → ¬ IsExponent (exponent_of (after_fraction (after_digits text))) → ¬ IsDecimal (parts_of text)
unfolding parts_of
no_decimal_from_exponent text none h = none h.exponent

pub no_decimal_from_lengths : (text : List ℕ) → (1 ≤ length (leading_digits text) → length (leading_digits text) + length (fraction_of (after_digits text)) ≤ 24 → ⊥) → ¬ IsDecimal (parts_of text)
unfolding parts_of
no_decimal_from_lengths text none h = none h.some h.few

pub value_from_scan : (text whole fraction : List ℕ) (powers : Powers) (first number : ℕ) → whole ≡ leading_digits text → fraction ≡ fraction_of (after_digits text)
    → first ≡ digits_value_after 10 0 whole → number ≡ digits_value_after 10 first fraction
    → ArePowersOf powers (exponent_of (after_fraction (after_digits text)))
    → IsValueOf (record { number = number; raised = powers.raised; lowered = powers.lowered + length fraction }) (parts_of text)
unfolding parts_of
value_from_scan text whole fraction powers first number w f one both h = record {
  number = both ∙ ap (λ n. digits_value_after 10 n fraction) one ∙ sym (digits_value_append 0 whole fraction) ∙ ap (λ ds. digits_value 10 (ds ++ fraction)) w
      ∙ ap (λ ds. digits_value 10 (leading_digits text ++ ds)) f;
  raised = h.raised;
  lowered = ap (λ n. n + length fraction) h.lowered ∙ ap (λ ds. lowered_by (exponent_of (after_fraction (after_digits text))) + length ds) f;
  raised_small = h.raised_small;
}
