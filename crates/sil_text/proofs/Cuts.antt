-- The text of parts is cut into the same parts, and the parts of a text write it.
use Rattle.std.proofs.Common.{◌≡◌, ◌⊎◌, ℕ, false, eqb, List, [], ◌∷◌, ◌++◌, length, drop, refl, sym, ap, ◌∙◌, subst, inl, inr, arith, All}
use Rattle.std.specs.Char.{IsAsciiDigit}
use Rattle.std.proofs.lemmas.Bool.{cases_eq}
use Rattle.std.proofs.lemmas.Bool.Decides.{nat_tests}
use Rattle.std.proofs.lemmas.List.{drop_at}
use Rattle.std.proofs.lemmas.List.Elements.{All-head}
use Rattle.sil_text.specs.Decimal.{Sign, unsigned, plus, minus, Exponent, no_exponent, with_exponent, Decimal, AreExponentDigits, IsExponent, IsDecimal, fraction_text, sign_text, exponent_text, text_of}
use Rattle.sil_text.specs.Parts.{leading_digits, after_digits, fraction_of, after_fraction, sign_of, after_sign, exponent_of, parts_of}
use Rattle.sil_text.proofs.DigitRuns.{Stops, leading_digits_of_run, after_digits_of_run, leading-after}

letter_is_no_digit : (letter : ℕ) → (letter ≡ 69) ⊎ (letter ≡ 101) → ¬ IsAsciiDigit letter
letter_is_no_digit letter (inl e) digit = omega arith
letter_is_no_digit letter (inr e) digit = omega arith

letter_is_no_point : (letter : ℕ) → (letter ≡ 69) ⊎ (letter ≡ 101) → eqb letter 46 ≡ false
letter_is_no_point letter (inl e) = grind (arith, nat_tests)
letter_is_no_point letter (inr e) = grind (arith, nat_tests)

-- An exponent begins with no digit, and with no point.
pub exponent_stops : (e : Exponent) → IsExponent e → Stops (exponent_text e)
exponent_stops no_exponent h = record { stops = λ some. absurd (omega arith) }
exponent_stops (with_exponent letter sign digits) h = record { stops = λ some digit. letter_is_no_digit letter h.0 digit }

-- So do a point and digits.
pub fraction_stops : (f : List ℕ) (e : Exponent) → IsExponent e → Stops (fraction_text f ++ exponent_text e)
fraction_stops [] e h = exponent_stops e h
fraction_stops (d ∷ ds) e h = record { stops = λ some digit. absurd (omega (arith, digit)) }

no_fraction : (e : Exponent) → IsExponent e → fraction_of (exponent_text e) ≡ []
unfolding fraction_of
no_fraction no_exponent h = refl
no_fraction (with_exponent letter sign digits) h = rw (letter_is_no_point letter h.0) refl

pub fraction_of_text : (f : List ℕ) (e : Exponent) → All IsAsciiDigit f → IsExponent e → fraction_of (fraction_text f ++ exponent_text e) ≡ f
unfolding fraction_of
fraction_of_text [] e digits h = no_fraction e h
fraction_of_text (d ∷ ds) e digits h = leading_digits_of_run (d ∷ ds) (exponent_text e) digits (exponent_stops e h)

pub after_fraction_of_text : (f : List ℕ) (e : Exponent) → All IsAsciiDigit f → IsExponent e → after_fraction (fraction_text f ++ exponent_text e) ≡ exponent_text e
unfolding after_fraction
after_fraction_of_text f e digits h =
    ap (λ g. drop (length (fraction_text g)) (fraction_text f ++ exponent_text e)) (fraction_of_text f e digits h) ∙ drop_at (fraction_text f) (exponent_text e) (length (fraction_text f)) refl

sign_of_text : (sign : Sign) (ds : List ℕ) → AreExponentDigits ds → sign_of (sign_text sign ++ ds) ≡ sign
unfolding sign_of
sign_of_text unsigned [] h = absurd (omega (arith, h.some))
sign_of_text unsigned (d ∷ ds) h =
    let digit = All-head IsAsciiDigit d ds h.digits in
    let no_plus : eqb d 43 ≡ false = grind (arith, nat_tests) in
    let no_minus : eqb d 45 ≡ false = grind (arith, nat_tests) in
    rw (no_plus, no_minus) refl
sign_of_text plus ds h = refl
sign_of_text minus ds h = refl

after_sign_of_text : (sign : Sign) (ds : List ℕ) → AreExponentDigits ds → after_sign (sign_text sign ++ ds) ≡ ds
unfolding after_sign
after_sign_of_text sign ds h =
    ap (λ s. drop (length (sign_text s)) (sign_text sign ++ ds)) (sign_of_text sign ds h) ∙ drop_at (sign_text sign) ds (length (sign_text sign)) refl

pub exponent_of_text : (e : Exponent) → IsExponent e → exponent_of (exponent_text e) ≡ e
unfolding exponent_of
exponent_of_text no_exponent h = refl
exponent_of_text (with_exponent letter sign digits) h = cc (sign_of_text sign digits h.1, after_sign_of_text sign digits h.1)

same_parts : (w w' f f' : List ℕ) (e e' : Exponent) → w ≡ w' → f ≡ f' → e ≡ e' → ◌≡◌ {A = Decimal} (record { whole = w; fraction = f; exponent = e }) (record { whole = w'; fraction = f'; exponent = e' })
same_parts w w' f f' e e' p q r = cc

-- The parts of a decimal's text are the decimal.
pub parts_of_text : (d : Decimal) → IsDecimal d → parts_of (text_of d) ≡ d
unfolding parts_of
parts_of_text d h =
    let stops = fraction_stops d.fraction d.exponent h.exponent in
    let rest = after_digits_of_run d.whole (fraction_text d.fraction ++ exponent_text d.exponent) h.whole stops in
    let whole = leading_digits_of_run d.whole (fraction_text d.fraction ++ exponent_text d.exponent) h.whole stops in
    let fraction : fraction_of (after_digits (text_of d)) ≡ d.fraction =
    ap fraction_of rest ∙ fraction_of_text d.fraction d.exponent h.fraction h.exponent in
    let exponent : exponent_of (after_fraction (after_digits (text_of d))) ≡ d.exponent =
    ap (λ r. exponent_of (after_fraction r)) rest ∙ ap exponent_of (after_fraction_of_text d.fraction d.exponent h.fraction h.exponent) ∙ exponent_of_text d.exponent h.exponent in
    same_parts _ _ _ _ _ _ whole fraction exponent

-- The parts of a text write it.
sign_text_of : (text : List ℕ) → sign_text (sign_of text) ++ after_sign text ≡ text
unfolding sign_of after_sign
sign_text_of [] = refl
sign_text_of (byte ∷ bytes) =
    let Holds : ℕ → Type 0 = λ b. sign_text (sign_of (b ∷ bytes)) ++ after_sign (b ∷ bytes) ≡ b ∷ bytes in
    elim (cases_eq byte 43) [
      | inl plus_first ↦ subst Holds (sym plus_first) refl
      | inr other ↦ elim (cases_eq byte 45) [
        | inl minus_first ↦ subst Holds (sym minus_first) refl
        | inr neither ↦
            let no_plus : eqb byte 43 ≡ false = grind (arith, nat_tests) in
            let no_minus : eqb byte 45 ≡ false = grind (arith, nat_tests) in
            rw (no_plus, no_minus) refl
      ]
    ]

pub exponent_text_of : (text : List ℕ) → exponent_text (exponent_of text) ≡ text
unfolding exponent_of
exponent_text_of [] = refl
exponent_text_of (letter ∷ bytes) = ap (λ s. letter ∷ s) (sign_text_of bytes)

behind_point : (f rest : List ℕ) → fraction_text f ++ drop (length (fraction_text f)) (46 ∷ (f ++ rest)) ≡ 46 ∷ (f ++ rest)
behind_point [] rest = refl
behind_point (d ∷ ds) rest = ap (λ t. 46 ∷ d ∷ (ds ++ t)) (drop_at ds rest (length ds) refl)

pub fraction_text_of : (text : List ℕ) → fraction_text (fraction_of text) ++ after_fraction text ≡ text
unfolding fraction_of after_fraction
fraction_text_of [] = refl
fraction_text_of (byte ∷ bytes) =
    let Holds : ℕ → Type 0 = λ b. fraction_text (fraction_of (b ∷ bytes)) ++ after_fraction (b ∷ bytes) ≡ b ∷ bytes in
    elim (cases_eq byte 46) [
      | inl point ↦ subst Holds (sym point)
          (subst (λ t. fraction_text (leading_digits bytes) ++ drop (length (fraction_text (leading_digits bytes))) (46 ∷ t) ≡ 46 ∷ t) (leading-after bytes)
          (behind_point (leading_digits bytes) (after_digits bytes)))
      | inr other ↦
          let no_point : eqb byte 46 ≡ false = grind (arith, nat_tests) in
          rw no_point refl
    ]

pub text_of_parts : (text : List ℕ) → text_of (parts_of text) ≡ text
unfolding parts_of
text_of_parts text =
    ap (λ r. leading_digits text ++ r)
    (ap (λ r. fraction_text (fraction_of (after_digits text)) ++ r) (exponent_text_of (after_fraction (after_digits text))) ∙ fraction_text_of (after_digits text))
    ∙ leading-after text
