-- Runs of digits: what they write, and where one ends.
use Rattle.std.proofs.Common.{◌≡◌, ℕ, ◌+◌, ◌-◌, ◌*◌, ◌<◌, true, false, List, [], ◌∷◌, ◌++◌, length, get_or, take, drop, refl, sym, ap, ◌∙◌, subst, arith, All}
use Rattle.std.specs.Char.{IsAsciiDigit, digit_value}
use Rattle.std.specs.List.{position_or_len}
use Rattle.std.specs.Str.Parse.{digits_value_after}
use Rattle.std.proofs.lemmas.Bool.Decides.{nat_tests}
use Rattle.std.proofs.lemmas.List.{take_more, take-append-drop, take_at, drop_at, length-append, get_or_append_left, get_or-append_right, length-take, get_or-take}
use Rattle.std.proofs.lemmas.List.Sums.{position_or_len_is, fails_before_first}
use Rattle.std.proofs.lemmas.List.Elements.{All-from_get_or}
use Rattle.sil_text.specs.Parts.{is_no_digit, leading_digits, after_digits}

pub digit_value_is : (c : ℕ) → IsAsciiDigit c → digit_value c ≡ c - 48
digit_value_is c h = grind (arith, nat_tests)

pub digits_value_push : (n : ℕ) (ds : List ℕ) (c : ℕ) → digits_value_after 10 n (ds ++ c ∷ []) ≡ digits_value_after 10 n ds * 10 + digit_value c
digits_value_push n [] c = refl
digits_value_push n (d ∷ ds) c = digits_value_push (n * 10 + digit_value d) ds c

pub digits_value_append : (n : ℕ) (ds es : List ℕ) → digits_value_after 10 n (ds ++ es) ≡ digits_value_after 10 (digits_value_after 10 n ds) es
digits_value_append n [] es = refl
digits_value_append n (d ∷ ds) es = digits_value_append (n * 10 + digit_value d) ds es

pub digits_value_more : (n : ℕ) (ds : List ℕ) (i : ℕ) → i < length ds → IsAsciiDigit (get_or ds i 0) → digits_value_after 10 n (take (i + 1) ds) ≡ digits_value_after 10 n (take i ds) * 10 + (get_or ds i 0 - 48)
digits_value_more n ds i h digit =
    ap (digits_value_after 10 n) (take_more ds i 0 h) ∙ digits_value_push n (take i ds) (get_or ds i 0)
    ∙ ap (λ d. digits_value_after 10 n (take i ds) * 10 + d) (digit_value_is (get_or ds i 0) digit)

pub digit_from_test : (c : ℕ) → is_no_digit c ≡ false → IsAsciiDigit c
digit_from_test c h = grind (arith, nat_tests)

pub test_from_digit : (c : ℕ) → IsAsciiDigit c → is_no_digit c ≡ false
test_from_digit c h = grind (arith, nat_tests)

pub no_digit_from_test : (c : ℕ) → is_no_digit c ≡ true → ¬ IsAsciiDigit c
no_digit_from_test c h d = grind (arith, nat_tests)

pub test_from_no_digit : (c : ℕ) → ¬ IsAsciiDigit c → is_no_digit c ≡ true
test_from_no_digit c h = grind (arith, nat_tests)

-- the text begins with no digit
pub record Stops (text : List ℕ) : Type 0 where
  pub stops : 0 < length text → ¬ IsAsciiDigit (get_or text 0 0)

-- a text is cut after the digits that it begins with
run_ends : (ds rest : List ℕ) → All IsAsciiDigit ds → Stops rest → position_or_len is_no_digit (ds ++ rest) ≡ length ds
run_ends ds rest digits s =
    position_or_len_is is_no_digit (ds ++ rest) (length ds) 0 (omega (arith, length-append ds rest))
    (λ k h. ap is_no_digit (get_or_append_left ds rest 0 k h) ∙ test_from_digit (get_or ds k 0) (digits k 0 h))
    (λ h. ap is_no_digit (get_or-append_right ds rest (length ds) (length ds) 0 refl (omega arith) ∙ ap (λ k. get_or rest k 0) (let e : length ds - length ds ≡ 0 = omega arith in e))
    ∙ test_from_no_digit (get_or rest 0 0) (s.stops (omega (arith, length-append ds rest))))

pub leading_digits_of_run : (ds rest : List ℕ) → All IsAsciiDigit ds → Stops rest → leading_digits (ds ++ rest) ≡ ds
unfolding leading_digits
leading_digits_of_run ds rest digits s = ap (λ k. take k (ds ++ rest)) (run_ends ds rest digits s) ∙ take_at ds rest (length ds) refl

pub after_digits_of_run : (ds rest : List ℕ) → All IsAsciiDigit ds → Stops rest → after_digits (ds ++ rest) ≡ rest
unfolding after_digits
after_digits_of_run ds rest digits s = ap (λ k. drop k (ds ++ rest)) (run_ends ds rest digits s) ∙ drop_at ds rest (length ds) refl

pub leading-after : (text : List ℕ) → leading_digits text ++ after_digits text ≡ text
unfolding leading_digits after_digits
leading-after text = take-append-drop (position_or_len is_no_digit text) text

pub leading_are_digits : (text : List ℕ) → All IsAsciiDigit (leading_digits text)
unfolding leading_digits
leading_are_digits text =
    let n = position_or_len is_no_digit text in
    All-from_get_or IsAsciiDigit (take n text) 0
    (λ k h. let below : k < n = omega (arith, length-take n text) in
    subst IsAsciiDigit (sym (get_or-take n text k 0 below)) (digit_from_test (get_or text k 0) (fails_before_first is_no_digit text k 0 below)))
