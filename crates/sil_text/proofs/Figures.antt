-- The digits of a figure, place by place.
use Rattle.std.proofs.Common.{◌≡◌, ℕ, ◌+◌, ◌-◌, ◌/◌, ◌%◌, ◌^◌, ◌<◌, List, [], ◌∷◌, ◌++◌, length, get_or, drop, sym, ap, ◌∙◌, arith, add-one}
use Rattle.std.specs.Prelude.{decimal}
use Rattle.std.proofs.Math.Nat.{div-div-eq-div-mul, pow-suc, mod-eq_of_lt}
use Rattle.std.proofs.lemmas.Nat.{div_below}
use Rattle.std.proofs.lemmas.List.{drop_more, get_or-drop, length-drop}
use Rattle.std.proofs.lemmas.List.FromFn.{fill_by_all}
use Rattle.std.proofs.lemmas.Fmt.{decimal_digit}
use Rattle.sil_text.specs.Figure.{digit_at, digits_behind, decimal18}

-- one digit less
pub shortened : (v place : ℕ) → v / 10 ^ place / 10 ≡ v / 10 ^ (place + 1)
shortened v place = div-div-eq-div-mul v (10 ^ place) 10 ∙ ap (λ n. v / n) (sym (pow-suc 10 place) ∙ ap (λ n. 10 ^ n) (sym (add-one place)))

-- the whole units are one digit
pub leading : (v : ℕ) → v < 10 ^ 19 → v / 10 ^ 18 % 10 ≡ v / 10 ^ 18
leading v h = mod-eq_of_lt (div_below v (10 ^ 18) 10 (omega arith) (omega arith))

-- the whole units, which are one digit
whole_units : (v : ℕ) → v < 10 ^ 19 → decimal (v / 10 ^ 18) ≡ digit_at v 18 ∷ []
whole_units v h = decimal_digit (v / 10 ^ 18) (omega arith) ∙ ap (λ d. (48 + d) ∷ []) (sym (leading v h))

-- a list of twenty bytes with these digits is the figure
pub decimal18_from_digits : (v : ℕ) (text : List ℕ) → v < 10 ^ 19 → length text ≡ 20 → get_or text 0 0 ≡ digit_at v 18 → get_or text 1 0 ≡ 46
    → ((k : ℕ) → k < 18 → get_or text (19 - k) 0 ≡ digit_at v k) → text ≡ decimal18 v
unfolding decimal18
decimal18_from_digits v text small len first point digits =
    let after_first : text ≡ get_or text 0 0 ∷ drop 1 text = drop_more text 0 0 (omega arith) in
    let after_point : drop 1 text ≡ get_or text 1 0 ∷ drop 2 text = drop_more text 1 0 (omega arith) in
    let rest : drop 2 text ≡ digits_behind v = fill_by_all (λ k. digit_at v (17 - k)) (drop 2 text) 18 0 (length-drop 2 text ∙ omega arith)
    (λ k h. get_or-drop 2 text k 0 ∙ ap (λ n. get_or text n 0) (let at : 2 + k ≡ 19 - (17 - k) = omega arith in at) ∙ digits (17 - k) (omega arith)) in
    let written : text ≡ digit_at v 18 ∷ 46 ∷ digits_behind v = cc in
    written ∙ ap (λ units. units ++ 46 ∷ digits_behind v) (sym (whole_units v small))
