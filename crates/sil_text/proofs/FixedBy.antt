-- A number is read back from its text.
use Rattle.std.proofs.Common.{◌≡◌, ◌⊎◌, inl, inr, ℕ, zero, suc, ◌+◌, ◌-◌, ◌*◌, ◌/◌, ◌%◌, ◌^◌, ◌<◌, ◌≤◌, List, [], ◌∷◌, ◌++◌, length, get_or, take, drop, refl, sym, ap, subst, ◌∙◌, arith, append_assoc}
use Rattle.std.specs.Prelude.{decimal}
use Rattle.std.specs.Char.{digit_value}
use Rattle.std.specs.Str.Parse.{AllDigits, digits_value}
use Rattle.std.proofs.Math.Nat.{div-add-mod, pow-suc}
use Rattle.std.proofs.Math.Arith.{mod-mul}
use Rattle.std.proofs.Math.Seq.{take-append_seam, drop-append_seam}
use Rattle.std.proofs.lemmas.Fmt.{decimal_is_IsNumeral_wide}
use Rattle.std.proofs.lemmas.List.FromFn.{get_or-map-range_with_len}
use Rattle.std.proofs.lemmas.Str.Parse.{digit_from_value}
use Rattle.sil_text.specs.Figure.{digit_at, digits_behind, decimal18}
use Rattle.sil_text.specs.FixedBy.{BeginsWithNoDigit, TextsFixNumbers}
use Rattle.sil_text.proofs.TenPowers.{ten_pos}

no_digit : (d : ℕ) (ds rest : List ℕ) → digit_value d < 10 → BeginsWithNoDigit rest → rest ≡ d ∷ ds → ⊥
no_digit d ds rest digit none e =
    let range = digit_from_value d digit in
    by (subst BeginsWithNoDigit e none) range.0 range.1
  where
    by : (d < 48) ⊎ (57 < d) → 48 ≤ d → d ≤ 57 → ⊥
    by (inl l) a b = omega arith
    by (inr r) a b = omega arith

-- digits end where the first byte is that is none
digits_end : (ms ns rest_m rest_n : List ℕ) → AllDigits 10 ms → AllDigits 10 ns → BeginsWithNoDigit rest_m → BeginsWithNoDigit rest_n
    → ms ++ rest_m ≡ ns ++ rest_n → (ms ≡ ns) × (rest_m ≡ rest_n)
digits_end [] [] rest_m rest_n p q end_m end_n e = (refl, e)
digits_end [] (d ∷ ns) rest_m rest_n p q end_m end_n e = absurd (no_digit d (ns ++ rest_n) rest_m q.0 end_m e)
digits_end (c ∷ ms) [] rest_m rest_n p q end_m end_n e = absurd (no_digit c (ms ++ rest_m) rest_n p.0 end_n (sym e))
digits_end (c ∷ ms) (d ∷ ns) rest_m rest_n p q end_m end_n e =
    let head : c ≡ d = cc in
    let tail : ms ++ rest_m ≡ ns ++ rest_n = cc in
    let later = digits_end ms ns rest_m rest_n p.1 q.1 end_m end_n tail in
    let both : c ∷ ms ≡ d ∷ ns = cc (head, later.0) in
    (both, later.1)

whole_fixed : (m n : ℕ) (rest_m rest_n : List ℕ) → m < 10 ^ 64 → n < 10 ^ 64 → BeginsWithNoDigit rest_m → BeginsWithNoDigit rest_n
    → decimal m ++ rest_m ≡ decimal n ++ rest_n → (m ≡ n) × (rest_m ≡ rest_n)
whole_fixed m n rest_m rest_n small_m small_n end_m end_n e =
    let read_m = decimal_is_IsNumeral_wide m small_m in
    let read_n = decimal_is_IsNumeral_wide n small_n in
    let cut = digits_end (decimal m) (decimal n) rest_m rest_n read_m.0.1 read_n.0.1 end_m end_n e in
    (sym read_m.1 ∙ ap (digits_value 10) cut.0 ∙ read_n.1, cut.1)

-- a number below 10^n is fixed by its n last digits
digits_fix : (n v w : ℕ) → ((k : ℕ) → k < n → v / 10 ^ k % 10 ≡ w / 10 ^ k % 10) → v % 10 ^ n ≡ w % 10 ^ n
digits_fix zero v w h = omega arith
digits_fix (suc n) v w h =
    let one_more : (x : ℕ) → x % 10 ^ suc n ≡ (x / 10 ^ n % 10) * 10 ^ n + x % 10 ^ n = λ (x : ℕ). ap (λ p. x % p) (power n) ∙ mod-mul x {m = 10} {c = 10 ^ n} (omega arith) (ten_pos n) in
    let here : v / 10 ^ n % 10 ≡ w / 10 ^ n % 10 = h n (omega arith) in
    let below : v % 10 ^ n ≡ w % 10 ^ n = digits_fix n v w (λ k l. h k (omega arith)) in
    one_more v ∙ ap (λ d. d * 10 ^ n + v % 10 ^ n) here ∙ ap (λ r. (w / 10 ^ n % 10) * 10 ^ n + r) below ∙ sym (one_more w)
  where
    power : (n : ℕ) → 10 ^ suc n ≡ 10 * 10 ^ n
    power n = pow-suc 10 n ∙ omega arith

digit_behind : (v k : ℕ) → k < 18 → get_or (digits_behind v) (17 - k) 0 ≡ digit_at v k
digit_behind v k h = get_or-map-range_with_len (λ k. digit_at v (17 - k)) 0 18 (17 - k) (17 - k) 0 (omega arith) (omega arith) ∙ ap (digit_at v) (let back : 17 - (17 - k) ≡ k = omega arith in back)

digits_behind_fix : (v w : ℕ) → digits_behind v ≡ digits_behind w → v % 10 ^ 18 ≡ w % 10 ^ 18
digits_behind_fix v w e = digits_fix 18 v w (λ k h.
    let same : digit_at v k ≡ digit_at w k = sym (digit_behind v k h) ∙ ap (λ l. get_or l (17 - k) 0) e ∙ digit_behind w k h in
    omega (arith, same))

-- lists of one length begin with what they begin with
front_fixed : (a b xs ys : List ℕ) → length a ≡ length b → a ++ xs ≡ b ++ ys → (a ≡ b) × (xs ≡ ys)
front_fixed a b xs ys l e = (
  sym (take-append_seam a xs) ∙ ap (take (length a)) e ∙ ap (λ n. take n (b ++ ys)) l ∙ take-append_seam b ys,
  sym (drop-append_seam a xs) ∙ ap (drop (length a)) e ∙ ap (λ n. drop n (b ++ ys)) l ∙ drop-append_seam b ys,
)

figure_fixed : (v w : ℕ) (rest_v rest_w : List ℕ) → v < 10 ^ 82 → w < 10 ^ 82 → decimal18 v ++ rest_v ≡ decimal18 w ++ rest_w → (v ≡ w) × (rest_v ≡ rest_w)
unfolding decimal18
figure_fixed v w rest_v rest_w small_v small_w e =
    let regroup : (x : ℕ) (rest : List ℕ) → (decimal (x / 10 ^ 18) ++ 46 ∷ digits_behind x) ++ rest ≡ decimal (x / 10 ^ 18) ++ 46 ∷ (digits_behind x ++ rest) = λ (x : ℕ) (rest : List ℕ). append_assoc (decimal (x / 10 ^ 18)) (46 ∷ digits_behind x) rest in
    let cut = whole_fixed (v / 10 ^ 18) (w / 10 ^ 18) (46 ∷ (digits_behind v ++ rest_v)) (46 ∷ (digits_behind w ++ rest_w)) (omega arith) (omega arith) (inl (omega arith)) (inl (omega arith))
    (sym (regroup v rest_v) ∙ e ∙ regroup w rest_w) in
    let behind = front_fixed (digits_behind v) (digits_behind w) rest_v rest_w refl (ap (drop 1) cut.1) in
    let last = digits_behind_fix v w behind.0 in
    (sym (div-add-mod v (10 ^ 18)) ∙ ap (λ q. 10 ^ 18 * q + v % 10 ^ 18) cut.0 ∙ ap (λ r. 10 ^ 18 * (w / 10 ^ 18) + r) last ∙ div-add-mod w (10 ^ 18), behind.1)

pub texts_fix_numbers : TextsFixNumbers
texts_fix_numbers = record { whole = whole_fixed; figure = figure_fixed }
