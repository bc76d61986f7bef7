-- Two digits of a number, one further up than the other: neither disturbs the other.
use Rattle.std.proofs.Common.{◌≡◌, ℕ, ◌+◌, ◌*◌, ◌/◌, ◌%◌, ◌<◌, sym, ap, ◌∙◌, arith}
use Rattle.std.proofs.Math.Nat.{mod-add-div, div-div-eq-div-mul}
use Rattle.std.proofs.lemmas.Nat.{mod_below}
use Rattle.separate_laws.specs.Digits.{digit_of, with_digit}
use Rattle.separate_laws.proofs.DigitNumbers.{placed, low-below, digit-placed, with-placed, placed-parts}

-- the stride of the upper digit
abbrev pub upper : ℕ → ℕ → ℕ → ℕ
upper stride base between = stride * base * between

module _ (stride base between other : ℕ) where
  abbrev above : ℕ
  above = upper stride base between

  -- a number with a lower digit, the number between the digits, an upper digit and the rest
  abbrev pub placed_two : ℕ → ℕ → ℕ → ℕ → ℕ → ℕ
  placed_two low b middle c high = placed stride base low b (middle + between * (c + other * high))

  module _ (low b middle c high : ℕ) (small : low < stride) (digit : b < base) (inner : middle < between) where
    abbrev below_upper : ℕ
    below_upper = low + stride * b + stride * base * middle

    below-upper : below_upper < above
    below-upper = omega (arith, low-below (stride * base) between (low + stride * b) middle (low-below stride base low b small digit) inner)

    -- the same, as a number with the upper digit
    as-upper : placed_two low b middle c high ≡ placed above other below_upper c high
    as-upper = omega arith

    pub upper-digit : c < other → digit_of above other (placed_two low b middle c high) ≡ c
    upper-digit p = rw as-upper (digit-placed above other below_upper c high below-upper p)

    pub upper-with : (y : ℕ) → c < other → with_digit above other (placed_two low b middle c high) y ≡ placed_two low b middle y high
    upper-with y p = ap (λ x. with_digit above other x y) as-upper ∙ with-placed above other below_upper c high y below-upper p ∙ omega arith

    pub lower-digit : digit_of stride base (placed_two low b middle c high) ≡ b
    lower-digit = digit-placed stride base low b (middle + between * (c + other * high)) small digit

    pub lower-with : (x : ℕ) → with_digit stride base (placed_two low b middle c high) x ≡ placed_two low x middle c high
    lower-with x = with-placed stride base low b (middle + between * (c + other * high)) x small digit

  -- each number is one of these
  module _ (some : 0 < stride) (more : 0 < base) (apart : 0 < between) (exist : 0 < other) (i : ℕ) where
    abbrev low : ℕ
    low = i % stride

    abbrev lower : ℕ
    lower = digit_of stride base i

    abbrev middle : ℕ
    middle = i / (stride * base) % between

    abbrev higher : ℕ
    higher = digit_of above other i

    abbrev high : ℕ
    high = i / (above * other)

    pub parts : placed_two low lower middle higher high ≡ i
    parts =
        let e : middle + between * (i / above) ≡ i / (stride * base) = rw (div-div-eq-div-mul i (stride * base) between) at (mod-add-div (i / (stride * base)) between) in
        let f : higher + other * high ≡ i / above = rw (div-div-eq-div-mul i above other) at (mod-add-div (i / above) other) in
        ap (λ x. placed stride base low lower (middle + between * x)) f ∙ ap (λ x. placed stride base low lower x) e ∙ placed-parts stride base i

    small : low < stride
    small = mod_below i stride some

    digit : lower < base
    digit = mod_below (i / stride) base more

    inner : middle < between
    inner = mod_below (i / (stride * base)) between apart

    outer : higher < other
    outer = mod_below (i / above) other exist

    pub lower-with-parts : (x : ℕ) → with_digit stride base i x ≡ placed_two low x middle higher high
    lower-with-parts x = ap (λ j. with_digit stride base j x) (sym parts) ∙ lower-with low lower middle higher high small digit inner x

    pub upper-with-parts : (y : ℕ) → with_digit above other i y ≡ placed_two low lower middle y high
    upper-with-parts y = ap (λ j. with_digit above other j y) (sym parts) ∙ upper-with low lower middle higher high small digit inner y outer

    -- a change of the lower digit leaves the upper one, and the other way round
    pub upper-kept : (x : ℕ) → x < base → digit_of above other (with_digit stride base i x) ≡ digit_of above other i
    upper-kept x p = ap (digit_of above other) (lower-with-parts x) ∙ upper-digit low x middle higher high small p inner outer

    pub lower-kept : (y : ℕ) → digit_of stride base (with_digit above other i y) ≡ digit_of stride base i
    lower-kept y = ap (digit_of stride base) (upper-with-parts y) ∙ lower-digit low lower middle y high small digit inner

    -- and it does not matter which changes first
    pub with-either : (x y : ℕ) → x < base
        → with_digit above other (with_digit stride base i x) y ≡ with_digit stride base (with_digit above other i y) x
    with-either x y p =
        ap (λ j. with_digit above other j y) (lower-with-parts x) ∙ upper-with low x middle higher high small p inner y outer
        ∙ sym (ap (λ j. with_digit stride base j x) (upper-with-parts y) ∙ lower-with low lower middle y high small digit inner x)
