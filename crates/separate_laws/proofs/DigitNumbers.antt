-- Numbers by a digit: what stands below it, the digit, and what stands above it.
use Rattle.std.proofs.Common.{◌≡◌, ℕ, ◌+◌, ◌*◌, ◌/◌, ◌%◌, ◌<◌, refl, ap, ◌∙◌, arith}
use Rattle.std.proofs.Math.Nat.{mod-add-div, div-div-eq-div-mul, mul-pos}
use Rattle.std.proofs.lemmas.Nat.{div-mul-add, mod-mul-add, mul-add-lt, div_below, mod_below}
use Rattle.separate_laws.specs.Digits.{digit_of, with_digit}

-- a quotient and a remainder, by the sum that they come from
pub quotient : (n w q r : ℕ) → r < w → n ≡ r + w * q → n / w ≡ q
quotient n w q r h e = let f : n ≡ q * w + r = omega (arith, e) in rw f (div-mul-add q w r h)

pub remainder : (n w q r : ℕ) → r < w → n ≡ r + w * q → n % w ≡ r
remainder n w q r h e = let f : n ≡ q * w + r = omega (arith, e) in rw f (mod-mul-add q w r h)

-- the number with these parts
module _ (stride base : ℕ) where
  abbrev pub placed : ℕ → ℕ → ℕ → ℕ
  placed low b high = low + stride * b + stride * base * high

  pub low-below : (low b : ℕ) → low < stride → b < base → low + stride * b < stride * base
  low-below low b h p = omega (arith, mul-add-lt b stride low base p h)

  -- its parts
  pub low-placed : (low b high : ℕ) → low < stride → placed low b high % stride ≡ low
  low-placed low b high h = remainder (placed low b high) stride (b + base * high) low h (omega arith)

  pub up-placed : (low b high : ℕ) → low < stride → placed low b high / stride ≡ b + base * high
  up-placed low b high h = quotient (placed low b high) stride (b + base * high) low h (omega arith)

  pub digit-placed : (low b high : ℕ) → low < stride → b < base → digit_of stride base (placed low b high) ≡ b
  digit-placed low b high h p = ap (λ x. x % base) (up-placed low b high h) ∙ remainder (b + base * high) base high b p refl

  pub high-placed : (low b high : ℕ) → low < stride → b < base → placed low b high / (stride * base) ≡ high
  high-placed low b high h p = quotient (placed low b high) (stride * base) high (low + stride * b) (low-below low b h p) refl

  pub placed-below : (low b high more : ℕ) → low < stride → b < base → high < more → placed low b high < stride * base * more
  placed-below low b high more h p q = omega (arith, mul-add-lt high (stride * base) (low + stride * b) more q (low-below low b h p))

  -- each number has parts
  pub placed-parts : (i : ℕ) → placed (i % stride) (digit_of stride base i) (i / (stride * base)) ≡ i
  placed-parts i =
      let e : i / stride % base + base * (i / (stride * base)) ≡ i / stride = rw (div-div-eq-div-mul i stride base) at (mod-add-div (i / stride) base) in
      omega (arith, mod-add-div i stride, ap (λ x. stride * x) e)

  pub with-placed : (low b high c : ℕ) → low < stride → b < base → with_digit stride base (placed low b high) c ≡ placed low c high
  with-placed low b high c h p = rw (low-placed low b high h, high-placed low b high h p) refl

-- a number with another digit
module _ (stride base : ℕ) (some : 0 < stride) (i : ℕ) where
  pub low-small : i % stride < stride
  low-small = mod_below i stride some

  pub digit-small : 0 < base → digit_of stride base i < base
  digit-small more = mod_below (i / stride) base more

  -- has that digit, and the other parts
  pub digit-with : (b : ℕ) → b < base → digit_of stride base (with_digit stride base i b) ≡ b
  digit-with b p = digit-placed stride base (i % stride) b (i / (stride * base)) low-small p

  pub low-with : (b : ℕ) → with_digit stride base i b % stride ≡ i % stride
  low-with b = low-placed stride base (i % stride) b (i / (stride * base)) low-small

  pub high-with : (b : ℕ) → b < base → with_digit stride base i b / (stride * base) ≡ i / (stride * base)
  high-with b p = high-placed stride base (i % stride) b (i / (stride * base)) low-small p

  pub with-with : (b c : ℕ) → b < base → with_digit stride base (with_digit stride base i b) c ≡ with_digit stride base i c
  with-with b c p = with-placed stride base (i % stride) b (i / (stride * base)) c low-small p

  -- its own digit changes nothing
  pub with-digit : with_digit stride base i (digit_of stride base i) ≡ i
  with-digit = placed-parts stride base i

  pub high-below : (more : ℕ) → 0 < base → i < stride * base * more → i / (stride * base) < more
  high-below more p h = div_below i (stride * base) more (mul-pos some p) (omega (arith, h))

  pub with-below : (more b : ℕ) → b < base → i < stride * base * more → with_digit stride base i b < stride * base * more
  with-below more b p h =
      placed-below stride base (i % stride) b (i / (stride * base)) more low-small p (high-below more (omega arith) h)
