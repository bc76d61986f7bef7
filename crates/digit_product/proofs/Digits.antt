-- Numbers by a digit: what stands below it, the digit, and what stands above it.
use Rattle.std.proofs.Common.{◌≡◌, ℕ, ◌+◌, ◌*◌, ◌/◌, ◌%◌, ◌<◌, ◌≢◌, refl, sym, ap, ◌∙◌, arith}
use Rattle.std.proofs.Math.Nat.{mod-add-div, div-div-eq-div-mul, mul-pos}
use Rattle.std.proofs.lemmas.Nat.{div-mul-add, mod-mul-add, div_below, mod_below}
use Rattle.separate_laws.specs.Digits.{digit_of}
use Rattle.digit_product.specs.Lines.{place_of}

-- a quotient and a remainder, by the sum that they come from
quotient : (n w q r : ℕ) → r < w → n ≡ r + w * q → n / w ≡ q
quotient n w q r h e = let f : n ≡ q * w + r = omega (arith, e) in rw f (div-mul-add q w r h)

remainder : (n w q r : ℕ) → r < w → n ≡ r + w * q → n % w ≡ r
remainder n w q r h e = let f : n ≡ q * w + r = omega (arith, e) in rw f (mod-mul-add q w r h)

-- a digit and what stands above it are known by their sum
pub same-parts : (size d b e c : ℕ) → d < size → e < size → d + size * b ≡ e + size * c → (d ≡ e) × (b ≡ c)
same-parts size d b e c h p same = (
  sym (remainder (d + size * b) size b d h refl) ∙ remainder (d + size * b) size c e p same,
  sym (quotient (d + size * b) size b d h refl) ∙ quotient (d + size * b) size c e p same,
)

module _ (stride size : ℕ) where
  -- each number has its place
  pub its-place : (i : ℕ) → place_of stride size (i % stride) (digit_of stride size i) (i / (stride * size)) ≡ i
  its-place i =
      let e : i / stride % size + size * (i / (stride * size)) ≡ i / stride = rw (div-div-eq-div-mul i stride size) at (mod-add-div (i / stride) size) in
      omega (arith, mod-add-div i stride, ap (λ x. stride * x) e)

  pub block-below : (i blocks : ℕ) → 0 < stride → 0 < size → i < stride * size * blocks → i / (stride * size) < blocks
  block-below i blocks some more h = div_below i (stride * size) blocks (mul-pos some more) (omega (arith, h))

  -- and its digit
  pub digit-at : (low digit high : ℕ) → low < stride → digit < size → digit_of stride size (place_of stride size low digit high) ≡ digit
  digit-at low digit high h p =
      ap (λ x. x % size) (quotient (place_of stride size low digit high) stride (digit + size * high) low h (omega arith))
      ∙ remainder (digit + size * high) size high digit p refl

  -- a number so many strides past one with digit 0 has no other digit
  pub other-digit : (f digit low other high : ℕ) → digit_of stride size f ≡ 0 → 0 < stride → low < stride → digit < size → other < size → other ≢ digit
      → f + digit * stride ≢ place_of stride size low other high
  other-digit f digit low other high none some h p q apart e =
      let at : f % stride + stride * 0 + stride * size * (f / (stride * size)) ≡ f = rw none at (its-place f) in
      let same : low + stride * (other + size * high) ≡ f % stride + stride * (digit + size * (f / (stride * size))) = omega (arith, e, at) in
      let up = same-parts stride low (other + size * high) (f % stride) (digit + size * (f / (stride * size))) h (mod_below f stride some) same in
      apart (same-parts size other high digit (f / (stride * size)) q p up.1).0
