-- Sums over numbers, as sums over their parts, and a number's own digit against another one in its place.
use Rattle.std.proofs.Common.{◌≡◌, ℕ, zero, suc, ◌+◌, ◌*◌, ◌<◌, refl, sym, ap, ◌∙◌, arith}
use mathlib.Core.Path.{fun_ext}
use Rattle.sil_fraction.specs.Fraction.{Fraction, ◌+ℚ◌}
use Rattle.sil_fraction.specs.Sum.{total_below}
use Rattle.sil_fraction.proofs.Sums.{below-same, below-append, below-swap}
use Rattle.separate_laws.specs.Digits.{digit_of, with_digit}
use Rattle.separate_laws.proofs.DigitNumbers.{placed, digit-placed, with-placed}

-- a sum in rows of p
pub total-rows : (p q : ℕ) (F : ℕ → Fraction) → total_below (p * q) F ≡ total_below q (λ y. total_below p (λ x. F (x + p * y)))
total-rows p zero F = let e : p * 0 ≡ 0 = omega arith in rw e refl
total-rows p (suc q) F =
    let e : p * suc q ≡ p * q + p = omega arith in
    let turned : (x : ℕ) → p * q + x ≡ x + p * q = λ x. omega arith in
    ap (λ n. total_below n F) e ∙ below-append (p * q) p F
    ∙ ap (λ s. s +ℚ total_below p (λ x. F (p * q + x))) (total-rows p q F)
    ∙ ap (λ s. total_below q (λ y. total_below p (λ x. F (x + p * y))) +ℚ s) (ap (total_below p) (fun_ext (λ x. ap F (turned x))))

module _ (stride base more : ℕ) where
  -- a sum over all numbers, by what stands above the digit, the digit and what stands below it
  pub total-parts : (F : ℕ → Fraction) → total_below (stride * base * more) F
      ≡ total_below more (λ high. total_below base (λ b. total_below stride (λ low. F (placed stride base low b high))))
  total-parts F =
      let e : (low b high : ℕ) → low + stride * (b + base * high) ≡ placed stride base low b high = λ low b high. omega arith in
      let f : stride * base * more ≡ stride * (base * more) = omega arith in
      ap (λ n. total_below n F) f ∙ total-rows stride (base * more) F ∙ total-rows base more (λ y. total_below stride (λ low. F (low + stride * y)))
      ∙ ap (total_below more) (fun_ext (λ high. ap (total_below base) (fun_ext (λ b. ap (total_below stride) (fun_ext (λ low. ap F (e low b high)))))))

  -- what each number has with each digit: the number with that digit has it with its own
  pub digits-exchanged : (H : ℕ → ℕ → Fraction) → total_below (stride * base * more) (λ j. total_below base (H j))
      ≡ total_below (stride * base * more) (λ i. total_below base (λ b. H (with_digit stride base i b) (digit_of stride base i)))
  digits-exchanged H =
      let part : ℕ → ℕ → ℕ → ℕ → Fraction = λ low b high a. H (placed stride base low b high) a in
      let moved : (low a high : ℕ) → low < stride → a < base
      → total_below base (λ b. H (with_digit stride base (placed stride base low a high) b) (digit_of stride base (placed stride base low a high)))
      ≡ total_below base (λ b. part low b high a) =
      λ low a high h p. ap (total_below base) (fun_ext (λ b. ap (λ x. H x (digit_of stride base (placed stride base low a high))) (with-placed stride base low a high b h p)
      ∙ ap (H (placed stride base low b high)) (digit-placed stride base low a high h p))) in
      let first : (high : ℕ) → total_below base (λ b. total_below stride (λ low. total_below base (part low b high)))
      ≡ total_below base (λ a. total_below stride (λ low. total_below base (λ b. part low b high a))) =
      λ high. ap (total_below base) (fun_ext (λ b. below-swap stride base (λ low a. part low b high a)))
      ∙ below-swap base base (λ b a. total_below stride (λ low. part low b high a))
      ∙ ap (total_below base) (fun_ext (λ a. below-swap base stride (λ b low. part low b high a))) in
      total-parts (λ j. total_below base (H j))
      ∙ ap (total_below more) (fun_ext (λ high. first high
      ∙ sym (below-same base _ _ (λ a p. below-same stride _ _ (λ low h. moved low a high h p)))))
      ∙ sym (total-parts (λ i. total_below base (λ b. H (with_digit stride base i b) (digit_of stride base i))))
