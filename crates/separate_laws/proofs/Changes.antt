-- What the ticks of the subsystems change, each along its digit, adds up to what the tick of the loop changes.
use Rattle.std.proofs.Common.{◌≡◌, ℕ, ◌+◌, ◌*◌, ◌/◌, ◌%◌, ◌<◌, List, [], ◌∷◌, length, refl, sym, ap, subst, ◌∙◌, arith, add-one}
use Rattle.std.proofs.Math.Nat.{mul-le-mul_right, mod-add-div}
use Rattle.std.proofs.lemmas.Nat.{div-mul-add, mod-mul-add, div_below, mod_below}
use mathlib.Core.Path.{fun_ext}
use Rattle.sil_fraction.specs.Fraction.{Fraction, ◌+ℚ◌, ◌*ℚ◌, whole}
use Rattle.sil_fraction.specs.Sum.{total}
use Rattle.sil_fraction.proofs.Laws.{add_comm, add_assoc, zero-add, zero-mul, one-mul, whole-add}
use Rattle.sil_fraction.proofs.Sums.{add-zero, add-mul}
use Rattle.sil_model.specs.Series.{Values}
use Rattle.sil_model.specs.LoopValue.{groups_of}
use Rattle.sil_model.specs.Sizes.{states_of}
use Rattle.sil_model.specs.declared.parts.Subsystem.{Subsystem}
use Rattle.model_laws.specs.Hours.{IsShort}
use Rattle.lumped_laws.specs.ValueLists.{tick_list}
use Rattle.separate_laws.specs.Digits.{digit_of, with_digit, along}
use Rattle.separate_laws.specs.Subsystems.{states_in, steps_from}
use Rattle.separate_laws.proofs.SubsystemSteps.{short-rest}
use Rattle.separate_laws.proofs.StateNumbers.{states-parts, states-some}
use Rattle.separate_laws.proofs.Ticks.{tick-parts, tick-none}

-- a number with the digit lo, with `low` below it and hi above it
module _ (stride base low lo hi : ℕ) (some : low < stride) (small : lo < base) where
  pub below-both : low + stride * lo < stride * base
  below-both = omega (arith, mul-le-mul_right stride small)

  abbrev place : ℕ
  place = low + stride * (lo + base * hi)

  above_low : place ≡ (lo + base * hi) * stride + low
  above_low = omega arith

  above_both : place ≡ hi * (stride * base) + (low + stride * lo)
  above_both = omega arith

  pub digit-at : digit_of stride base place ≡ lo
  digit-at =
      ap (λ n. n / stride % base) above_low
      ∙ ap (λ n. n % base) (div-mul-add (lo + base * hi) stride low some)
      ∙ ap (λ n. n % base) (omega arith)
      ∙ mod-mul-add hi base lo small

  pub with-digit-at : (b : ℕ) → with_digit stride base place b ≡ low + stride * (b + base * hi)
  with-digit-at b =
      let rest : place % stride ≡ low = ap (λ n. n % stride) above_low ∙ mod-mul-add (lo + base * hi) stride low some in
      let high : place / (stride * base) ≡ hi =
      ap (λ n. n / (stride * base)) above_both ∙ div-mul-add hi (stride * base) (low + stride * lo) below-both in
      cc (rest, high) ∙ turned b
    where
      turned : (b : ℕ) → low + stride * b + stride * base * hi ≡ low + stride * (b + base * hi)
      turned b = omega arith

  pub along-at : (T : Values ℕ → Values ℕ) (f : Values ℕ) → along stride base T f place ≡ T (λ b. f (low + stride * (b + base * hi))) lo
  along-at T f =
      ap (λ (g : Values ℕ). T g (digit_of stride base place)) (fun_ext (λ b. ap f (with-digit-at b)))
      ∙ ap (T (λ b. f (low + stride * (b + base * hi)))) digit-at

-- a loop of no subsystem has one state
one_state : (i : ℕ) → i < states_of [] → i ≡ 0
unfolding states_of groups_of
one_state i h = omega arith

-- what the first subsystem adds to the sum of the others
one_more : (T X Y R k x : Fraction) → R +ℚ x ≡ Y +ℚ k *ℚ x → T +ℚ x ≡ X +ℚ Y → (X +ℚ R) +ℚ x ≡ T +ℚ (k +ℚ whole 1) *ℚ x
one_more T X Y R k x rest all =
    add_assoc X R x
    ∙ ap (λ z. X +ℚ z) rest
    ∙ sym (add_assoc X Y (k *ℚ x))
    ∙ ap (λ z. z +ℚ k *ℚ x) (sym all)
    ∙ add_assoc T x (k *ℚ x)
    ∙ ap (λ z. T +ℚ z) (add_comm x (k *ℚ x) ∙ ap (λ z. k *ℚ x +ℚ z) (sym (one-mul x)) ∙ sym (add-mul k (whole 1) x))

module _ (h : Fraction) (f : Values ℕ) where
  abbrev changed : ℕ → List Subsystem → ℕ → Fraction
  changed stride us i = total (λ (P : Values ℕ → Values ℕ). P f i) (steps_from stride us h)

  -- for the digits of these subsystems, above `low`
  abbrev AddUp : List Subsystem → ℕ → ℕ → ℕ → Type 0
  AddUp us stride low i = changed stride us (low + stride * i) +ℚ f (low + stride * i)
      ≡ tick_list us h (λ b. f (low + stride * b)) i +ℚ whole (length us) *ℚ f (low + stride * i)

  add-first : (u : Subsystem) (us : List Subsystem) → IsShort (u ∷ us) h → (stride low lo hi : ℕ) → low < stride → lo < states_in u → hi < states_of us
      → AddUp us (stride * states_in u) (low + stride * lo) hi → AddUp (u ∷ us) stride low (lo + states_in u * hi)
  add-first u us short stride low lo hi some small high rest =
      let base : ℕ = states_in u in
      let x : Fraction = f (low + stride * (lo + base * hi)) in
      let g : Values ℕ = λ b. f (low + stride * b) in
      let turned : (b : ℕ) → (low + stride * lo) + stride * base * b ≡ low + stride * (lo + base * b) = λ b. omega arith in
      let own : along stride base (tick_list (u ∷ []) h) f (low + stride * (lo + base * hi)) ≡ tick_list (u ∷ []) h (λ a. g (a + base * hi)) lo =
      along-at stride base low lo hi some small (tick_list (u ∷ []) h) f in
      let moved : (j : ℕ) (k : Values ℕ) → (low + stride * lo) + stride * base * hi ≡ j → (λ b. f ((low + stride * lo) + stride * base * b)) ≡ k
      → changed (stride * base) us j +ℚ f j ≡ tick_list us h k hi +ℚ whole (length us) *ℚ f j = λ j k e d. rw (e, d) at rest in
      let others : changed (stride * base) us (low + stride * (lo + base * hi)) +ℚ x ≡ tick_list us h (λ b. g (lo + base * b)) hi +ℚ whole (length us) *ℚ x =
      moved _ _ (turned hi) (fun_ext (λ b. ap f (turned b))) in
      rw (own, ← add-one (length us), whole-add (length us) 1)
      (one_more (tick_list (u ∷ us) h g (lo + base * hi)) _ _ _ (whole (length us)) x others (tick-parts u us h short g lo hi small high))

  pub add-up : (us : List Subsystem) → IsShort us h → (stride low i : ℕ) → low < stride → i < states_of us → AddUp us stride low i
  add-up [] short stride low i some small = none i (one_state i small)
    where
      none : (i : ℕ) → i ≡ 0 → AddUp [] stride low i
      none i e =
          rw (e, tick-none h (λ b. f (low + stride * b)), zero-mul (f (low + stride * 0)), add-zero (f (low + stride * 0)), zero-add (f (low + stride * 0))) refl
  add-up (u ∷ us) short stride low i some small =
      let base : ℕ = states_in u in
      let lo : ℕ = i % base in
      let hi : ℕ = i / base in
      let split : lo + base * hi ≡ i = mod-add-div i base in
      let lo_small : lo < base = mod_below i base (states-some (u ∷ [])) in
      let high : hi < states_of us = div_below i base (states_of us) (states-some (u ∷ [])) (omega (arith, small, states-parts u us)) in
      let rest : AddUp us (stride * base) (low + stride * lo) hi =
      add-up us (short-rest u us h short) (stride * base) (low + stride * lo) hi
      (below-both stride base low lo hi some lo_small) high in
      subst (AddUp (u ∷ us) stride low) split (add-first u us short stride low lo hi some lo_small high rest)
