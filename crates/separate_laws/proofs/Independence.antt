-- The ticks of the subsystems, each along its digit, are separate steps of the loop, by the laws of steps of one digit.
use Rattle.std.proofs.Common.{◌≡◌, ℕ, suc, ◌+◌, ◌*◌, ◌<◌, ◌≤◌, List, [], ◌∷◌, length, refl, ap, subst, arith}
use Rattle.std.specs.Prelude.{All, AllPairs}
use Rattle.std.proofs.Math.Nat.{mul-pos}
use Rattle.std.proofs.lemmas.List.Elements.{All-nil, All-cons}
use Rattle.std.proofs.lemmas.List.Kept.{AllPairs-cons}
use mathlib.Core.Path.{fun_ext}
use Rattle.sil_fraction.specs.Fraction.{Fraction, ◌+ℚ◌, ◌*ℚ◌, whole}
use Rattle.sil_fraction.specs.Sum.{total}
use Rattle.sil_model.specs.Series.{Values}
use Rattle.sil_model.specs.Sizes.{states_of}
use Rattle.sil_model.specs.LoopValue.{IsSubsystemInRange}
use Rattle.sil_model.specs.declared.parts.Subsystem.{Subsystem}
use Rattle.model_laws.specs.Hours.{IsShort}
use Rattle.model_laws.specs.Polynomial.{IsLinear}
use Rattle.lumped_laws.specs.ValueLists.{tick_list}
use Rattle.lumped_laws.specs.LinearLists.{AsksBelow, KeepsConstants}
use Rattle.lumped_laws.proofs.LinearLists.{linear_laws}
use Rattle.exponential_laws.specs.Exponential.{Commute}
use Rattle.separate_laws.specs.Digits.{along}
use Rattle.separate_laws.specs.DigitLaws.{DigitLaw, StaysBelow}
use Rattle.separate_laws.specs.Separate.{AreSeparate}
use Rattle.separate_laws.specs.Subsystems.{states_in, steps_from, steps_of_subsystems}
use Rattle.separate_laws.proofs.SubsystemSteps.{short-first, short-rest}
use Rattle.separate_laws.proofs.StateNumbers.{states-parts, states-some}
use Rattle.separate_laws.proofs.Changes.{add-up}

-- what is known of steps of one digit
abbrev pub DigitLaws : Type 0
DigitLaws = (stride base : ℕ) (T : Values ℕ → Values ℕ) → 0 < stride → 0 < base → IsLinear T → AsksBelow base T → DigitLaw stride base T

steps-length : (us : List Subsystem) (h : Fraction) (stride : ℕ) → length (steps_from stride us h) ≡ length us
steps-length [] h stride = refl
steps-length (u ∷ us) h stride = ap suc (steps-length us h (stride * states_in u))

module _ (law : DigitLaws) (h : Fraction) where
  abbrev tick_in : Subsystem → Values ℕ → Values ℕ
  tick_in u = tick_list (u ∷ []) h

  -- the step of one subsystem
  abbrev step_in : ℕ → Subsystem → Values ℕ → Values ℕ
  step_in stride u = along stride (states_in u) (tick_in u)

  own : (u : Subsystem) (stride : ℕ) → 0 < stride → DigitLaw stride (states_in u) (tick_in u)
  own u stride some =
      law stride (states_in u) (tick_in u) some (states-some (u ∷ [])) ((linear_laws (u ∷ [])).tick h) ((linear_laws (u ∷ [])).tick_asks h)

  next-some : (u : Subsystem) (stride : ℕ) → 0 < stride → 0 < stride * states_in u
  next-some u stride some = mul-pos some (states-some (u ∷ []))

  steps-linear : (us : List Subsystem) (stride : ℕ) → 0 < stride → All IsLinear (steps_from stride us h)
  steps-linear [] stride some = All-nil IsLinear
  steps-linear (u ∷ us) stride some =
      All-cons IsLinear (step_in stride u) (steps_from (stride * states_in u) us h) (own u stride some).linear
      (steps-linear us (stride * states_in u) (next-some u stride some))

  steps-keep : (us : List Subsystem) → IsShort us h → (stride : ℕ) → 0 < stride → All KeepsConstants (steps_from stride us h)
  steps-keep [] short stride some = All-nil KeepsConstants
  steps-keep (u ∷ us) short stride some =
      All-cons KeepsConstants (step_in stride u) (steps_from (stride * states_in u) us h)
      ((own u stride some).keeps ((linear_laws (u ∷ [])).tick_keeps h (short-first u us h short)))
      (steps-keep us (short-rest u us h short) (stride * states_in u) (next-some u stride some))

  steps-stay : (us : List Subsystem) (stride : ℕ) → 0 < stride → All (StaysBelow (stride * states_of us)) (steps_from stride us h)
  steps-stay [] stride some = All-nil (StaysBelow (stride * states_of []))
  steps-stay (u ∷ us) stride some =
      let next : ℕ = stride * states_in u in
      let n : ℕ = next * states_of us in
      let all : n ≡ stride * states_of (u ∷ us) = omega (arith, ap (λ m. stride * m) (states-parts u us)) in
      let steps : List (Values ℕ → Values ℕ) = steps_from next us h in
      subst (λ m. All (StaysBelow m) (step_in stride u ∷ steps)) all
      (All-cons (StaysBelow n) (step_in stride u) steps ((own u stride some).stays (states_of us)) (steps-stay us next (next-some u stride some)))

  -- a step commutes with those of all digits further up
  later-commute : (u : Subsystem) (stride : ℕ) → 0 < stride → (us : List Subsystem) (between : ℕ) → 0 < between
      → All (Commute (step_in stride u)) (steps_from (stride * states_in u * between) us h)
  later-commute u stride some [] between far = All-nil (Commute (step_in stride u))
  later-commute u stride some (v ∷ us) between far =
      let from : ℕ = stride * states_in u * between in
      let next : stride * states_in u * (between * states_in v) ≡ from * states_in v = omega arith in
      All-cons (Commute (step_in stride u)) (step_in from v) (steps_from (from * states_in v) us h)
      ((own u stride some).commute between (states_in v) (tick_in v) far (states-some (v ∷ []))
      ((linear_laws (v ∷ [])).tick h) ((linear_laws (v ∷ [])).tick_asks h))
      (subst (λ m. All (Commute (step_in stride u)) (steps_from m us h)) next (later-commute u stride some us (between * states_in v) (next-some v between far)))

  steps-commute : (us : List Subsystem) (stride : ℕ) → 0 < stride → AllPairs Commute (steps_from stride us h)
  steps-commute [] stride some = λ i j d lt within. absurd (omega arith)
  steps-commute (u ∷ us) stride some =
      let next : ℕ = stride * states_in u in
      let same : next * 1 ≡ next = omega arith in
      AllPairs-cons Commute (step_in stride u) (steps_from next us h)
      (subst (λ m. All (Commute (step_in stride u)) (steps_from m us h)) same (later-commute u stride some us 1 (omega arith)))
      (steps-commute us next (next-some u stride some))

  steps-change : (us : List Subsystem) → IsShort us h → (f : Values ℕ) (i : ℕ) → i < states_of us
      → total (λ (P : Values ℕ → Values ℕ). P f i) (steps_of_subsystems us h) +ℚ f i
      ≡ tick_list us h f i +ℚ whole (length (steps_of_subsystems us h)) *ℚ f i
  steps-change us short f i below =
      let plain : (j : ℕ) → 0 + 1 * j ≡ j = λ j. omega arith in
      let all = add-up h f us short 1 0 i (omega arith) below in
      let values : (λ j. f (0 + 1 * j)) ≡ f = fun_ext (λ j. ap f (plain j)) in
      rw (steps-length us h 1) (rw (values, plain i) at all)

  pub separate : (us : List Subsystem) → length us ≤ 6 → IsShort us h → AreSeparate (states_of us) (tick_list us h) (steps_of_subsystems us h)
  separate us few short =
      let once : 1 * states_of us ≡ states_of us = omega arith in
      record {
        few = omega (arith, few, steps-length us h 1);
        linear = steps-linear us 1 (omega arith);
        commute = steps-commute us 1 (omega arith);
        keep = steps-keep us short 1 (omega arith);
        stay = subst (λ n. All (StaysBelow n) (steps_of_subsystems us h)) once (steps-stay us 1 (omega arith));
        changes = steps-change us short;
      }

-- the law of the crate, from that of steps of one digit
pub independence : DigitLaws → (us : List Subsystem) (h : Fraction) → length us ≤ 6 → All IsSubsystemInRange us → IsShort us h
    → AreSeparate (states_of us) (tick_list us h) (steps_of_subsystems us h)
independence law us h few ranges short = separate law h us few short
