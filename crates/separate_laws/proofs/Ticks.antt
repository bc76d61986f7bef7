-- What a tick of a loop changes, a tick of the first subsystem changes in the low digits of a number, and one of the others in the high ones.
use Rattle.std.proofs.Common.{◌≡◌, ℕ, ◌+◌, ◌*◌, ◌<◌, List, [], ◌∷◌, ◌++◌, length, refl, sym, ap, ◌∙◌, arith}
use Rattle.sil_fraction.specs.Fraction.{Fraction, ◌+ℚ◌, whole}
use Rattle.sil_fraction.proofs.Laws.{zero-add, one-mul}
use Rattle.sil_fraction.proofs.Sums.{mul-zero, sub-zero}
use Rattle.sil_model.specs.State.{FullState}
use Rattle.sil_model.specs.Events.{events_from, events_of, flow_of, step_of}
use Rattle.sil_model.specs.Series.{Values}
use Rattle.sil_model.specs.LoopValue.{groups_of}
use Rattle.sil_model.specs.Counts.{number_of}
use Rattle.sil_model.specs.Sizes.{states_of}
use Rattle.sil_model.specs.declared.parts.Subsystem.{Subsystem}
use Rattle.model_laws.specs.Hours.{IsShort}
use Rattle.lumped_laws.specs.CountsOfState.{number_of_state}
use Rattle.lumped_laws.specs.StateOfCounts.{state_numbered}
use Rattle.lumped_laws.specs.ValueLists.{at_number, tick_list}
use Rattle.lumped_laws.proofs.States.{number-numbered, numbered-full}
use Rattle.lumped_laws.proofs.Ticks.{step-full}
use Rattle.separate_laws.proofs.SubsystemSteps.{step-parts}
use Rattle.separate_laws.proofs.StateNumbers.{number-parts, numbered-parts}

module _ (u : Subsystem) (us : List Subsystem) (h : Fraction) (short : IsShort (u ∷ us) h) where
  abbrev only : List Subsystem
  only = u ∷ []

  abbrev width : ℕ
  width = states_of (u ∷ [])

  pub tick-parts : (f : Values ℕ) (lo hi : ℕ) → lo < width → hi < states_of us
      → tick_list (u ∷ us) h f (lo + width * hi) +ℚ f (lo + width * hi)
      ≡ tick_list only h (λ a. f (a + width * hi)) lo +ℚ tick_list us h (λ b. f (lo + width * b)) hi
  unfolding tick_list
  tick-parts f lo hi low high =
      let s : FullState = state_numbered only lo in
      let t : FullState = state_numbered us hi in
      let F : Values FullState = at_number (u ∷ us) f in
      let i : ℕ = lo + width * hi in
      let long : u.vote.n ≡ length s = omega (arith, numbered-full only lo) in
      let of_s : number_of_state only s ≡ lo = number-numbered only lo low in
      let of_t : number_of_state us t ≡ hi = number-numbered us hi high in
      let whole_state : state_numbered (u ∷ us) i ≡ s ++ t = numbered-parts u us lo hi low in
      let here : F (s ++ t) ≡ f i = ap f (number-parts u us s t long ∙ cc (of_s, of_t)) in
      let first : step_of (events_of only) h (λ x. F (x ++ t)) s ≡ step_of (events_of only) h (at_number only (λ a. f (a + width * hi))) s =
      step-full only h (λ x. F (x ++ t)) (at_number only (λ a. f (a + width * hi)))
      (λ x full. ap f (number-parts u us x t (omega (arith, full)) ∙ ap (λ n. number_of_state only x + width * n) of_t))
      s (numbered-full only lo) in
      let second : step_of (events_of us) h (λ y. F (s ++ y)) t ≡ step_of (events_of us) h (at_number us (λ b. f (lo + width * b))) t =
      step-full us h (λ y. F (s ++ y)) (at_number us (λ b. f (lo + width * b)))
      (λ y full. ap f (number-parts u us s y long ∙ ap (λ n. n + width * number_of_state us y) of_s))
      t (numbered-full us hi) in
      ap (λ x. step_of (events_of (u ∷ us)) h F x +ℚ f i) whole_state
      ∙ ap (λ x. step_of (events_of (u ∷ us)) h F (s ++ t) +ℚ x) (sym here)
      ∙ step-parts u us h short F s t long
      ∙ cc (first, second)

-- without a subsystem nothing changes
pub tick-none : (h : Fraction) (f : Values ℕ) → tick_list [] h f 0 ≡ f 0
unfolding tick_list step_of flow_of events_of events_from number_of_state groups_of number_of
tick-none h f = rw (mul-zero h, sub-zero (whole 1), one-mul (f 0), zero-add (f 0)) refl
