-- Ticks, beats and tests of value lists are linear, and keep constants.
use Rattle.std.proofs.Common.{◌≡◌, ℕ, ◌<◌, true, false, List, [], ◌∷◌, get_or, set, refl, ap, ◌∙◌}
use Rattle.std.specs.Prelude.{if◌then◌else◌}
use mathlib.Core.Path.{fun_ext}
use Rattle.sil_fraction.specs.Fraction.{Fraction, ◌+ℚ◌, ◌*ℚ◌, ◌-ℚ◌, ◌≤ℚ◌, whole}
use Rattle.sil_fraction.proofs.Laws.{add_comm, mul-add, one-mul, sub-add, mul-le-left, front}
use Rattle.sil_fraction.proofs.Sums.{add-le-add, add-mul}
use Rattle.sil_model.specs.State.{FullState}
use Rattle.sil_model.specs.Events.{events_of}
use Rattle.sil_model.specs.Series.{Values}
use Rattle.sil_model.specs.Calendar.{ChannelTest}
use Rattle.sil_model.specs.Pay.{tested}
use Rattle.sil_model.specs.Sizes.{states_of}
use Rattle.sil_model.specs.declared.parts.Chan.{Chan}
use Rattle.sil_model.specs.declared.parts.Chan.TheVariants.{Work, Hidden, Deep, Repair}
use Rattle.sil_model.specs.declared.parts.Subsystem.{Subsystem}
use Rattle.model_laws.specs.Polynomial.{IsLinear}
use Rattle.model_laws.specs.Hours.{IsShort, AreChances}
use Rattle.model_laws.specs.Hours.AreChances.{none, one}
use Rattle.model_laws.proofs.Operators.{step-linear, step-constant}
use Rattle.model_laws.proofs.Beats.{beat-linear, beat-constant}
use Rattle.count_laws.specs.AfterTests.{after_tests}
use Rattle.lumped_laws.specs.CountsOfState.{number_of_state}
use Rattle.lumped_laws.specs.StateOfCounts.{state_numbered}
use Rattle.lumped_laws.specs.ValueLists.{at_number, tick_list, beat_list, test_list}
use Rattle.lumped_laws.specs.LinearLists.{KeepsConstants, AsksBelow, LinearLaw}
use Rattle.lumped_laws.proofs.States.{IsSame, number-small, numbered-full}
use Rattle.lumped_laws.proofs.Ticks.{step-full}
use Rattle.lumped_laws.proofs.TestHours.{after-add, after-full}

-- an operator on values of full states, asked at the full state of each number
module _ (us : List Subsystem) (T : Values FullState → Values FullState) where
  abbrev listed : Values ℕ → Values ℕ
  listed f i = T (at_number us f) (state_numbered us i)

  listed-linear : IsLinear T → IsLinear listed
  listed-linear linear = record {
    adds = λ f g. fun_ext (λ i. ap (λ (v : Values FullState). v (state_numbered us i)) (linear.adds (at_number us f) (at_number us g)));
    scales = λ c f. fun_ext (λ i. ap (λ (v : Values FullState). v (state_numbered us i)) (linear.scales c (at_number us f)));
    grows = λ f g le i. linear.grows (at_number us f) (at_number us g) (λ s. le (number_of_state us s)) (state_numbered us i);
  }

-- tests are linear
module _ (t : ChannelTest) where
  abbrev rest : Fraction
  rest = whole 1 -ℚ t.fault

  tested-scales : (c : Fraction) (f : Values FullState) (k : Chan) (s : FullState) → tested t k (λ x. c *ℚ f x) s ≡ c *ℚ tested t k f s
  tested-scales c f Work s =
      let x : FullState = set s t.channel Hidden in
      cc (front t.fault c (f x), front rest c (f s), mul-add c (t.fault *ℚ f x) (rest *ℚ f s))
  tested-scales c f Hidden s = refl
  tested-scales c f Deep s =
      let x : FullState = set s t.channel Repair in
      elim t.full as (λ b. (if b then c *ℚ f x else c *ℚ f s) ≡ c *ℚ (if b then f x else f s)) [ true ↦ refl | false ↦ refl ]
  tested-scales c f Repair s = refl

  tested-grows : (f g : Values FullState) → ((x : FullState) → f x ≤ℚ g x) → (k : Chan) (s : FullState) → tested t k f s ≤ℚ tested t k g s
  tested-grows f g le Work s = add-le-add _ _ _ _ (mul-le-left t.fault _ _ (le (set s t.channel Hidden))) (mul-le-left rest _ _ (le s))
  tested-grows f g le Hidden s = le _
  tested-grows f g le Deep s =
      let x : FullState = set s t.channel Repair in
      elim t.full as (λ b. (if b then f x else f s) ≤ℚ (if b then g x else g s)) [ true ↦ le x | false ↦ le s ]
  tested-grows f g le Repair s = le s

  tested-constant : t.fault ≤ℚ whole 1 → (c : Fraction) (k : Chan) (s : FullState) → tested t k (λ x. c) s ≡ c
  tested-constant likely c Work s =
      let all : t.fault +ℚ rest ≡ whole 1 = add_comm t.fault rest ∙ sub-add (whole 1) t.fault likely in
      cc (add-mul t.fault rest c, all, one-mul c)
  tested-constant likely c Hidden s = refl
  tested-constant likely c Deep s = elim t.full as (λ b. (if b then c else c) ≡ c) [ true ↦ refl | false ↦ refl ]
  tested-constant likely c Repair s = refl

after-scales : (ts : List ChannelTest) (c : Fraction) (f : Values FullState) (s : FullState)
    → after_tests ts (λ x. c *ℚ f x) s ≡ c *ℚ after_tests ts f s
after-scales [] c f s = refl
after-scales (t ∷ ts) c f s =
    ap (λ (g : Values FullState). tested t (get_or s t.channel Work) g s) (fun_ext (after-scales ts c f))
    ∙ tested-scales t c (after_tests ts f) (get_or s t.channel Work) s

pub after-grows : (ts : List ChannelTest) (f g : Values FullState) → ((x : FullState) → f x ≤ℚ g x)
    → (s : FullState) → after_tests ts f s ≤ℚ after_tests ts g s
after-grows [] f g le s = le s
after-grows (t ∷ ts) f g le s = tested-grows t (after_tests ts f) (after_tests ts g) (after-grows ts f g le) (get_or s t.channel Work) s

after-linear : (ts : List ChannelTest) → IsLinear (after_tests ts)
after-linear ts = record {
  adds = λ f g. fun_ext (after-add ts f g);
  scales = λ c f. fun_ext (after-scales ts c f);
  grows = after-grows ts;
}

pub after-constant : (ts : List ChannelTest) → AreChances ts → (c : Fraction) (s : FullState) → after_tests ts (λ x. c) s ≡ c
after-constant [] none c s = refl
after-constant (t ∷ ts) (one likely more) c s =
    ap (λ (g : Values FullState). tested t (get_or s t.channel Work) g s) (fun_ext (after-constant ts more c))
    ∙ tested-constant t likely c (get_or s t.channel Work) s

module _ (us : List Subsystem) where
  pub tick-linear : (h : Fraction) → IsLinear (tick_list us h)
  unfolding tick_list
  tick-linear h = listed-linear us _ (step-linear (events_of us) h)

  pub beat_list-linear : (n : ℕ) (h : Fraction) → IsLinear (beat_list us n h)
  beat_list-linear n h = beat-linear (tick_list us h) (tick-linear h) n

  tests-linear : (ts : List ChannelTest) → IsLinear (test_list us ts)
  unfolding test_list
  tests-linear ts = listed-linear us (after_tests ts) (after-linear ts)

  tick-keeps : (h : Fraction) → IsShort us h → KeepsConstants (tick_list us h)
  unfolding tick_list
  tick-keeps h short c = fun_ext (λ i. step-constant (events_of us) h short.leaves c (state_numbered us i))

  tests-keep : (ts : List ChannelTest) → AreChances ts → KeepsConstants (test_list us ts)
  unfolding test_list
  tests-keep ts likely c = fun_ext (λ i. after-constant ts likely c (state_numbered us i))

  -- full states have numbers of states
  below : (f g : Values ℕ) → ((i : ℕ) → i < states_of us → f i ≡ g i) → IsSame us (at_number us f) (at_number us g)
  below f g same s full = same (number_of_state us s) (number-small us s full)

  tick-asks : (h : Fraction) → AsksBelow (states_of us) (tick_list us h)
  unfolding tick_list
  tick-asks h f g same i = step-full us h (at_number us f) (at_number us g) (below f g same) (state_numbered us i) (numbered-full us i)

  tests-ask : (ts : List ChannelTest) → AsksBelow (states_of us) (test_list us ts)
  unfolding test_list
  tests-ask ts f g same i = after-full us ts (at_number us f) (at_number us g) (below f g same) (state_numbered us i) (numbered-full us i)

  pub linear_laws : LinearLaw us
  linear_laws = record {
    tick = tick-linear;
    beat = beat_list-linear;
    tests = tests-linear;
    tick_keeps = tick-keeps;
    beat_keeps = λ n h short c. beat-constant (tick_list us h) c (tick-keeps h short c) n;
    tests_keep = tests-keep;
    tick_asks = tick-asks;
    tests_ask = tests-ask;
  }
