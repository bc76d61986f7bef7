-- How many count vectors a subsystem has.
use Rattle.std.proofs.Common.{◌≡◌, ◌≢◌, ℕ, zero, suc, ◌^◌, ◌≤◌, [], ◌∷◌, sym, ap, ◌∙◌, arith, append-nil, ne_eqb, lit≤}
use Rattle.std.specs.Prelude.{Some, None}
use Rattle.std.proofs.Math.Nat.{pow-suc, pow-zero, pow-le-pow_right}
use Rattle.sil_model.specs.LoopValue.{groups_of, groups_by_test, single_groups}
use Rattle.sil_model.specs.Sizes.{channel_states, shares_of, states_over, states_of}
use Rattle.sil_model.specs.declared.parts.Subsystem.{Subsystem}
use Rattle.sil_model.specs.declared.parts.TestPlan.{TestPlan}

-- each group of one channel has as many count vectors as a channel has states
pub states-single : (i c n : ℕ) → states_over (single_groups i c n) ≡ channel_states ^ n
states-single i c zero = sym (pow-zero channel_states)
states-single i c (suc n) = omega (arith, states-single i (suc c) n, pow-suc channel_states n)

pub pow-few : (n : ℕ) → n ≤ 8 → channel_states ^ n ≤ channel_states ^ 8
pow-few n h = pow-le-pow_right {n = channel_states} (lit≤ tt) h

pub pow-some : (n : ℕ) → 1 ≤ channel_states ^ n
pow-some zero = omega (arith, pow-zero channel_states)
pow-some (suc n) = omega (arith, pow-some n, pow-suc channel_states n)

module _ (u : Subsystem) where
  pub states-alone : states_of (u ∷ []) ≡ states_over (groups_by_test 0 u.vote.n u.test)
  unfolding states_of groups_of
  states-alone = ap states_over (append-nil _)

  -- channels that are tested one by one
  pub states-staggered : (p : TestPlan) → u.test ≡ Some p → p.stagger ≢ 0 → states_of (u ∷ []) ≡ channel_states ^ u.vote.n
  states-staggered p planned apart = states-alone ∙ rw (planned, ne_eqb p.stagger 0 apart) (states-single 0 0 u.vote.n)

  -- channels that are tested together, or not at all
  pub states-together : (p : TestPlan) → u.test ≡ Some p → p.stagger ≡ 0 → states_of (u ∷ []) ≡ shares_of u.vote.n
  states-together p planned at_once = states-alone ∙ rw (planned, at_once) (omega arith)

  pub states-untested : u.test ≡ None → states_of (u ∷ []) ≡ shares_of u.vote.n
  states-untested none = states-alone ∙ rw none (omega arith)
