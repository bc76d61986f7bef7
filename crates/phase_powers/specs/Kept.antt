-- Which phase matrices are kept of.
use Rattle.std.specs.Prelude.{◌≡◌, ℕ, Option, Some, None}
use Rattle.sil_model.specs.LoopValue.{LoopValue}
use Rattle.product_chain.specs.Kept.{ChainValue}

-- the phase of a chain, by weights of an order
pub record PhaseValue : Type 0 where
  pub chain : ChainValue
  pub order : ℕ

-- the hours and beats of its chain
pub record IsTimedSo (c : ChainValue) (hours beats : ℕ) : Type 0 where
  pub hours_same : c.hours ≡ hours
  pub beats_same : c.beats ≡ beats

-- powers as contracts see them: their size, and of which loop they are, where they are of one
pub record PowersValue : Type 0 where
  pub size : ℕ
  pub of : Option LoopValue

abbrev pub loop_of : Option PhaseValue → Option LoopValue
loop_of None = None
loop_of (Some p) = Some p.chain.of

-- of this loop or of none
abbrev pub IsOfNoOther : Option LoopValue → LoopValue → Type 0
IsOfNoOther None l = Unit {0}
IsOfNoOther (Some k) l = k ≡ l

-- of a phase of these hours and beats, by this order
abbrev pub IsOfPhase : ℕ → ℕ → ℕ → Option PhaseValue → Type 0
IsOfPhase hours beats order None = ⊥
IsOfPhase hours beats order (Some p) = (p.chain.hours ≡ hours) × (p.chain.beats ≡ beats) × (p.order ≡ order)
