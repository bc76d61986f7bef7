-- The subsystems of a chain, each as a chain for itself.
use Rattle.std.specs.Prelude.{ℕ, ◌+◌, ◌≤◌, List, [], ◌∷◌, map, sum_by, All}
use Rattle.sil_model.specs.Series.{Values}
use Rattle.sil_model.specs.LoopValue.{LoopValue}
use Rattle.sil_model.specs.declared.parts.Subsystem.{Subsystem}
use Rattle.vector_laws.specs.Matrix.{most_rows}
use Rattle.product_chain.specs.Kept.{ChainValue}
use Rattle.uniformise.specs.Beat.{hours_of_beat, vector_loss}
use Rattle.separate_laws.specs.Subsystems.{states_in, steps_of_subsystems}
use Rattle.subsystem_power.specs.Powers.{PowerValue, alone_of}
use Rattle.phase_separate.specs.declared.along.Span.{Span}
use Rattle.phase_separate.specs.declared.along.Span.TheVariants.{Power, Sixteen}

-- the chain of one subsystem alone, with the beats of the whole
abbrev pub chain_alone : ChainValue → Subsystem → ChainValue
chain_alone c u = record c { of = alone_of c.of u }

-- the subsystems of a chain, with the powers of so many beats
abbrev pub powers_at : ChainValue → ℕ → List PowerValue
powers_at c n = map (λ u. record { chain = chain_alone c u; power = n }) c.of.subsystems

-- the loops of some subsystems
abbrev pub loops_of : List PowerValue → List LoopValue
loops_of ps = map (λ p. p.chain.of) ps

-- the steps of the subsystems in a tick of the chain
abbrev pub steps_at : ChainValue → List (Values ℕ → Values ℕ)
steps_at c = steps_of_subsystems c.of.subsystems (hours_of_beat c)

-- over how many beats a matrix goes
abbrev pub beats_over : Span → ℕ → ℕ
beats_over Power n = n
beats_over Sixteen n = 16

-- no subsystem has more count vectors than a matrix has rows
abbrev pub HaveFewStates : List Subsystem → Type 0
HaveFewStates us = All (λ u. states_in u ≤ most_rows) us

-- what one beat of all subsystems lacks in the matrices, at most
abbrev pub matrix_loss : List Subsystem → ℕ
matrix_loss us = sum_by (λ u. vector_loss (u ∷ []) 16 + states_in u) us
