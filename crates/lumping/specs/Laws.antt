-- The laws of the numbering of count vectors.
use Rattle.std.specs.Prelude.{◌≡◌, ℕ, ◌<◌, ◌≤◌, List, length}
use Rattle.sil_model.specs.Sizes.{states_over}
use Rattle.sil_model.specs.Counts.{IsCounts, count_in, moved_in, number_of, counts_numbered, counts_at_start}
use Rattle.sil_model.specs.declared.parts.Chan.{Chan}
use Rattle.sil_model.specs.declared.parts.Group.{Group}

-- count vectors and the numbers below the number of states are each other's inverse, and the start has the number 0
pub record NumberingLaws (gs : List Group) : Type 0 where
  pub below : (cs : List ℕ) → IsCounts gs cs → number_of gs cs < states_over gs
  pub back : (cs : List ℕ) → IsCounts gs cs → counts_numbered gs (number_of gs cs) ≡ cs
  pub valid : (i : ℕ) → IsCounts gs (counts_numbered gs i)
  pub forth : (i : ℕ) → i < states_over gs → number_of gs (counts_numbered gs i) ≡ i
  pub start_valid : IsCounts gs (counts_at_start gs)
  pub start_first : number_of gs (counts_at_start gs) ≡ 0

-- channels of one group that go from one state to another lead from a count vector to a count vector
abbrev pub MovingLaw : Type 0
MovingLaw = (gs : List Group) (cs : List ℕ) (g n : ℕ) (from to : Chan) → IsCounts gs cs → g < length gs → n ≤ count_in cs g from → IsCounts gs (moved_in cs g from to n)
