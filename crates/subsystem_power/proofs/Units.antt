-- The whole at one state, and what becomes of it in a beat.
use Rattle.std.proofs.Common.{◌≡◌, ℕ, ◌+◌, ◌^◌, ◌<◌, ◌≤◌, List, length, set, sum, get_or, slice_index, ap, ◌∙◌, arith}
use Rattle.sil_fraction.specs.Fraction.{◌*ℚ◌, ◌≤ℚ◌, whole}
use Rattle.sil_fraction.proofs.Laws.{zero-add}
use Rattle.sil_model.specs.Series.{Values}
use Rattle.lumped_laws.specs.ValueLists.{beat_list}
use Rattle.vector_laws.specs.Vectors.{weigh}
use Rattle.vector_laws.proofs.Masses.{sum-none, sum-more}
use Rattle.vector_laws.proofs.Weighing.{weigh-none, weigh-more}
use Rattle.product_chain.specs.Kept.{ChainValue}
use Rattle.uniformise.specs.Beat.{hours_of_beat, vector_loss}
use Rattle.subsystem_power.specs.Rooms.{IsRow}

-- the whole at one state, and nothing elsewhere
module _ (zeros : List ℕ) (none : (k : ℕ) → k < length zeros → slice_index zeros k ≡ 0) (i : ℕ) (inside : i < length zeros) where
  abbrev pub unit : List ℕ
  unit = set zeros i (2 ^ 48)

  is_unit : set zeros i (get_or zeros i 0 + 2 ^ 48) ≡ unit
  is_unit = ap (λ n. set zeros i (n + 2 ^ 48)) (none i inside)

  pub unit_weighs : (f : Values ℕ) → weigh unit f ≡ whole (2 ^ 48) *ℚ f i
  unit_weighs f = rw (is_unit, weigh-none zeros none f, zero-add) at (weigh-more zeros i (2 ^ 48) f inside)

  pub unit_mass : sum unit ≡ 2 ^ 48
  unit_mass = rw is_unit at (sum-more zeros i (2 ^ 48) inside) ∙ ap (λ n. n + 2 ^ 48) (sum-none zeros none)

  -- a beat of it
  pub made_row : (c : ChainValue) (order : ℕ) (end : List ℕ)
      → ((N : ℕ) → order ≤ N → (f : Values ℕ) → weigh end f ≤ℚ weigh unit (beat_list c.of.subsystems N (hours_of_beat c) f))
      → sum end ≤ sum unit → sum unit ≤ sum end + vector_loss c.of.subsystems order → IsRow c order i end
  made_row c order end encloses kept lack = record {
    weighs = λ N within f. rw unit_weighs at (encloses N within f);
    most = omega (arith, kept, unit_mass);
    least = omega (arith, lack, unit_mass);
  }
