-- How large the computation of a loop is.
use Rattle.std.specs.Prelude.{ℕ, ◌+◌, ◌*◌, ◌^◌, ◌<◌, length, take, sum_by}
use Rattle.sil_model.specs.LoopValue.{LoopValue}
use Rattle.sil_model.specs.Calendar.{phases_of, beats_of}
use Rattle.sil_model.specs.Sizes.{states_of, all_beats_of, work_of}
use Rattle.sil_model.specs.Budget.{group_tests_of}
use Rattle.uniformise.specs.Beat.{beat_products}
use Rattle.phase_powers.specs.Products.{powered_products}
use Rattle.sil_model.specs.declared.answers.Sizes.{Sizes}

-- the sizes of a loop at an order of the series
abbrev pub sizes_of : LoopValue → ℕ → Sizes
sizes_of l order = record {
  phases = length (phases_of l);
  states = states_of l.subsystems;
  beats = all_beats_of l;
  work = work_of l order;
}

-- how many products the figures of a loop take at most, at an order of the series: those of its beats, those of its tests, and
-- four for each state besides
unfoldable pub value_products : LoopValue → ℕ → ℕ
value_products l order =
    all_beats_of l * beat_products l.subsystems order + group_tests_of l * (18 * states_of l.subsystems + 200) + 4 * states_of l.subsystems + 100

-- a number of binary digits for each number, in which it has room
abbrev pub HaveRoom : (ℕ → ℕ) → Type 0
HaveRoom digits = (n : ℕ) → n < 2 ^ digits n

-- the products of the first p phases by powers, where the beats of a phase have so many binary digits
abbrev pub powered_until : LoopValue → ℕ → (ℕ → ℕ) → ℕ → ℕ
powered_until l order digits p =
    sum_by (λ q. powered_products l.subsystems order (digits (beats_of l.subsystems q.hours))) (take p (phases_of l))

-- and how many the figures of a loop take at most, by powers
unfoldable pub value_products_by_powers : LoopValue → ℕ → (ℕ → ℕ) → ℕ
value_products_by_powers l order digits =
    powered_until l order digits (length (phases_of l)) + group_tests_of l * (18 * states_of l.subsystems + 200) + 4 * states_of l.subsystems + 100
