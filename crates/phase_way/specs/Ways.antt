-- How many products a phase takes at most, by each way.
use Rattle.std.specs.Prelude.{ℕ, ◌*◌, List}
use Rattle.sil_model.specs.declared.parts.Subsystem.{Subsystem}
use Rattle.uniformise.specs.Beat.{beat_products}
use Rattle.phase_powers.specs.Products.{powered_products}
use Rattle.phase_separate.specs.Products.{separate_products}
use Rattle.phase_way.specs.declared.choice.Way.{Way}
use Rattle.phase_way.specs.declared.choice.Way.TheVariants.{Blocks, Powers, Subsystems}

-- the most states of a loop that may pass by powers, so that they bound its products
abbrev pub most_powered_states : ℕ
most_powered_states = 64

-- the products of so many beats, which have so many binary digits
abbrev pub products_by : List Subsystem → ℕ → ℕ → ℕ → Way → ℕ
products_by us order beats digits Blocks = beats * beat_products us order
products_by us order beats digits Powers = powered_products us order digits
products_by us order beats digits Subsystems = separate_products us digits
