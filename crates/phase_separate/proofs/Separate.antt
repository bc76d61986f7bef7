-- The subsystems of a chain pass its beats each for itself.
use Rattle.std.proofs.Common.{List}
use Rattle.sil_fraction.specs.Fraction.{Fraction}
use Rattle.sil_model.specs.LoopValue.{IsValid}
use Rattle.sil_model.specs.Sizes.{states_of}
use Rattle.sil_model.specs.declared.parts.Subsystem.{Subsystem}
use Rattle.model_laws.specs.Hours.{IsShort}
use Rattle.model_laws.proofs.Rates.{short}
use Rattle.lumped_laws.specs.ValueLists.{tick_list}
use Rattle.lumped_laws.proofs.LinearLists.{linear_laws}
use Rattle.product_chain.specs.Kept.{ChainValue, IsTimed}
use Rattle.uniformise.specs.Beat.{hours_of_beat}
use Rattle.exponential_laws.proofs.Terms.{exponential_law}
use Rattle.separate_laws.proofs.Along.{stays-asks}
use Rattle.separate_laws.proofs.DigitLaws.{digit_law}
use Rattle.separate_laws.specs.Laws.{SeparateLaw}
use Rattle.separate_laws.proofs.Separates.{separate_law}
use Rattle.separate_laws.proofs.Independence.{independence}
use Rattle.phase_separate.specs.Subsystems.{steps_at}

pub separate : (c : ChainValue) → IsValid c.of → IsTimed c.of.subsystems c.hours c.beats
    → SeparateLaw (states_of c.of.subsystems) (tick_list c.of.subsystems (hours_of_beat c)) (steps_at c)
separate c valid timed =
    let us : List Subsystem = c.of.subsystems in
    let h : Fraction = hours_of_beat c in
    let brief : IsShort us h = short us valid.subsystems c.hours c.beats timed.enough in
    separate_law exponential_law (states_of us) (tick_list us h) ((linear_laws us).tick h) ((linear_laws us).tick_keeps h brief)
    (stays-asks (states_of us) (tick_list us h) ((linear_laws us).tick_asks h)) (steps_at c)
    (independence digit_law us h valid.few.below valid.subsystems brief)
