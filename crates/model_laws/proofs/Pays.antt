-- What a vector pays in one beat, in any mode.
use Rattle.std.proofs.Common.{ℕ, List, ◌∷◌}
use Rattle.std.specs.Prelude.{true}
use Rattle.sil_fraction.specs.Fraction.{Fraction, ◌+ℚ◌, ◌*ℚ◌, ◌≤ℚ◌}
use Rattle.sil_fraction.proofs.Laws.{mul-le-left}
use Rattle.sil_fraction.proofs.Sums.{add-le-add}
use Rattle.sil_model.specs.State.{FullState}
use Rattle.sil_model.specs.Events.{events_of, step_of}
use Rattle.sil_model.specs.Series.{Values, beat_of, mean_of, weighed}
use Rattle.sil_model.specs.Pay.{Item, Mode, pay_of, payoff_of}
use Rattle.sil_model.specs.Pay.Item.{Beat}
use Rattle.sil_model.specs.declared.parts.Subsystem.{Subsystem}
use Rattle.model_laws.proofs.Weighing.{weighed-both}

-- what is weighed after a beat and what is added for it, against what was weighed before it
pub beat_paid : (us : List Subsystem) (n : ℕ) (h : Fraction) (is : List FullState) (before after stay : FullState → ℕ)
    → ((f : Values FullState) → weighed is after f ≤ℚ weighed is before (beat_of (step_of (events_of us) h) n f))
    → ((f : Values FullState) → weighed is stay f ≤ℚ weighed is before (mean_of (step_of (events_of us) h) n f))
    → (m : Mode) (rest : List Item) → weighed is after (pay_of us n m rest) +ℚ h *ℚ weighed is stay (payoff_of us m) ≤ℚ weighed is before (pay_of us n m (Beat h true ∷ rest))
unfolding pay_of
beat_paid us n h is before after stay ends stays m rest =
    rw (weighed-both is before (beat_of (step_of (events_of us) h) n (pay_of us n m rest)) (mean_of (step_of (events_of us) h) n (payoff_of us m)) h)
    (add-le-add _ _ _ _ (ends (pay_of us n m rest)) (mul-le-left h _ _ (stays (payoff_of us m))))
