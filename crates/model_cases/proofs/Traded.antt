-- Two channels that trade places.
use Rattle.std.proofs.Common.{◌≡◌, ℕ, [], refl, arith}
use Rattle.std.proofs.lemmas.List.Elements.{All-nil, All-cons}
use Rattle.sil_fraction.specs.Fraction.{Fraction, of, ◌+ℚ◌, ◌*ℚ◌, ◌-ℚ◌, ◌≤ℚ◌, whole, inverse}
use Rattle.sil_fraction.proofs.Laws.{le_antisymm}
use Rattle.sil_model.specs.State.{is_up_of, is_same_state, count_of}
use Rattle.sil_model.specs.Events.{events_of, events_from, flow_of, step_of, failure_rate, common_rate, share_of}
use Rattle.sil_model.specs.Calendar.{tests_at}
use Rattle.sil_model.specs.Series.{factorial, series_of, tail_of, beat_of, mean_of}
use Rattle.sil_model.specs.Pay.{pay_of, payoff_of, last_of, passage_of, testing_of}
use Rattle.sil_model.specs.LoopValue.{groups_of}
use Rattle.sil_model.specs.declared.parts.Chan.{Chan}
use Rattle.sil_model.specs.declared.parts.Chan.TheVariants.{Work, Hidden, Deep, Repair}
use Rattle.sil_model.specs.declared.parts.Group.{Group}
use Rattle.count_laws.specs.SameCounts.{IsSameCounts, count_in_group}
use Rattle.model_cases.specs.Exchange.{pair, one_way, other_way, ExchangeCases}

-- as many of both in each state
abbrev IsSameIn : Group → Type 0
IsSameIn g = (k : Chan) → count_in_group (pair 0) g k one_way ≡ count_in_group (pair 0) g k other_way

in_both : (k : Chan) → count_of k one_way ≡ count_of k other_way
in_both Work = refl
in_both Hidden = refl
in_both Deep = refl
in_both Repair = refl

together : IsSameCounts (pair 0) one_way other_way
unfolding groups_of
together =
    let both : Group = record { subsystem = 0; first_channel = 0; size = 2 } in
    record { full = refl; also_full = refl; counts = All-cons IsSameIn both [] in_both (All-nil IsSameIn) }

-- the first group has one channel, which works in one of them alone
apart : IsSameCounts (pair 1) one_way other_way → ⊥
unfolding groups_of
apart h =
    let first : Group = record { subsystem = 0; first_channel = 0; size = 1 } in
    let one : ◌≡◌ {A = ℕ} 1 0 = h.counts 0 first (omega arith) Work in
    absurd (omega arith)

pub traded : ExchangeCases
unfolding pay_of payoff_of last_of passage_of testing_of factorial series_of tail_of beat_of mean_of events_of events_from flow_of step_of failure_rate common_rate share_of tests_at is_up_of is_same_state Fraction of ◌+ℚ◌ ◌*ℚ◌ ◌-ℚ◌ ◌≤ℚ◌ whole inverse
traded = record {
  together = together;
  together_one_way = le_antisymm _ _ refl refl;
  together_other_way = le_antisymm _ _ refl refl;
  apart = apart;
  apart_one_way = le_antisymm _ _ refl refl;
  apart_other_way = le_antisymm _ _ refl refl;
}
