-- A chain before any place is reached.
use Rattle.std.specs.Prelude.{true}
use Rattle.std.proofs.Common.{◌≡◌, ℕ, ◌≤◌, List, [], ◌∷◌, refl, arith}
use Rattle.sil_model.specs.LoopValue.{IsValid}
use Rattle.sil_model.specs.Sizes.{states_of, most_states}
use Rattle.product_chain.specs.declared.column.Entry.{Entry}
use Rattle.product_chain.specs.Kept.{ChainValue, IsTimed}
use Rattle.place_chain.specs.PlaceChain.{IsPlaceChain}

pub reached-none : (c : ChainValue) (places starts : List ℕ) (entries : List Entry) → IsValid c.of → states_of c.of.subsystems ≤ most_states
    → IsTimed c.of.subsystems c.hours c.beats → places ≡ [] → starts ≡ 0 ∷ [] → entries ≡ [] → IsPlaceChain c places true starts entries
reached-none c places starts entries valid few timed p s e = rw (p, s, e) (record {
  valid = valid;
  few = few;
  timed = timed;
  placed = record {
    rising = λ k l a b. absurd (omega arith);
    below = λ k a. absurd (omega arith);
    few = omega arith;
  };
  shut = λ e k j a. absurd (omega arith);
  between = record {
    columns = record {
      parts = record { number = omega arith; first = refl; rising = λ k h. absurd (omega arith); last = refl };
      few = λ k h. absurd (omega arith);
      sources = λ k h. absurd (omega arith);
      weights = λ k h. absurd (omega arith);
    };
    weights = λ v k h. absurd (omega arith);
    number = omega arith;
  };
})
