-- Schedules whose beats are cut finer.
use Rattle.std.specs.Prelude.{◌≢◌, ℕ, Bool, List, [], ◌∷◌}
use Rattle.sil_fraction.specs.Fraction.{Fraction, ◌+ℚ◌, ◌≤ℚ◌, whole}
use Rattle.sil_model.specs.State.{FullState}
use Rattle.sil_model.specs.Pay.{Item, Mode, pay_of}
use Rattle.sil_model.specs.Pay.Item.{Beat}
use Rattle.sil_model.specs.declared.parts.Subsystem.{Subsystem}
use Rattle.model_laws.specs.Hours.{AreShort}
use Rattle.limit_laws.specs.Real.{Real, Approaches}
use Rattle.limit_laws.specs.Bounds.{most_of}

-- the second schedule is the first with some beats split, each into two of the same hours together, and these again
pub data IsFiner : List Item → List Item → Type 0 where
  none : IsFiner [] []
  same : {x : Item} {xs ys : List Item} → IsFiner xs ys → IsFiner (x ∷ xs) (x ∷ ys)
  split : {h g : Fraction} {counts : Bool} {xs ys : List Item} → h ≢ whole 0 → IsFiner (Beat h counts ∷ Beat g counts ∷ xs) ys
      → IsFiner (Beat (h +ℚ g) counts ∷ xs) ys

-- what a schedule pays in the limit of growing orders does not depend on how fine its beats are cut; `most` is any whole
-- number that the most that it pays does not exceed
pub record FinerLaws : Type 0 where
  pub limit : (us : List Subsystem) (m : Mode) (xs ys : List Item) → AreShort us xs → IsFiner xs ys → (most : ℕ) → most_of m ys ≤ℚ whole most
      → (s : FullState) (r : Real) → Approaches (λ n. pay_of us n m xs s) r → Approaches (λ n. pay_of us n m ys s) r
