-- The phases between the test hours, by their numbers.
use Rattle.std.proofs.Common.{◌≡◌, ℕ, zero, suc, ◌+◌, ◌-◌, ◌<◌, ◌≤◌, List, [], ◌∷◌, length, get_or, refl, ap, ◌∙◌, arith, false}
use Rattle.std.specs.Prelude.{All, Bool, filter}
use Rattle.std.proofs.lemmas.List.Elements.{All-nil, All-cons}
use Rattle.sil_model.specs.LoopValue.{IsWithin}
use Rattle.sil_model.specs.Calendar.{Phase, phases_from, upto}
use Rattle.schedule_laws.proofs.Rising.{IsRising, none, one, filter_rises}

module _ (mission : ℕ) where
  -- one phase more than there are test hours
  pub length-phases : (t : ℕ) (cuts : List ℕ) → length (phases_from mission t cuts) ≡ suc (length cuts)
  length-phases t [] = refl
  length-phases t (cut ∷ cuts) = ap suc (length-phases cut cuts)

  -- each phase begins where the one before it ends
  pub start-at : (t : ℕ) (cuts : List ℕ) (i : ℕ) (d : Phase) → i ≤ length cuts → (get_or (phases_from mission t cuts) i d).start ≡ get_or (t ∷ cuts) i 0
  start-at t [] zero d h = refl
  start-at t [] (suc i) d h = absurd (omega arith)
  start-at t (cut ∷ cuts) zero d h = refl
  start-at t (cut ∷ cuts) (suc i) d h = start-at cut cuts i d (omega arith)

  -- and ends at the next test hour, or with the mission
  pub hours-at : (t : ℕ) (cuts : List ℕ) (i : ℕ) (d : Phase) → i ≤ length cuts → (get_or (phases_from mission t cuts) i d).hours ≡ get_or cuts i mission - get_or (t ∷ cuts) i 0
  hours-at t [] zero d h = refl
  hours-at t [] (suc i) d h = absurd (omega arith)
  hours-at t (cut ∷ cuts) zero d h = refl
  hours-at t (cut ∷ cuts) (suc i) d h = hours-at cut cuts i d (omega arith)

  abbrev pub Lasts : Phase → Type 0
  Lasts p = IsWithin 1 350_400 p.hours

  within : mission ≤ 350_400 → (t : ℕ) (cuts : List ℕ) → t < mission → IsRising mission (suc t) cuts → All Lasts (phases_from mission t cuts)
  within m t [] h (none g) = All-cons Lasts _ [] (record { above = omega arith; below = omega arith }) (All-nil Lasts)
  within m t (cut ∷ cuts) h (one a b more) = All-cons Lasts _ _ (record { above = omega arith; below = omega arith }) (within m cut cuts b more)

  -- where no test is at the start, each phase lasts at least an hour
  pub phases_within : (p : ℕ → Bool) → 1 ≤ mission → mission ≤ 350_400 → p 0 ≡ false → All Lasts (phases_from mission 0 (filter p (upto 0 mission)))
  phases_within p h m z =
      let n : mission ≡ suc (mission - 1) = omega arith in
      let e : filter p (upto 0 mission) ≡ filter p (upto 1 (mission - 1)) = ap (λ k. filter p (upto 0 k)) n ∙ rw z refl in
      let k : 1 + (mission - 1) ≡ mission = omega arith in
      rw e (within m 0 _ (omega arith) (rw k at (filter_rises p 1 (mission - 1))))
