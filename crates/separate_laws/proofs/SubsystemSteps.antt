-- A short step from a full state in two parts: what it changes is what a step of each part changes.
use Rattle.std.proofs.Common.{◌≡◌, List, [], ◌∷◌, ◌++◌, length, replicate, sym, ap, ◌∙◌}
use Rattle.std.proofs.lemmas.List.{length-replicate}
use Rattle.sil_fraction.specs.Fraction.{Fraction, ◌+ℚ◌, ◌-ℚ◌, ◌*ℚ◌, ◌≤ℚ◌, whole}
use Rattle.sil_fraction.proofs.Laws.{add_comm, add_assoc, mul-add, one-mul, sub-add, le_trans, le_antisymm, le_of_same, add-le-cancel_right, mul-le-left}
use Rattle.sil_fraction.proofs.Sums.{add_swap, add-mul, le-add_right}
use Rattle.sil_model.specs.State.{FullState}
use Rattle.sil_model.specs.Events.{events_of, leaving_rate, step_of}
use Rattle.sil_model.specs.Series.{Values}
use Rattle.sil_model.specs.declared.parts.Chan.TheVariants.{Work}
use Rattle.sil_model.specs.declared.parts.Subsystem.{Subsystem}
use Rattle.model_laws.specs.Hours.{IsShort}
use Rattle.separate_laws.proofs.Flows.{flow-parts, flow-own-le}

cancel : (x y z : Fraction) → x +ℚ z ≡ y +ℚ z → x ≡ y
cancel x y z e = le_antisymm x y (add-le-cancel_right x y z (le_of_same _ _ e)) (add-le-cancel_right y x z (le_of_same _ _ (sym e)))

le-add_left : (p q : Fraction) → q ≤ℚ p +ℚ q
le-add_left p q = rw (add_comm p q) (le-add_right q p)

-- what two chances leave of 1, together and each
rests : (p q : Fraction) → p +ℚ q ≤ℚ whole 1 → (whole 1 -ℚ (p +ℚ q)) +ℚ whole 1 ≡ (whole 1 -ℚ p) +ℚ (whole 1 -ℚ q)
rests p q h =
    let one : Fraction = whole 1 in
    let both : (one -ℚ (p +ℚ q)) +ℚ (p +ℚ q) ≡ one = sub-add one (p +ℚ q) h in
    let first : (one -ℚ p) +ℚ p ≡ one = sub-add one p (le_trans _ _ _ (le-add_right p q) h) in
    let second : (one -ℚ q) +ℚ q ≡ one = sub-add one q (le_trans _ _ _ (le-add_left p q) h) in
    let left : ((one -ℚ (p +ℚ q)) +ℚ one) +ℚ (p +ℚ q) ≡ one +ℚ one =
    add_assoc _ _ _ ∙ ap (λ x. (one -ℚ (p +ℚ q)) +ℚ x) (add_comm one (p +ℚ q)) ∙ sym (add_assoc _ _ _) ∙ ap (λ x. x +ℚ one) both in
    let right : ((one -ℚ p) +ℚ (one -ℚ q)) +ℚ (p +ℚ q) ≡ one +ℚ one = add_swap (one -ℚ p) (one -ℚ q) p q ∙ cc (first, second) in
    cancel _ _ (p +ℚ q) (left ∙ sym right)

-- so for two flows A and B and two leaving rates a and b
two_steps : (h A B a b x : Fraction) → h *ℚ (a +ℚ b) ≤ℚ whole 1
    → (h *ℚ (A +ℚ B) +ℚ (whole 1 -ℚ h *ℚ (a +ℚ b)) *ℚ x) +ℚ x ≡ (h *ℚ A +ℚ (whole 1 -ℚ h *ℚ a) *ℚ x) +ℚ (h *ℚ B +ℚ (whole 1 -ℚ h *ℚ b) *ℚ x)
two_steps h A B a b x short =
    let p : Fraction = h *ℚ a in
    let q : Fraction = h *ℚ b in
    let split : h *ℚ (a +ℚ b) ≡ p +ℚ q = mul-add h a b in
    let within : p +ℚ q ≤ℚ whole 1 = rw split at short in
    let r : Fraction = whole 1 -ℚ (p +ℚ q) in
    let kept : r *ℚ x +ℚ x ≡ (whole 1 -ℚ p) *ℚ x +ℚ (whole 1 -ℚ q) *ℚ x =
    ap (λ y. r *ℚ x +ℚ y) (sym (one-mul x)) ∙ sym (add-mul r (whole 1) x) ∙ ap (λ y. y *ℚ x) (rests p q within) ∙ add-mul (whole 1 -ℚ p) (whole 1 -ℚ q) x in
    rw (split, mul-add h A B, add_assoc (h *ℚ A +ℚ h *ℚ B) (r *ℚ x) x, kept)
    (add_swap (h *ℚ A) (h *ℚ B) ((whole 1 -ℚ p) *ℚ x) ((whole 1 -ℚ q) *ℚ x))

module _ (u : Subsystem) (us : List Subsystem) (h : Fraction) where
  pub step-parts : IsShort (u ∷ us) h → (F : Values FullState) (s t : FullState) → u.vote.n ≡ length s
      → step_of (events_of (u ∷ us)) h F (s ++ t) +ℚ F (s ++ t)
      ≡ step_of (events_of (u ∷ [])) h (λ x. F (x ++ t)) s +ℚ step_of (events_of us) h (λ y. F (s ++ y)) t
  unfolding step_of
  step-parts short F s t long =
      let one : Values FullState = λ x. whole 1 in
      let leaves : leaving_rate (events_of (u ∷ us)) (s ++ t) ≡ leaving_rate (events_of (u ∷ [])) s +ℚ leaving_rate (events_of us) t =
      flow-parts one s t u us long in
      let within : h *ℚ (leaving_rate (events_of (u ∷ [])) s +ℚ leaving_rate (events_of us) t) ≤ℚ whole 1 = rw leaves at (short.leaves (s ++ t)) in
      rw (leaves, flow-parts F s t u us long) (two_steps h _ _ _ _ (F (s ++ t)) within)

  -- steps of the parts are short
  pub short-first : IsShort (u ∷ us) h → IsShort (u ∷ []) h
  short-first short = record { leaves = λ s. le_trans _ _ _ (mul-le-left h _ _ (flow-own-le u us (λ x. whole 1) s)) (short.leaves s) }

  pub short-rest : IsShort (u ∷ us) h → IsShort us h
  short-rest short = record { leaves = λ t. le_trans _ _ _ (mul-le-left h _ _ (below t)) (short.leaves (s ++ t)) }
    where
      s : FullState
      s = replicate u.vote.n Work

      below : (t : FullState) → leaving_rate (events_of us) t ≤ℚ leaving_rate (events_of (u ∷ us)) (s ++ t)
      below t =
          rw (flow-parts (λ x. whole 1) s t u us (sym (length-replicate u.vote.n Work)))
          (le-add_left (leaving_rate (events_of (u ∷ [])) s) (leaving_rate (events_of us) t))
