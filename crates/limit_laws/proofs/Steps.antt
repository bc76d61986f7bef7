-- Uniformised steps of different hours: what they come to together, and that they commute.
use Rattle.std.proofs.Common.{◌≡◌, ℕ, ◌≤◌, List, sym, ap, ◌∙◌, arith}
use mathlib.Core.Path.{fun_ext}
use Rattle.sil_fraction.specs.Fraction.{Fraction, ◌+ℚ◌, ◌*ℚ◌, ◌-ℚ◌, ◌≤ℚ◌, whole}
use Rattle.sil_fraction.proofs.Laws.{add_comm, add_assoc, mul_comm, mul_assoc, mul-add, one-mul, le_trans, le_antisymm, le_of_same, add-le-cancel_right}
use Rattle.sil_fraction.proofs.Laws.{sub-add, front, whole-add}
use Rattle.sil_fraction.proofs.Sums.{add_swap, add-mul, le-add_right}
use Rattle.sil_model.specs.State.{FullState}
use Rattle.sil_model.specs.Events.{Event, flow_of, leaving_rate, step_of}
use Rattle.sil_model.specs.Series.{Values, beat_of}
use Rattle.model_laws.specs.Polynomial.{IsLinear}
use Rattle.model_laws.proofs.Operators.{step-linear, step-constant}
use Rattle.limit_laws.specs.Near.{IsNear}
use Rattle.limit_laws.specs.Bounds.{power_remainder_of}
use Rattle.limit_laws.proofs.Quotients.{le_from_multiplied}
use Rattle.limit_laws.proofs.Composed.{composed_near}

pub same_from_sum : (x y z : Fraction) → x +ℚ z ≡ y +ℚ z → x ≡ y
same_from_sum x y z e = le_antisymm x y (add-le-cancel_right x y z (le_of_same _ _ e)) (add-le-cancel_right y x z (le_of_same _ _ (sym e)))

same_from_product : (c x y : Fraction) → (c ≡ whole 0 → ⊥) → c *ℚ x ≡ c *ℚ y → x ≡ y
same_from_product c x y ne e = le_antisymm x y
    (le_from_multiplied x y c ne (le_of_same _ _ (mul_comm x c ∙ e ∙ mul_comm c y)))
    (le_from_multiplied y x c ne (le_of_same _ _ (mul_comm y c ∙ sym e ∙ mul_comm c x)))

-- the rests of two shares
rests : (x y : Fraction) → x +ℚ y ≤ℚ whole 1 → (whole 1 -ℚ x) +ℚ (whole 1 -ℚ y) ≡ (whole 1 -ℚ (x +ℚ y)) +ℚ whole 1
rests x y h =
    let a : x ≤ℚ whole 1 = le_trans _ _ _ (le-add_right x y) h in
    let b : y ≤ℚ whole 1 = le_trans _ _ _ (rw (add_comm x y) (le-add_right y x)) h in
    same_from_sum _ _ (x +ℚ y)
    (add_swap (whole 1 -ℚ x) (whole 1 -ℚ y) x y ∙ cc (sub-add (whole 1) x a, sub-add (whole 1) y b)
    ∙ sym (turned (whole 1 -ℚ (x +ℚ y)) (whole 1) (x +ℚ y) ∙ ap (λ z. z +ℚ whole 1) (sub-add (whole 1) (x +ℚ y) h)))
  where
    turned : (u v w : Fraction) → (u +ℚ v) +ℚ w ≡ (u +ℚ w) +ℚ v
    turned u v w = add_assoc u v w ∙ ap (λ z. u +ℚ z) (add_comm v w) ∙ sym (add_assoc u w v)

-- a rest times the other hours
rest_times : (h g L : Fraction) → h *ℚ L ≤ℚ whole 1 → g *ℚ L ≤ℚ whole 1 → g *ℚ (whole 1 -ℚ h *ℚ L) +ℚ h ≡ h *ℚ (whole 1 -ℚ g *ℚ L) +ℚ g
rest_times h g L a b =
    same_from_sum _ _ (g *ℚ (h *ℚ L))
    (turned (g *ℚ (whole 1 -ℚ h *ℚ L)) h (g *ℚ (h *ℚ L)) ∙ ap (λ z. z +ℚ h) (all g (h *ℚ L) a)
    ∙ add_comm g h
    ∙ sym (ap (λ z. (h *ℚ (whole 1 -ℚ g *ℚ L) +ℚ g) +ℚ z) (front g h L) ∙ turned (h *ℚ (whole 1 -ℚ g *ℚ L)) g (h *ℚ (g *ℚ L))
    ∙ ap (λ z. z +ℚ g) (all h (g *ℚ L) b)))
  where
    turned : (u v w : Fraction) → (u +ℚ v) +ℚ w ≡ (u +ℚ w) +ℚ v
    turned u v w = add_assoc u v w ∙ ap (λ z. u +ℚ z) (add_comm v w) ∙ sym (add_assoc u w v)

    all : (c x : Fraction) → x ≤ℚ whole 1 → c *ℚ (whole 1 -ℚ x) +ℚ c *ℚ x ≡ c
    all c x h = sym (mul-add c (whole 1 -ℚ x) x) ∙ ap (λ z. c *ℚ z) (sub-add (whole 1) x h) ∙ mul_comm c (whole 1) ∙ one-mul c

-- steps of h, of g and of h + g hours
module _ (es : List Event) (h g : Fraction) (short : (s : FullState) → (h +ℚ g) *ℚ leaving_rate es s ≤ℚ whole 1) where
  abbrev pub L : FullState → Fraction
  L s = leaving_rate es s

  together : (s : FullState) → h *ℚ L s +ℚ g *ℚ L s ≤ℚ whole 1
  together s = rw add-mul at (short s)

  pub first_short : (s : FullState) → h *ℚ L s ≤ℚ whole 1
  first_short s = le_trans _ _ _ (le-add_right _ _) (together s)

  pub second_short : (s : FullState) → g *ℚ L s ≤ℚ whole 1
  second_short s = le_trans _ _ _ (rw (add_comm (h *ℚ L s) (g *ℚ L s)) (le-add_right (g *ℚ L s) (h *ℚ L s))) (together s)

  pub steps-sum : (f : Values FullState) (s : FullState) → step_of es h f s +ℚ step_of es g f s ≡ step_of es (h +ℚ g) f s +ℚ f s
  unfolding step_of
  steps-sum f s =
      let F : Fraction = flow_of es f s in
      let x : Fraction = h *ℚ L s in
      let y : Fraction = g *ℚ L s in
      add_swap (h *ℚ F) ((whole 1 -ℚ x) *ℚ f s) (g *ℚ F) ((whole 1 -ℚ y) *ℚ f s)
      ∙ cc (
        sym (add-mul h g F),
        sym (add-mul (whole 1 -ℚ x) (whole 1 -ℚ y) (f s))
            ∙ ap (λ z. z *ℚ f s) (rests x y (together s) ∙ ap (λ z. (whole 1 -ℚ z) +ℚ whole 1) (sym (add-mul h g (L s))))
            ∙ add-mul (whole 1 -ℚ (h +ℚ g) *ℚ L s) (whole 1) (f s) ∙ ap (λ z. (whole 1 -ℚ (h +ℚ g) *ℚ L s) *ℚ f s +ℚ z) (one-mul (f s)),
      )
      ∙ sym (add_assoc ((h +ℚ g) *ℚ F) ((whole 1 -ℚ (h +ℚ g) *ℚ L s) *ℚ f s) (f s))

  -- g steps of h hours and h times nothing, against h steps of g hours and g times nothing
  pub exchanged : (f : Values FullState) (s : FullState) → g *ℚ step_of es h f s +ℚ h *ℚ f s ≡ h *ℚ step_of es g f s +ℚ g *ℚ f s
  unfolding step_of
  exchanged f s =
      let F : Fraction = flow_of es f s in
      spread g h F (whole 1 -ℚ h *ℚ L s) (f s)
      ∙ cc (front g h F, rest_times h g (L s) (first_short s) (second_short s))
      ∙ sym (spread h g F (whole 1 -ℚ g *ℚ L s) (f s))
    where
      spread : (u v F r x : Fraction) → u *ℚ (v *ℚ F +ℚ r *ℚ x) +ℚ v *ℚ x ≡ u *ℚ (v *ℚ F) +ℚ (u *ℚ r +ℚ v) *ℚ x
      spread u v F r x = ap (λ z. z +ℚ v *ℚ x) (mul-add u (v *ℚ F) (r *ℚ x)) ∙ add_assoc _ _ _
          ∙ ap (λ z. u *ℚ (v *ℚ F) +ℚ z) (ap (λ z. z +ℚ v *ℚ x) (sym (mul_assoc u r x)) ∙ sym (add-mul (u *ℚ r) v x))

  module _ (some : h ≡ whole 0 → ⊥) where
    pub steps-commute : (f : Values FullState) → step_of es g (step_of es h f) ≡ step_of es h (step_of es g f)
    steps-commute f = fun_ext (λ s.
        let a : Values FullState → Values FullState = step_of es h in
        let b : Values FullState → Values FullState = step_of es g in
        let p : IsLinear a = step-linear es h in
        let into : (u v : Fraction) (x y : Values FullState) → a (λ t. u *ℚ x t +ℚ v *ℚ y t) s ≡ u *ℚ a x s +ℚ v *ℚ a y s =
        λ u v x y. ap (λ (k : Values FullState). k s) (p.adds (λ t. u *ℚ x t) (λ t. v *ℚ y t))
        ∙ cc (ap (λ (k : Values FullState). k s) (p.scales u x), ap (λ (k : Values FullState). k s) (p.scales v y)) in
        let one : g *ℚ a (a f) s +ℚ h *ℚ a f s ≡ h *ℚ a (b f) s +ℚ g *ℚ a f s =
        sym (into g h (a f) f) ∙ ap (λ (k : Values FullState). a k s) (fun_ext (exchanged f)) ∙ into h g (b f) f in
        let other : g *ℚ a (a f) s +ℚ h *ℚ a f s ≡ h *ℚ b (a f) s +ℚ g *ℚ a f s = exchanged (a f) s in
        same_from_product h _ _ some (same_from_sum _ _ (g *ℚ a f s) (sym other ∙ one)))

    -- a beat of h + g hours against one of h hours after one of g hours
    pub beats_composed : (B : Fraction) (f : Values FullState) → ((s : FullState) → f s ≤ℚ B) → (n : ℕ) → 2 ≤ n → (s : FullState)
        → IsNear (B *ℚ power_remainder_of 2 n) (beat_of (step_of es (h +ℚ g)) n f s) (beat_of (step_of es h) n (beat_of (step_of es g) n f) s)
    beats_composed B f small n two s =
        let twice : (y : Fraction) → y +ℚ y ≡ whole 2 *ℚ y =
        λ y. sym (ap (λ z. z *ℚ y) (whole-add 1 1) ∙ add-mul (whole 1) (whole 1) y ∙ ap (λ z. z +ℚ z) (one-mul y)) in
        let grows : (y : Fraction) (s : FullState) → step_of es h (λ t. y *ℚ B) s +ℚ step_of es g (λ t. y *ℚ B) s ≤ℚ whole 2 *ℚ (y *ℚ B) =
        λ y s. rw (step-constant es h first_short (y *ℚ B) s, step-constant es g second_short (y *ℚ B) s) (le_of_same _ _ (twice (y *ℚ B))) in
        composed_near (step_of es h) (step_of es g) (step_of es (h +ℚ g)) (step-linear es h) (step-linear es g) (step-linear es (h +ℚ g))
        steps-commute steps-sum 2 (λ s. B) grows f small n (omega arith) s
