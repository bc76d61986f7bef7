-- A beat and what is paid during it, against two beats of the same hours.
use Rattle.std.proofs.Common.{◌≡◌, ℕ, zero, suc, ◌≤◌, ◌⊎◌, inl, inr, List, refl, sym, ap, ◌∙◌, arith}
use mathlib.Core.Path.{fun_ext}
use Rattle.sil_fraction.specs.Fraction.{Fraction, ◌+ℚ◌, ◌*ℚ◌, ◌≤ℚ◌, whole, ratio, inverse}
use Rattle.sil_fraction.specs.Sum.{total_below}
use Rattle.sil_fraction.proofs.Laws.{add_comm, add_assoc, mul_comm, mul_assoc, mul-add, one-mul, le_refl, le_trans, le_of_same, mul-le-left, mul-le-right}
use Rattle.sil_fraction.proofs.Laws.{front, mul-inverse, whole-add}
use Rattle.sil_fraction.proofs.Sums.{add_swap, add-le-add, add-mul, add-zero, le-add_right, mul-one, mul-zero, mul-below, below-add}
use Rattle.sil_model.specs.State.{FullState}
use Rattle.sil_model.specs.Events.{Event, leaving_rate, step_of}
use Rattle.sil_model.specs.Series.{Values, times, factorial, series_of, beat_of, mean_of}
use Rattle.model_laws.specs.Polynomial.{IsLinear}
use Rattle.model_laws.proofs.Operators.{step-linear, step-constant}
use Rattle.model_laws.proofs.Beats.{beat-linear, beat-constant, mean-constant}
use Rattle.model_laws.proofs.Rates.{over-add}
use Rattle.exponential_laws.proofs.Binomial.{term}
use Rattle.limit_laws.specs.Near.{IsNear}
use Rattle.limit_laws.specs.Bounds.{power_remainder_of}
use Rattle.limit_laws.proofs.Tails.{one_below_series}
use Rattle.limit_laws.proofs.Quotients.{some_from_one}
use Rattle.limit_laws.proofs.Nearness.{near_turned, near_chained, near_summed}
use Rattle.limit_laws.proofs.Most.{mean-scales, mean-grows}
use Rattle.limit_laws.proofs.Composed.{composed_near}
use Rattle.limit_laws.proofs.Steps.{steps-sum, steps-commute, exchanged, first_short, second_short}
use Rattle.limit_laws.proofs.Balances.{mean-M, stay-step}

-- a place is a state, with what is expected there, or a state with what it pays
abbrev Places : Type 0
Places = FullState ⊎ FullState

abbrev joined : Values FullState → Values FullState → Values Places
joined x y (inl s) = x s
joined x y (inr s) = y s

by_place : (F G : Values Places) → ((s : FullState) → F (inl s) ≡ G (inl s)) → ((s : FullState) → F (inr s) ≡ G (inr s)) → F ≡ G
by_place F G l r = fun_ext (λ x. elim x as (λ x. F x ≡ G x) [ inl s ↦ l s | inr s ↦ r s ])

-- one step of k hours that pays
abbrev paying : List Event → Fraction → Values Places → Values Places
paying es k F (inl s) = step_of es k (λ t. F (inl t)) s +ℚ k *ℚ F (inr s)
paying es k F (inr s) = F (inr s)

module _ (es : List Event) (k : Fraction) where
  T : Values FullState → Values FullState
  T = step_of es k

  paying-adds : (F G : Values Places) → paying es k (λ x. F x +ℚ G x) ≡ (λ x. paying es k F x +ℚ paying es k G x)
  paying-adds F G = by_place _ _
      (λ s. cc (ap (λ (g : Values FullState). g s) ((step-linear es k).adds (λ t. F (inl t)) (λ t. G (inl t))), mul-add k (F (inr s)) (G (inr s)))
      ∙ add_swap (step_of es k (λ t. F (inl t)) s) (step_of es k (λ t. G (inl t)) s) (k *ℚ F (inr s)) (k *ℚ G (inr s)))
      (λ s. refl)

  paying-scales : (c : Fraction) (F : Values Places) → paying es k (λ x. c *ℚ F x) ≡ (λ x. c *ℚ paying es k F x)
  paying-scales c F = by_place _ _
      (λ s. cc (ap (λ (g : Values FullState). g s) ((step-linear es k).scales c (λ t. F (inl t))), front k c (F (inr s)))
      ∙ sym (mul-add c (step_of es k (λ t. F (inl t)) s) (k *ℚ F (inr s))))
      (λ s. refl)

  paying-grows : (F G : Values Places) → ((x : Places) → F x ≤ℚ G x) → (x : Places) → paying es k F x ≤ℚ paying es k G x
  paying-grows F G h (inl s) =
      add-le-add _ _ _ _ ((step-linear es k).grows (λ t. F (inl t)) (λ t. G (inl t)) (λ t. h (inl t)) s) (mul-le-left k _ _ (h (inr s)))
  paying-grows F G h (inr s) = h (inr s)

  paying-linear : IsLinear (paying es k)
  paying-linear = record { adds = paying-adds; scales = paying-scales; grows = paying-grows }

  -- j steps that pay
  paying-times : (f p : Values FullState) (j : ℕ)
      → times (paying es k) j (joined f p) ≡ joined (λ s. times (step_of es k) j f s +ℚ k *ℚ total_below j (λ l. times (step_of es k) l p s)) p
  paying-times f p zero = by_place _ _ (λ s. sym (ap (λ z. f s +ℚ z) (mul-zero k) ∙ add-zero (f s))) (λ s. refl)
  paying-times f p (suc j) =
      let S : Values FullState → Values FullState = step_of es k in
      let t : IsLinear S = step-linear es k in
      let stay : ℕ → Values FullState = λ j s. total_below j (λ l. times S l p s) in
      ap (paying es k) (paying-times f p j)
      ∙ by_place _ _
      (λ s. ap (λ (g : Values FullState). g s +ℚ k *ℚ p s) (t.adds (times S j f) (λ s. k *ℚ stay j s))
      ∙ ap (λ (g : Values FullState). (times S (suc j) f s +ℚ g s) +ℚ k *ℚ p s) (t.scales k (stay j))
      ∙ add_assoc (times S (suc j) f s) (k *ℚ S (stay j) s) (k *ℚ p s)
      ∙ ap (λ z. times S (suc j) f s +ℚ z) (sym (mul-add k (S (stay j) s) (p s)) ∙ ap (λ z. k *ℚ z) (stay-step S t p 0 s j)))
      (λ s. refl)

  -- a beat that pays, at the order n + 1
  module _ (f p : Values FullState) (n : ℕ) (s : FullState) where
    abbrev D : Fraction
    D = inverse (series_of (suc n))

    abbrev E : Fraction
    E = total_below (suc (suc n)) (λ j. term j *ℚ times (step_of es k) j f s)

    abbrev V : Fraction
    V = total_below (suc (suc n)) (λ j. term j *ℚ total_below j (λ l. times (step_of es k) l p s))

    paid_in_all : total_below (suc (suc n)) (λ j. term j *ℚ (times (step_of es k) j f s +ℚ k *ℚ total_below j (λ l. times (step_of es k) l p s))) ≡ E +ℚ k *ℚ V
    paid_in_all =
        ap (total_below (suc (suc n))) (fun_ext (λ j. mul-add (term j) (times (step_of es k) j f s) (k *ℚ total_below j (λ l. times (step_of es k) l p s))
        ∙ ap (λ z. term j *ℚ times (step_of es k) j f s +ℚ z) (front (term j) k (total_below j (λ l. times (step_of es k) l p s)))))
        ∙ below-add (suc (suc n)) (λ j. term j *ℚ times (step_of es k) j f s) (λ j. k *ℚ (term j *ℚ total_below j (λ l. times (step_of es k) l p s)))
        ∙ ap (λ z. E +ℚ z) (sym (mul-below (suc (suc n)) k (λ j. term j *ℚ total_below j (λ l. times (step_of es k) l p s))))

    paying-beat : beat_of (paying es k) (suc n) (joined f p) (inl s) ≡ beat_of (step_of es k) (suc n) f s
        +ℚ k *ℚ ((series_of n *ℚ mean_of (step_of es k) (suc n) p s) *ℚ D)
    unfolding beat_of
    paying-beat =
        ap (λ z. z *ℚ D) (ap (total_below (suc (suc n))) (fun_ext (λ j. ap (λ (g : Values Places). term j *ℚ g (inl s)) (paying-times f p j))) ∙ paid_in_all)
        ∙ add-mul E (k *ℚ V) D ∙ ap (λ z. E *ℚ D +ℚ z) (mul_assoc k V D)
        ∙ ap (λ z. E *ℚ D +ℚ k *ℚ (z *ℚ D)) (sym (mean-M (step_of es k) (step-linear es k) p n s s))

    paying-kept : beat_of (paying es k) (suc n) (joined f p) (inr s) ≡ p s
    unfolding beat_of series_of
    paying-kept =
        ap (λ z. z *ℚ inverse (series_of (suc n)))
        (ap (total_below (suc (suc n))) (fun_ext (λ j. ap (λ (g : Values Places). term j *ℚ g (inr s)) (paying-times f p j) ∙ mul_comm (term j) (p s)))
        ∙ sym (mul-below (suc (suc n)) (p s) term))
        ∙ mul_assoc (p s) (series_of (suc n)) (inverse (series_of (suc n)))
        ∙ ap (λ z. p s *ℚ z) (mul-inverse (series_of (suc n)) (some_from_one (series_of (suc n)) (one_below_series (suc n)))) ∙ mul-one (p s)

-- a beat with its pay, at the order n + 1
abbrev pub beat_and_pay : List Event → ℕ → Fraction → Values FullState → Values FullState → Values FullState
beat_and_pay es n k p f s = beat_of (step_of es k) (suc n) f s +ℚ k *ℚ mean_of (step_of es k) (suc n) p s

-- a step of k hours that leaves no state with a chance above 1, and what is paid in k hours is at most B
module _ (es : List Event) (k : Fraction) (short : (s : FullState) → k *ℚ leaving_rate es s ≤ℚ whole 1) (B : Fraction) (p : Values FullState)
    (low : (s : FullState) → k *ℚ p s ≤ℚ B) (n : ℕ) where
  kept : (c : Fraction) → step_of es k (λ t. c) ≡ (λ t. c)
  kept c = fun_ext (step-constant es k short c)

  mean_low : (s : FullState) → k *ℚ mean_of (step_of es k) (suc n) p s ≤ℚ B
  mean_low s =
      let e : mean_of (step_of es k) (suc n) (λ t. k *ℚ p t) s ≡ k *ℚ mean_of (step_of es k) (suc n) p s =
      ap (λ (g : Values FullState). g s) (mean-scales (step_of es k) (step-linear es k) (suc n) k p) in
      rw e at (le_trans _ _ _ (mean-grows (step_of es k) (step-linear es k) (suc n) (λ t. k *ℚ p t) (λ t. B) low s)
      (le_of_same _ _ (ap (λ (g : Values FullState). g s) (mean-constant (step_of es k) B (kept B) (suc n) n refl))))

  -- the divisor of the order n + 1 in place of that of the order n
  divisors_near : (s : FullState)
      → IsNear (B *ℚ term (suc n)) (k *ℚ mean_of (step_of es k) (suc n) p s)
      (k *ℚ ((series_of n *ℚ mean_of (step_of es k) (suc n) p s) *ℚ inverse (series_of (suc n))))
  unfolding series_of
  divisors_near s =
      let S : Fraction = series_of n in
      let t : Fraction = term (suc n) in
      let d : Fraction = inverse (S +ℚ t) in
      let y : Fraction = mean_of (step_of es k) (suc n) p s in
      let one : (S +ℚ t) *ℚ d ≡ whole 1 = mul-inverse (S +ℚ t) (some_from_one (S +ℚ t) (one_below_series (suc n))) in
      let small : d ≤ℚ whole 1 =
      le_trans _ _ _ (le_of_same _ _ (sym (one-mul d))) (le_trans _ _ _ (mul-le-right _ _ d (one_below_series (suc n))) (le_of_same _ _ one)) in
      let parts : k *ℚ y ≡ k *ℚ ((S *ℚ y) *ℚ d) +ℚ (k *ℚ y) *ℚ (t *ℚ d) = apart k y S t d one in
      let rest : (k *ℚ y) *ℚ (t *ℚ d) ≤ℚ B *ℚ t =
      le_trans _ _ _ (mul-le-right _ _ (t *ℚ d) (mean_low s)) (mul-le-left B _ _ (le_trans _ _ _ (mul-le-left t _ _ small) (le_of_same _ _ (mul-one t)))) in
      record {
        above = le_trans _ _ _ (le_of_same _ _ parts) (add-le-add _ _ _ _ (le_refl _) rest);
        below = le_trans _ _ _ (le_trans _ _ _ (le-add_right _ ((k *ℚ y) *ℚ (t *ℚ d))) (le_of_same _ _ (sym parts))) (le-add_right _ _);
      }
    where
      apart : (k y S t d : Fraction) → (S +ℚ t) *ℚ d ≡ whole 1 → k *ℚ y ≡ k *ℚ ((S *ℚ y) *ℚ d) +ℚ (k *ℚ y) *ℚ (t *ℚ d)
      apart k y S t d one =
          sym (mul-one (k *ℚ y)) ∙ ap (λ z. (k *ℚ y) *ℚ z) (sym one ∙ add-mul S t d) ∙ mul-add (k *ℚ y) (S *ℚ d) (t *ℚ d)
          ∙ ap (λ z. z +ℚ (k *ℚ y) *ℚ (t *ℚ d)) (mul_assoc k y (S *ℚ d) ∙ ap (λ z. k *ℚ z) (sym (mul_assoc y S d) ∙ ap (λ z. z *ℚ d) (mul_comm y S)))

  -- near values are as near after a beat
  after_near : (d : Fraction) (x y : Values FullState) → ((t : FullState) → IsNear d (x t) (y t)) → (s : FullState)
      → IsNear d (beat_of (step_of es k) (suc n) x s) (beat_of (step_of es k) (suc n) y s)
  after_near d x y near s = record { above = one_way x y (λ t. (near t).above); below = one_way y x (λ t. (near t).below) }
    where
      one_way : (x y : Values FullState) → ((t : FullState) → x t ≤ℚ y t +ℚ d) → beat_of (step_of es k) (suc n) x s ≤ℚ beat_of (step_of es k) (suc n) y s +ℚ d
      one_way x y less =
          let b = beat-linear (step_of es k) (step-linear es k) (suc n) in
          le_trans _ _ _ (b.grows x (λ t. y t +ℚ d) less s)
          (le_of_same _ _ (ap (λ (g : Values FullState). g s) (b.adds y (λ t. d))
          ∙ ap (λ (g : Values FullState). beat_of (step_of es k) (suc n) y s +ℚ g s) (beat-constant (step_of es k) d (kept d) (suc n))))

module _ (es : List Event) (h g : Fraction) (short : (s : FullState) → (h +ℚ g) *ℚ leaving_rate es s ≤ℚ whole 1) (some : h ≡ whole 0 → ⊥)
    (B : Fraction) (f p : Values FullState) (small : (s : FullState) → f s ≤ℚ B) (low : (s : FullState) → (h +ℚ g) *ℚ p s ≤ℚ B) (n : ℕ) (enough : 3 ≤ n) where
  a : Values Places → Values Places
  a = paying es h

  paying-commute : (F : Values Places) → paying es g (paying es h F) ≡ paying es h (paying es g F)
  paying-commute F = by_place _ _
      (λ s.
      let l : Values FullState = λ t. F (inl t) in
      let r : Values FullState = λ t. F (inr t) in
      into g h l r s
      ∙ ap (λ (v : Values FullState). v s +ℚ (h *ℚ step_of es g r s +ℚ g *ℚ r s)) (steps-commute es h g short some l)
      ∙ ap (λ z. step_of es h (step_of es g l) s +ℚ z) (sym (exchanged es h g short r s))
      ∙ sym (into h g l r s))
      (λ s. refl)
    where
      into : (u v : Fraction) (l r : Values FullState) (s : FullState)
          → step_of es u (λ t. step_of es v l t +ℚ v *ℚ r t) s +ℚ u *ℚ r s ≡ step_of es u (step_of es v l) s +ℚ (v *ℚ step_of es u r s +ℚ u *ℚ r s)
      into u v l r s =
          let t : IsLinear (step_of es u) = step-linear es u in
          ap (λ (y : Values FullState). y s +ℚ u *ℚ r s) (t.adds (step_of es v l) (λ t. v *ℚ r t))
          ∙ ap (λ (y : Values FullState). (step_of es u (step_of es v l) s +ℚ y s) +ℚ u *ℚ r s) (t.scales v r)
          ∙ add_assoc _ _ _

  paying-sum : (F : Values Places) (x : Places) → paying es h F x +ℚ paying es g F x ≡ paying es (h +ℚ g) F x +ℚ F x
  paying-sum F (inl s) =
      let l : Values FullState = λ t. F (inl t) in
      let r : Fraction = F (inr s) in
      add_swap (step_of es h l s) (h *ℚ r) (step_of es g l s) (g *ℚ r)
      ∙ ap (λ z. z +ℚ (h *ℚ r +ℚ g *ℚ r)) (steps-sum es h g short l s)
      ∙ ap (λ z. (step_of es (h +ℚ g) l s +ℚ l s) +ℚ z) (sym (add-mul h g r))
      ∙ turned (step_of es (h +ℚ g) l s) (l s) ((h +ℚ g) *ℚ r)
    where
      turned : (x y z : Fraction) → (x +ℚ y) +ℚ z ≡ (x +ℚ z) +ℚ y
      turned x y z = add_assoc x y z ∙ ap (λ w. x +ℚ w) (add_comm y z) ∙ sym (add_assoc x z y)
  paying-sum F (inr s) = refl

  thrice : (y : Fraction) → (y +ℚ y) +ℚ y ≡ whole 3 *ℚ y
  thrice y = sym (ap (λ z. z *ℚ y) (whole-add 2 1 ∙ ap (λ z. z +ℚ whole 1) (whole-add 1 1)) ∙ add-mul (whole 1 +ℚ whole 1) (whole 1) y
      ∙ ap (λ z. z +ℚ whole 1 *ℚ y) (add-mul (whole 1) (whole 1) y) ∙ ap (λ z. (z +ℚ z) +ℚ z) (one-mul y))

  paying-bound : (y : Fraction) (x : Places)
      → paying es h (λ t. y *ℚ joined (λ s. B) p t) x +ℚ paying es g (λ t. y *ℚ joined (λ s. B) p t) x ≤ℚ whole 3 *ℚ (y *ℚ joined (λ s. B) p x)
  paying-bound y (inl s) =
      let c : Fraction = y *ℚ B in
      let r : Fraction = y *ℚ p s in
      let paid : h *ℚ r +ℚ g *ℚ r ≤ℚ c = le_trans _ _ _ (le_of_same _ _ (sym (add-mul h g r) ∙ front (h +ℚ g) y (p s))) (mul-le-left y _ _ (low s)) in
      rw (step-constant es h (first_short es h g short) c s, step-constant es g (second_short es h g short) c s, add_swap c (h *ℚ r) c (g *ℚ r), ← thrice c)
      (add-le-add _ _ _ _ (le_refl (c +ℚ c)) paid)
  paying-bound y (inr s) = rw (← thrice (y *ℚ p s)) (le-add_right _ _)

  start_small : (x : Places) → joined f p x ≤ℚ joined (λ s. B) p x
  start_small (inl s) = small s
  start_small (inr s) = le_refl (p s)

  -- the pay with the divisor of the order n + 1
  abbrev paid : Fraction → Values FullState → Values FullState
  paid k y s = beat_of (step_of es k) (suc n) y s +ℚ k *ℚ ((series_of n *ℚ mean_of (step_of es k) (suc n) p s) *ℚ inverse (series_of (suc n)))

  paying-composed : (s : FullState) → IsNear (B *ℚ power_remainder_of 3 (suc n)) (paid (h +ℚ g) f s) (paid h (paid g f) s)
  paying-composed s =
      let F : Values Places = joined f p in
      let near : IsNear (B *ℚ power_remainder_of 3 (suc n)) (beat_of (paying es (h +ℚ g)) (suc n) F (inl s))
      (beat_of (paying es h) (suc n) (beat_of (paying es g) (suc n) F) (inl s)) =
      composed_near (paying es h) (paying es g) (paying es (h +ℚ g)) (paying-linear es h) (paying-linear es g) (paying-linear es (h +ℚ g))
      paying-commute paying-sum 3 (joined (λ s. B) p) paying-bound F start_small (suc n) (omega arith) (inl s) in
      let inner : beat_of (paying es g) (suc n) F ≡ joined (paid g f) p = by_place _ _ (λ t. paying-beat es g f p n t) (λ t. paying-kept es g f p n t) in
      rw (paying-beat es (h +ℚ g) f p n s, inner, paying-beat es h (paid g f) p n s) at near

  h_low : (s : FullState) → h *ℚ p s ≤ℚ B
  h_low s = le_trans _ _ _ (le-add_right (h *ℚ p s) (g *ℚ p s)) (rw add-mul at (low s))

  g_low : (s : FullState) → g *ℚ p s ≤ℚ B
  g_low s = le_trans _ _ _ (rw (add_comm (h *ℚ p s) (g *ℚ p s)) (le-add_right (g *ℚ p s) (h *ℚ p s))) (rw add-mul at (low s))

  beside : (d x y z : Fraction) → IsNear d y z → IsNear d (x +ℚ y) (x +ℚ z)
  beside d x y z near = record { above = one_way y z near.above; below = one_way z y near.below }
    where
      one_way : (y z : Fraction) → y ≤ℚ z +ℚ d → x +ℚ y ≤ℚ (x +ℚ z) +ℚ d
      one_way y z k = le_trans _ _ _ (add-le-add _ _ _ _ (le_refl x) k) (le_of_same _ _ (sym (add_assoc x z d)))

  -- a beat of h + g hours and its pay against two beats, of h and of g hours, and theirs
  pub split_near : (s : FullState)
      → IsNear (B *ℚ (power_remainder_of 3 (suc n) +ℚ ratio 3 (factorial (suc n)))) (beat_and_pay es n (h +ℚ g) p f s)
      (beat_and_pay es n h p (beat_and_pay es n g p f) s)
  split_near s =
      let t : Fraction = B *ℚ term (suc n) in
      let R : Fraction = B *ℚ power_remainder_of 3 (suc n) in
      let one : IsNear t (beat_and_pay es n (h +ℚ g) p f s) (paid (h +ℚ g) f s) = beside t _ _ _ (divisors_near es (h +ℚ g) short B p low n s) in
      let inner : (u : FullState) → IsNear t (paid g f u) (beat_and_pay es n g p f u) =
      λ u. beside t _ _ _ (near_turned _ _ _ (divisors_near es g (second_short es h g short) B p g_low n u)) in
      let two : IsNear (t +ℚ t) (paid h (paid g f) s) (beat_and_pay es n h p (beat_and_pay es n g p f) s) =
      near_summed t t _ _ _ _ (after_near es h (first_short es h g short) B p h_low n t (paid g f) (beat_and_pay es n g p f) inner s)
      (near_turned _ _ _ (divisors_near es h (first_short es h g short) B p h_low n s)) in
      let sum : t +ℚ (R +ℚ (t +ℚ t)) ≡ B *ℚ (power_remainder_of 3 (suc n) +ℚ ratio 3 (factorial (suc n))) =
      put t R ∙ ap (λ z. R +ℚ z)
      (sym (ap (λ z. B *ℚ z) (sym (over-add 2 1 (factorial (suc n))) ∙ ap (λ z. z +ℚ term (suc n)) (sym (over-add 1 1 (factorial (suc n)))))
      ∙ mul-add B (term (suc n) +ℚ term (suc n)) (term (suc n)) ∙ ap (λ z. z +ℚ t) (mul-add B (term (suc n)) (term (suc n)))))
      ∙ sym (mul-add B (power_remainder_of 3 (suc n)) (ratio 3 (factorial (suc n)))) in
      rw sum at (near_chained _ _ _ (paid (h +ℚ g) f s) _ one (near_chained _ _ _ (paid h (paid g f) s) _ (paying-composed s) two))
    where
      put : (t R : Fraction) → t +ℚ (R +ℚ (t +ℚ t)) ≡ R +ℚ ((t +ℚ t) +ℚ t)
      put t R = grind (arith, add_assoc, add_comm)
