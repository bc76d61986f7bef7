-- A short beat against one step: how a beat begins.
use Rattle.std.proofs.Common.{◌≡◌, ℕ, zero, suc, ◌+◌, ◌-◌, ◌*◌, List, sym, ap, ◌∙◌, arith}
use Rattle.std.proofs.Math.Numerals.{add-one as nat-add-one}
use mathlib.Core.Path.{fun_ext}
use Rattle.sil_fraction.specs.Fraction.{Fraction, ◌+ℚ◌, ◌*ℚ◌, ◌-ℚ◌, ◌≤ℚ◌, whole, inverse}
use Rattle.sil_fraction.specs.Sum.{total_below}
use Rattle.sil_fraction.proofs.Laws.{add_comm, add_assoc, mul_comm, mul_assoc, mul-add, zero-add, zero-mul, one-mul, le_refl, le_trans, le_of_same}
use Rattle.sil_fraction.proofs.Laws.{add-le-cancel_right, mul-le-left, mul-le-right, mul-inverse, sub-add, whole-add, whole-mul, whole-le, front}
use Rattle.sil_fraction.proofs.Sums.{add_swap, add-le-add, add-mul, le-add_right, mul-one, mul-zero, mul-below, below-add, below-first}
use Rattle.sil_model.specs.State.{FullState}
use Rattle.sil_model.specs.Events.{Event, flow_of, leaving_rate, step_of}
use Rattle.sil_model.specs.Series.{Values, times, series_of, beat_of, mean_of}
use Rattle.model_laws.specs.Polynomial.{IsLinear}
use Rattle.model_laws.proofs.Operators.{step-linear, step-constant, flow-scale, flow-le, flow-add}
use Rattle.exponential_laws.proofs.Binomial.{term, next_term}
use Rattle.limit_laws.specs.Near.{IsNear}
use Rattle.limit_laws.proofs.Tails.{one_below_series}
use Rattle.limit_laws.proofs.Quotients.{some_from_one}
use Rattle.limit_laws.proofs.Orders.{tails_as_sums}
use Rattle.limit_laws.proofs.Nearness.{near_itself, near_turned, near_wider, near_chained, near_summed, near_scaled}

-- from near sums to near parts
near_parts : (d x y p q : Fraction) → x +ℚ p ≡ y +ℚ q → IsNear d p q → IsNear d x y
near_parts d x y p q e near = record {
  above = add-le-cancel_right x (y +ℚ d) p
      (le_trans _ _ _ (le_of_same _ _ e) (le_trans _ _ _ (add-le-add _ _ _ _ (le_refl y) near.below) (le_of_same _ _ (turned y p d))));
  below = add-le-cancel_right y (x +ℚ d) q
      (le_trans _ _ _ (le_of_same _ _ (sym e)) (le_trans _ _ _ (add-le-add _ _ _ _ (le_refl x) near.above) (le_of_same _ _ (turned x q d))));
}
  where
    turned : (x y z : Fraction) → x +ℚ (y +ℚ z) ≡ (x +ℚ z) +ℚ y
    turned x y z = ap (λ s. x +ℚ s) (add_comm y z) ∙ sym (add_assoc x z y)

near_less : (d x y p : Fraction) → IsNear d (x +ℚ p) (y +ℚ p) → IsNear d x y
near_less d x y p near = record {
  above = add-le-cancel_right x (y +ℚ d) p (le_trans _ _ _ near.above (le_of_same _ _ (turned y p d)));
  below = add-le-cancel_right y (x +ℚ d) p (le_trans _ _ _ near.below (le_of_same _ _ (turned x p d)));
}
  where
    turned : (x y z : Fraction) → (x +ℚ y) +ℚ z ≡ (x +ℚ z) +ℚ y
    turned x y z = add_assoc x y z ∙ ap (λ s. x +ℚ s) (add_comm y z) ∙ sym (add_assoc x z y)

near_both : (d y z w : Fraction) → IsNear d y z → IsNear d (y +ℚ w) (z +ℚ w)
near_both d y z w near = record { above = one_way y z near.above; below = one_way z y near.below }
  where
    one_way : (y z : Fraction) → y ≤ℚ z +ℚ d → y +ℚ w ≤ℚ (z +ℚ w) +ℚ d
    one_way y z h = le_trans _ _ _ (add-le-add _ _ _ _ h (le_refl w))
        (le_of_same _ _ (add_assoc z d w ∙ ap (λ s. z +ℚ s) (add_comm d w) ∙ sym (add_assoc z w d)))

near_total : (n : ℕ) (d x y : ℕ → Fraction) → ((k : ℕ) → IsNear (d k) (x k) (y k)) → IsNear (total_below n d) (total_below n x) (total_below n y)
near_total zero d x y near = near_itself _ _
near_total (suc n) d x y near = near_summed _ _ _ _ _ _ (near_total n d x y near) (near n)

-- how the terms of the induction over the steps are put together
twice : (e K : Fraction) → e *ℚ (whole 2 *ℚ K) ≡ K *ℚ (e +ℚ e)
twice e K =
    let two : whole 2 ≡ whole 1 +ℚ whole 1 = whole-add 1 1 in
    ap (λ z. e *ℚ z) (ap (λ z. z *ℚ K) two ∙ add-mul (whole 1) (whole 1) K ∙ cc (one-mul K)) ∙ mul-add e K K ∙ cc (mul_comm e K) ∙ sym (mul-add K e e)

put : (t p q r w : Fraction) → ((t +ℚ p) +ℚ (q +ℚ r)) +ℚ w ≡ (t +ℚ (r +ℚ w)) +ℚ (p +ℚ q)
put t p q r w = grind (arith, add_assoc, add_comm)

put_twice : (u p q w : Fraction) → ((u +ℚ q) +ℚ (p +ℚ p)) +ℚ w ≡ (w +ℚ (p +ℚ u)) +ℚ (p +ℚ q)
put_twice u p q w = grind (arith, add_assoc, add_comm)

left_side : (t K u v w : Fraction) → ((t +ℚ K *ℚ u) +ℚ K *ℚ (v +ℚ w)) +ℚ w ≡ (t +ℚ (K +ℚ whole 1) *ℚ w) +ℚ (K *ℚ u +ℚ K *ℚ v)
left_side t K u v w = rw (mul-add K v w, add-mul K (whole 1) w, one-mul w) (put t (K *ℚ u) (K *ℚ v) (K *ℚ w) w)

right_side : (K u v w : Fraction) → ((u +ℚ K *ℚ v) +ℚ K *ℚ (u +ℚ u)) +ℚ w ≡ (w +ℚ (K +ℚ whole 1) *ℚ u) +ℚ (K *ℚ u +ℚ K *ℚ v)
right_side K u v w = rw (mul-add K u u, add-mul K (whole 1) u, one-mul u) (put_twice u (K *ℚ u) (K *ℚ v) w)

-- k (k - 1)
abbrev pairs : ℕ → ℕ
pairs k = k * (k - 1)

pairs-suc : (k : ℕ) → pairs (suc k) ≡ pairs k + 2 * k
pairs-suc zero = omega arith
pairs-suc (suc k) =
    let e : suc (suc k) - 1 ≡ suc k = omega arith in
    let g : suc k - 1 ≡ k = omega arith in
    rw (e, g) (omega arith)

module _ (es : List Event) (h q : Fraction) (leaves : (s : FullState) → h *ℚ leaving_rate es s ≤ℚ q) (likely : q ≤ℚ whole 1) (B : Fraction) where
  abbrev T : Values FullState → Values FullState
  T = step_of es h

  abbrev x : FullState → Fraction
  x s = h *ℚ leaving_rate es s

  short : (s : FullState) → x s ≤ℚ whole 1
  short s = le_trans _ _ _ (leaves s) likely

  linear : IsLinear T
  linear = step-linear es h

  keeps : (c : Fraction) → T (λ s. c) ≡ (λ s. c)
  keeps c = fun_ext (step-constant es h short c)

  -- what goes into a state by a step, and what goes out
  come_and_go : (f : Values FullState) (s : FullState) → T f s +ℚ x s *ℚ f s ≡ h *ℚ flow_of es f s +ℚ f s
  unfolding step_of
  come_and_go f s = add_assoc _ _ _
      ∙ ap (λ z. h *ℚ flow_of es f s +ℚ z)
      (sym (add-mul (whole 1 -ℚ x s) (x s) (f s)) ∙ ap (λ z. z *ℚ f s) (sub-add (whole 1) (x s) (short s)) ∙ one-mul (f s))

  flow-constant : (c : Fraction) (s : FullState) → h *ℚ flow_of es (λ t. c) s ≡ x s *ℚ c
  flow-constant c s = ap (λ (f : Values FullState). h *ℚ flow_of es f s) (fun_ext (λ t. sym (mul-one c)))
      ∙ ap (λ z. h *ℚ z) (flow-scale es c (λ t. whole 1) s ∙ mul_comm c (leaving_rate es s)) ∙ sym (mul_assoc h (leaving_rate es s) c)

  flow_small : (c : Fraction) (f : Values FullState) → ((t : FullState) → f t ≤ℚ c) → (s : FullState) → h *ℚ flow_of es f s ≤ℚ q *ℚ c
  flow_small c f small s =
      le_trans _ _ _ (mul-le-left h _ _ (flow-le es f (λ t. c) small s)) (le_trans _ _ _ (le_of_same _ _ (flow-constant c s)) (mul-le-right _ _ c (leaves s)))

  gone_small : (c y : Fraction) → y ≤ℚ c → (s : FullState) → x s *ℚ y ≤ℚ q *ℚ c
  gone_small c y h s = le_trans _ _ _ (mul-le-right _ _ y (leaves s)) (mul-le-left q _ _ h)

  -- one step changes a value by at most q times its bound
  step_near : (f : Values FullState) → ((t : FullState) → f t ≤ℚ B) → (s : FullState) → IsNear (q *ℚ B) (T f s) (f s)
  step_near f small s = record {
    above = le_trans _ _ _ (le-add_right (T f s) (x s *ℚ f s))
        (le_trans _ _ _ (le_of_same _ _ (come_and_go f s ∙ add_comm _ _)) (add-le-add _ _ _ _ (le_refl (f s)) (flow_small B f small s)));
    below = le_trans _ _ _ (rw (add_comm (h *ℚ flow_of es f s) (f s)) (le-add_right (f s) (h *ℚ flow_of es f s)))
        (le_trans _ _ _ (le_of_same _ _ (sym (come_and_go f s))) (add-le-add _ _ _ _ (le_refl (T f s)) (gone_small B (f s) (small s) s)));
  }

  flows_near : (d : Fraction) (f g : Values FullState) → ((t : FullState) → IsNear d (f t) (g t)) → (s : FullState)
      → IsNear (q *ℚ d) (h *ℚ flow_of es f s) (h *ℚ flow_of es g s)
  flows_near d f g near s = record { above = one_way f g (λ t. (near t).above); below = one_way g f (λ t. (near t).below) }
    where
      one_way : (f g : Values FullState) → ((t : FullState) → f t ≤ℚ g t +ℚ d) → h *ℚ flow_of es f s ≤ℚ h *ℚ flow_of es g s +ℚ q *ℚ d
      one_way f g less = le_trans _ _ _ (mul-le-left h _ _ (flow-le es f (λ t. g t +ℚ d) less s))
          (le_trans _ _ _ (le_of_same _ _ (ap (λ z. h *ℚ z) (flow-add es g (λ t. d) s) ∙ mul-add h _ _))
          (add-le-add _ _ _ _ (le_refl _) (le_trans _ _ _ (le_of_same _ _ (flow-constant d s)) (mul-le-right _ _ d (leaves s)))))

  gone_near : (d y z : Fraction) → IsNear d y z → (s : FullState) → IsNear (q *ℚ d) (x s *ℚ y) (x s *ℚ z)
  gone_near d y z near s = near_wider _ _ _ _ (near_scaled (x s) d y z near) (mul-le-right _ _ d (leaves s))

  step_keeps_near : (d : Fraction) (f g : Values FullState) → ((t : FullState) → IsNear d (f t) (g t)) → (s : FullState) → IsNear d (T f s) (T g s)
  step_keeps_near d f g near s = record { above = one_way f g (λ t. (near t).above); below = one_way g f (λ t. (near t).below) }
    where
      one_way : (f g : Values FullState) → ((t : FullState) → f t ≤ℚ g t +ℚ d) → T f s ≤ℚ T g s +ℚ d
      one_way f g less = le_trans _ _ _ (linear.grows f (λ t. g t +ℚ d) less s)
          (le_of_same _ _ (ap (λ (k : Values FullState). k s) (linear.adds g (λ t. d)) ∙ ap (λ (k : Values FullState). T g s +ℚ k s) (keeps d)))

  module _ (f : Values FullState) (small : (t : FullState) → f t ≤ℚ B) where
    abbrev u : Values FullState
    u = T f

    abbrev e : Fraction
    e = q *ℚ (q *ℚ B)

    -- two steps against twice one
    second_difference : (s : FullState) → IsNear (e +ℚ e) (T u s +ℚ f s) (u s +ℚ u s)
    second_difference s =
        near_parts (e +ℚ e) (T u s +ℚ f s) (u s +ℚ u s) (x s *ℚ u s +ℚ h *ℚ flow_of es f s) (h *ℚ flow_of es u s +ℚ x s *ℚ f s)
        (add_swap (T u s) (f s) (x s *ℚ u s) (h *ℚ flow_of es f s)
        ∙ cc (come_and_go u s, add_comm (f s) (h *ℚ flow_of es f s) ∙ sym (come_and_go f s))
        ∙ shuffle (h *ℚ flow_of es u s) (u s) (u s) (x s *ℚ f s))
        (rw (add_comm (h *ℚ flow_of es u s) (x s *ℚ f s))
        (near_summed e e _ _ _ _ (gone_near (q *ℚ B) (u s) (f s) (step_near f small s) s)
        (near_turned _ _ _ (flows_near (q *ℚ B) u f (step_near f small) s))))
      where
        shuffle : (a b c d : Fraction) → (a +ℚ b) +ℚ (c +ℚ d) ≡ (b +ℚ c) +ℚ (a +ℚ d)
        shuffle a b c d = grind (arith, add_assoc, add_comm)

    -- k steps against k times one
    all_steps : (k : ℕ) (s : FullState) → IsNear (e *ℚ whole (pairs k)) (times T k f s +ℚ whole k *ℚ f s) (f s +ℚ whole k *ℚ u s)
    all_steps zero s = rw (zero-mul, zero-mul) (near_itself _ _)
    all_steps (suc k) s =
        let K : Fraction = whole k in
        let into : (y z : Values FullState) → T (λ t. y t +ℚ K *ℚ z t) s ≡ T y s +ℚ K *ℚ T z s =
        λ y z. ap (λ (g : Values FullState). g s) (linear.adds y (λ t. K *ℚ z t)) ∙ ap (λ (g : Values FullState). T y s +ℚ g s) (linear.scales K z) in
        let first : IsNear (e *ℚ whole (pairs k)) (T (times T k f) s +ℚ K *ℚ u s) (u s +ℚ K *ℚ T u s) =
        rw (into (times T k f) f, into f u) at
        (step_keeps_near (e *ℚ whole (pairs k)) (λ t. times T k f t +ℚ K *ℚ f t) (λ t. f t +ℚ K *ℚ u t) (all_steps k) s) in
        let second : IsNear (K *ℚ (e +ℚ e)) (K *ℚ (T u s +ℚ f s)) (K *ℚ (u s +ℚ u s)) = near_scaled K (e +ℚ e) _ _ (second_difference s) in
        let sum : IsNear (e *ℚ whole (pairs k) +ℚ K *ℚ (e +ℚ e)) ((T (times T k f) s +ℚ K *ℚ u s) +ℚ K *ℚ (T u s +ℚ f s))
        ((u s +ℚ K *ℚ T u s) +ℚ K *ℚ (u s +ℚ u s)) = near_summed _ _ _ _ _ _ first second in
        let d : e *ℚ whole (pairs k) +ℚ K *ℚ (e +ℚ e) ≡ e *ℚ whole (pairs (suc k)) =
        sym (ap (λ n. e *ℚ whole n) (pairs-suc k) ∙ ap (λ z. e *ℚ z) (whole-add (pairs k) (2 * k) ∙ ap (λ z. whole (pairs k) +ℚ z) (whole-mul 2 k))
        ∙ mul-add e (whole (pairs k)) (whole 2 *ℚ K)
        ∙ ap (λ z. e *ℚ whole (pairs k) +ℚ z) (twice e K)) in
        let next : whole (suc k) ≡ K +ℚ whole 1 = ap whole (sym (nat-add-one k)) ∙ whole-add k 1 in
        rw next (near_less _ _ _ (K *ℚ u s +ℚ K *ℚ T u s)
        (rw (d, left_side (T (times T k f) s) K (u s) (T u s) (f s), right_side K (u s) (T u s) (f s)) at
        (near_both (e *ℚ whole (pairs k) +ℚ K *ℚ (e +ℚ e)) _ _ (f s) sum)))

    -- a beat against one step, at the order n + 1
    module _ (m : ℕ) (s : FullState) where
      abbrev n : ℕ
      n = suc m

      abbrev S : Fraction
      S = total_below (suc n) term

      abbrev K : Fraction
      K = total_below n term

      abbrev E : Fraction
      E = total_below (suc n) (λ k. term k *ℚ times T k f s)

      counted : total_below (suc n) (λ k. term k *ℚ whole k) ≡ K
      counted = below-first n (λ k. term k *ℚ whole k) ∙ ap (λ z. z +ℚ total_below n (λ k. term (suc k) *ℚ whole (suc k))) (mul-zero (term 0)) ∙ zero-add _
          ∙ ap (total_below n) (fun_ext (λ k. mul_comm _ _ ∙ next_term k))

      two_before : (k : ℕ) → term (suc (suc k)) *ℚ whole (pairs (suc (suc k))) ≡ term k
      two_before k =
          let e : suc (suc k) - 1 ≡ suc k = omega arith in
          rw (e, whole-mul (suc (suc k)) (suc k)) (sym (mul_assoc (term (suc (suc k))) (whole (suc (suc k))) (whole (suc k)))
          ∙ ap (λ z. z *ℚ whole (suc k)) (mul_comm _ _ ∙ next_term (suc k)) ∙ mul_comm _ _ ∙ next_term k)

      paired : total_below (suc n) (λ k. term k *ℚ whole (pairs k)) ≤ℚ S
      paired =
          let p : ℕ → Fraction = λ k. term k *ℚ whole (pairs k) in
          let none : p 0 ≡ whole 0 = mul-zero (term 0) in
          let none' : p 1 ≡ whole 0 = mul-zero (term 1) in
          le_trans _ _ _ (le_of_same _ _ (below-first n p ∙ ap (λ z. z +ℚ total_below n (λ k. p (suc k))) none ∙ zero-add _
          ∙ below-first m (λ k. p (suc k)) ∙ ap (λ z. z +ℚ total_below m (λ k. p (suc (suc k)))) none' ∙ zero-add _
          ∙ ap (total_below m) (fun_ext two_before)))
          (le_trans _ _ _ (le-add_right (total_below m term) (term m)) (le-add_right (total_below n term) (term n)))

      all_sums : IsNear (e *ℚ S) (E +ℚ K *ℚ f s) (S *ℚ f s +ℚ K *ℚ u s)
      all_sums =
          let parts : (y z : ℕ → Fraction) (c : Fraction)
          → total_below (suc n) (λ k. term k *ℚ (y k +ℚ whole k *ℚ c)) ≡ total_below (suc n) (λ k. term k *ℚ y k) +ℚ K *ℚ c =
          λ y z c. ap (total_below (suc n)) (fun_ext (λ k. mul-add (term k) (y k) (whole k *ℚ c)))
          ∙ below-add (suc n) (λ k. term k *ℚ y k) (λ k. term k *ℚ (whole k *ℚ c))
          ∙ ap (λ w. total_below (suc n) (λ k. term k *ℚ y k) +ℚ w)
          (ap (total_below (suc n)) (fun_ext (λ k. sym (mul_assoc (term k) (whole k) c) ∙ mul_comm _ c)) ∙ sym (mul-below (suc n) c (λ k. term k *ℚ whole k))
          ∙ ap (λ w. c *ℚ w) counted ∙ mul_comm c K) in
          let constant : total_below (suc n) (λ k. term k *ℚ f s) ≡ S *ℚ f s =
          ap (total_below (suc n)) (fun_ext (λ k. mul_comm (term k) (f s))) ∙ sym (mul-below (suc n) (f s) term) ∙ mul_comm (f s) S in
          let bound : total_below (suc n) (λ k. term k *ℚ (e *ℚ whole (pairs k))) ≤ℚ e *ℚ S =
          le_trans _ _ _ (le_of_same _ _
          (ap (total_below (suc n)) (fun_ext (λ k. front_of (term k) e (whole (pairs k)))) ∙ sym (mul-below (suc n) e (λ k. term k *ℚ whole (pairs k)))))
          (mul-le-left e _ _ paired) in
          near_wider _ _ _ _
          (rw (parts (λ k. times T k f s) (λ k. whole 0) (f s), parts (λ k. f s) (λ k. whole 0) (u s), constant) at
          (near_total (suc n) (λ k. term k *ℚ (e *ℚ whole (pairs k))) (λ k. term k *ℚ (times T k f s +ℚ whole k *ℚ f s))
          (λ k. term k *ℚ (f s +ℚ whole k *ℚ u s)) (λ k. near_scaled (term k) _ _ _ (all_steps k s))))
          bound
        where
          front_of : (x y z : Fraction) → x *ℚ (y *ℚ z) ≡ y *ℚ (x *ℚ z)
          front_of x y z = sym (mul_assoc x y z) ∙ ap (λ w. w *ℚ z) (mul_comm x y) ∙ mul_assoc y x z

      u_small : u s ≤ℚ B
      u_small = le_trans _ _ _ (linear.grows f (λ t. B) small s) (le_of_same _ _ (ap (λ (g : Values FullState). g s) (keeps B)))

      pub beat_begins : IsNear (B *ℚ (q *ℚ q +ℚ term n)) (beat_of T n f s) (T f s)
      unfolding beat_of series_of
      beat_begins =
          let r : Fraction = inverse S in
          let some : S ≡ whole 0 → ⊥ = some_from_one S (one_below_series n) in
          let one : S *ℚ r ≡ whole 1 = mul-inverse S some in
          let all : K *ℚ r +ℚ term n *ℚ r ≡ whole 1 = sym (add-mul K (term n) r) ∙ one in
          let scaled : IsNear e (E *ℚ r +ℚ (K *ℚ r) *ℚ f s) (f s +ℚ (K *ℚ r) *ℚ u s) =
          rw (times_over e S r one, by_parts E K (f s) r, by_parts (f s *ℚ S) K (u s) r, over (f s) S r one) at
          (near_scaled r _ _ _ (rw (mul_comm S (f s)) at all_sums)) in
          let small_r : r ≤ℚ whole 1 =
          le_trans _ _ _ (le_of_same _ _ (sym (one-mul r))) (le_trans _ _ _ (mul-le-right _ _ r (one_below_series n)) (le_of_same _ _ one)) in
          let either : IsNear B (f s) (u s) =
          record {
            above = le_trans _ _ _ (small s) (rw (add_comm (u s) B) (le-add_right B (u s)));
            below = le_trans _ _ _ u_small (rw (add_comm (f s) B) (le-add_right B (f s)));
          } in
          let rest : IsNear ((term n *ℚ r) *ℚ B) ((term n *ℚ r) *ℚ f s) ((term n *ℚ r) *ℚ u s) = near_scaled (term n *ℚ r) B _ _ either in
          let sum : IsNear (e +ℚ (term n *ℚ r) *ℚ B) (E *ℚ r +ℚ f s) (u s +ℚ f s) =
          rw (whole_value (E *ℚ r) (K *ℚ r) (term n *ℚ r) (f s) all, whole_value (f s) (K *ℚ r) (term n *ℚ r) (u s) all, add_comm (f s) (u s)) at
          (near_summed _ _ _ _ _ _ scaled rest) in
          near_wider _ _ _ _ (near_less _ _ _ (f s) sum)
          (rw (mul-add B (q *ℚ q) (term n)) (add-le-add _ _ _ _ (le_of_same _ _ (sym (mul_assoc q q B) ∙ mul_comm (q *ℚ q) B))
          (le_trans _ _ _ (le_of_same _ _ (mul_comm (term n *ℚ r) B))
          (mul-le-left B _ _ (le_trans _ _ _ (mul-le-left (term n) r (whole 1) small_r) (le_of_same _ _ (mul-one (term n))))))))
        where
          over : (y d r : Fraction) → d *ℚ r ≡ whole 1 → (y *ℚ d) *ℚ r ≡ y
          over y d r one = mul_assoc y d r ∙ ap (λ z. y *ℚ z) one ∙ mul-one y

          times_over : (y d r : Fraction) → d *ℚ r ≡ whole 1 → r *ℚ (y *ℚ d) ≡ y
          times_over y d r one = mul_comm r (y *ℚ d) ∙ over y d r one

          by_parts : (y c z r : Fraction) → r *ℚ (y +ℚ c *ℚ z) ≡ y *ℚ r +ℚ (c *ℚ r) *ℚ z
          by_parts y c z r = mul-add r y (c *ℚ z) ∙ cc (mul_comm r y, sym (mul_assoc r c z), mul_comm r c)

          whole_value : (z a b y : Fraction) → a +ℚ b ≡ whole 1 → (z +ℚ a *ℚ y) +ℚ b *ℚ y ≡ z +ℚ y
          whole_value z a b y one = add_assoc z (a *ℚ y) (b *ℚ y) ∙ ap (λ x. z +ℚ x) (sym (add-mul a b y) ∙ ap (λ z. z *ℚ y) one ∙ one-mul y)

      -- k steps change a value by at most k times q times its bound
      steps_near : (k : ℕ) (s : FullState) → IsNear (whole k *ℚ (q *ℚ B)) (times T k f s) (f s)
      steps_near zero s = near_itself _ _
      steps_near (suc k) s =
          let c : Fraction = q *ℚ B in
          let next : whole k *ℚ c +ℚ c ≡ whole (suc k) *ℚ c =
          ap (λ z. whole k *ℚ c +ℚ z) (sym (one-mul c)) ∙ sym (add-mul (whole k) (whole 1) c)
          ∙ ap (λ z. z *ℚ c) (sym (whole-add k 1) ∙ ap whole (nat-add-one k)) in
          rw next at (near_chained _ _ _ (u s) _ (step_keeps_near (whole k *ℚ c) (times T k f) f (steps_near k) s) (step_near f small s))

      stays_near : (k : ℕ) → IsNear ((q *ℚ B) *ℚ whole (pairs k)) (total_below k (λ l. times T l f s)) (whole k *ℚ f s)
      stays_near zero = rw (zero-mul (f s)) (near_itself _ _)
      stays_near (suc k) =
          let c : Fraction = q *ℚ B in
          let next : whole k *ℚ f s +ℚ f s ≡ whole (suc k) *ℚ f s =
          ap (λ z. whole k *ℚ f s +ℚ z) (sym (one-mul (f s))) ∙ sym (add-mul (whole k) (whole 1) (f s))
          ∙ ap (λ z. z *ℚ f s) (sym (whole-add k 1) ∙ ap whole (nat-add-one k)) in
          near_wider _ _ _ _ (rw next at (near_summed _ _ _ _ _ _ (stays_near k) (steps_near k s)))
          (le_trans _ _ _ (le_of_same _ _
          (ap (λ z. c *ℚ whole (pairs k) +ℚ z) (mul_comm (whole k) c) ∙ sym (mul-add c (whole (pairs k)) (whole k))
          ∙ ap (λ z. c *ℚ z) (sym (whole-add (pairs k) k))))
          (mul-le-left c _ _ (whole-le (pairs k + k) (pairs (suc k)) (omega (arith, pairs-suc k)))))

      -- the mean during a beat changes a value by at most as much as one step
      pub mean_begins : IsNear (q *ℚ B) (mean_of T n f s) (f s)
      unfolding mean_of series_of
      mean_begins =
          let x' : ℕ → Fraction = λ l. times T l f s in
          let r : Fraction = inverse K in
          let less : n - 1 ≡ m = omega arith in
          let one : K *ℚ r ≡ whole 1 = mul-inverse K (some_from_one K (one_below_series m)) in
          let bound : total_below n (λ k. term (suc k) *ℚ ((q *ℚ B) *ℚ whole (pairs (suc k)))) ≤ℚ (q *ℚ B) *ℚ K =
          le_trans _ _ _ (le_of_same _ _
          (ap (total_below n) (fun_ext (λ k. front (term (suc k)) (q *ℚ B) (whole (pairs (suc k)))))
          ∙ sym (mul-below n (q *ℚ B) (λ k. term (suc k) *ℚ whole (pairs (suc k))))))
          (mul-le-left (q *ℚ B) _ _ (le_trans _ _ _
          (le_of_same _ _ (below-first m (λ k. term (suc k) *ℚ whole (pairs (suc k)))
          ∙ ap (λ z. z +ℚ total_below m (λ k. term (suc (suc k)) *ℚ whole (pairs (suc (suc k))))) (mul-zero (term 1)) ∙ zero-add _
          ∙ ap (total_below m) (fun_ext two_before)))
          (le-add_right (total_below m term) (term m)))) in
          let constant : total_below n (λ k. term (suc k) *ℚ (whole (suc k) *ℚ f s)) ≡ K *ℚ f s =
          ap (total_below n) (fun_ext
          (λ k. sym (mul_assoc (term (suc k)) (whole (suc k)) (f s)) ∙ ap (λ z. z *ℚ f s) (mul_comm _ _ ∙ next_term k) ∙ mul_comm (term k) (f s)))
          ∙ sym (mul-below n (f s) term) ∙ mul_comm (f s) K in
          let sums : IsNear ((q *ℚ B) *ℚ K) (total_below n (λ k. term (suc k) *ℚ total_below (suc k) x')) (K *ℚ f s) =
          near_wider _ _ _ _ (rw constant at
          (near_total n (λ k. term (suc k) *ℚ ((q *ℚ B) *ℚ whole (pairs (suc k)))) (λ k. term (suc k) *ℚ total_below (suc k) x')
          (λ k. term (suc k) *ℚ (whole (suc k) *ℚ f s)) (λ k. near_scaled (term (suc k)) _ _ _ (stays_near (suc k))))) bound in
          let scaled : IsNear (q *ℚ B) (total_below n (λ k. term (suc k) *ℚ total_below (suc k) x') *ℚ r) (f s) =
          rw (times_over (q *ℚ B) K r one, mul_comm r (total_below n (λ k. term (suc k) *ℚ total_below (suc k) x')), times_over' (f s) K r one) at
          (near_scaled r _ _ _ sums) in
          rw (tails_as_sums n x', less) scaled
        where
          times_over : (y d r : Fraction) → d *ℚ r ≡ whole 1 → r *ℚ (y *ℚ d) ≡ y
          times_over y d r one = mul_comm r (y *ℚ d) ∙ mul_assoc y d r ∙ ap (λ z. y *ℚ z) one ∙ mul-one y

          times_over' : (y d r : Fraction) → d *ℚ r ≡ whole 1 → r *ℚ (d *ℚ y) ≡ y
          times_over' y d r one = sym (mul_assoc r d y) ∙ ap (λ z. z *ℚ y) (mul_comm r d ∙ one) ∙ one-mul y
