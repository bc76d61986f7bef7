-- A vector of whole numbers that is pushed forward, weighed against values that are asked backwards.
use Rattle.std.proofs.Common.{◌≡◌, ℕ, zero, suc, ◌+◌, ◌-◌, ◌*◌, ◌<◌, ◌≤◌, List, sym, ap, ◌∙◌}
use mathlib.Core.Path.{fun_ext}
use Rattle.sil_fraction.specs.Fraction.{Fraction, ◌+ℚ◌, ◌*ℚ◌, ◌≤ℚ◌, whole, inverse}
use Rattle.sil_fraction.specs.Sum.{total, total_below, sum_below}
use Rattle.sil_fraction.proofs.Laws.{mul_comm, mul_assoc, mul-add, le_refl, le_trans, mul-le-right, mul-le-left, front, le_of_same, whole-mul, whole-le, mul-inverse}
use Rattle.sil_fraction.proofs.Sums.{below-le, mul-below, mul-one, total-add, total-le, mul-total, total-below-swap, whole-sum, whole-positive, le_from_scaled}
use Rattle.sil_model.specs.Series.{Values, times, weighed}
use Rattle.model_laws.specs.Polynomial.{IsBelow, in_units}
use Rattle.model_laws.proofs.Operators.{times-one}
use Rattle.model_laws.proofs.Beats.{tail_sum, tails_combined}

-- a sum of two values, one of them times a factor
pub weighed-both : {I : Type 0} (is : List I) (v : I → ℕ) (f g : I → Fraction) (h : Fraction) → weighed is v (λ i. f i +ℚ h *ℚ g i) ≡ weighed is v f +ℚ h *ℚ weighed is v g
weighed-both {I} is v f g h =
    ap (λ (e : I → Fraction). total e is) (fun_ext (λ i. mul-add (whole (v i)) (f i) (h *ℚ g i)))
    ∙ total-add (λ i. whole (v i) *ℚ f i) (λ i. whole (v i) *ℚ (h *ℚ g i)) is
    ∙ ap (λ s. weighed is v f +ℚ s) (ap (λ (e : I → Fraction). total e is) (fun_ext (λ i. front (whole (v i)) h (g i))) ∙ sym (mul-total h (λ i. whole (v i) *ℚ g i) is))

-- a floor of a sum of products, as a bound by shares of P
pub floor-in_units : (P n y : ℕ) (X v : ℕ → ℕ) → 0 < P → y * P ≤ sum_below n (λ k. X k * v k) → whole y ≤ℚ total_below n (λ k. in_units P X k *ℚ whole (v k))
floor-in_units P n y X v some h =
    let p : inverse (whole P) *ℚ whole P ≡ whole 1 = mul_comm _ _ ∙ mul-inverse (whole P) (whole-positive P some) in
    let each : (k : ℕ) → whole P *ℚ (in_units P X k *ℚ whole (v k)) ≡ whole (X k * v k) =
    λ k. mul_comm _ _ ∙ ap (λ s. s *ℚ whole P) (mul_assoc _ _ _ ∙ ap (λ s. whole (X k) *ℚ s) (mul_comm _ _)) ∙ ap (λ s. s *ℚ whole P) (sym (mul_assoc _ _ _))
    ∙ mul_assoc _ _ _ ∙ ap (λ s. (whole (X k) *ℚ whole (v k)) *ℚ s) p ∙ mul-one _ ∙ sym (whole-mul (X k) (v k)) in
    le_from_scaled P _ _ some
    (le_trans _ _ _ (rw (whole-mul y P, whole-sum n (λ k. X k * v k)) at (whole-le _ _ h))
    (le_of_same _ _ (ap (total_below n) (fun_ext (λ k. sym (each k))) ∙ sym (mul-below n (whole P) _) ∙ mul_comm _ _)))

-- vectors u 0, u 1, .. each of which weighs at most what the one before weighs by the values after one step
module _ {I : Type 0} (is : List I) (T : Values I → Values I) (u : ℕ → I → ℕ)
    (tick : (k : ℕ) (f : Values I) → weighed is (u (suc k)) f ≤ℚ weighed is (u k) (T f)) where
  -- k ticks of the vector against k steps of the values
  pub ticked : (k : ℕ) (f : Values I) → weighed is (u k) f ≤ℚ weighed is (u 0) (times T k f)
  ticked zero f = le_refl _
  ticked (suc k) f = le_trans _ _ _ (tick k f) (rw (times-one T k f) at (ticked k (T f)))

  module _ (n : ℕ) (c : ℕ → Fraction) (out : I → ℕ) (floors : (i : I) → whole (out i) ≤ℚ total_below n (λ k. c k *ℚ whole (u k i))) where
    spread : (f : Values I) (i : I) → total_below n (λ k. c k *ℚ whole (u k i)) *ℚ f i ≡ total_below n (λ k. c k *ℚ (whole (u k i) *ℚ f i))
    spread f i = mul_comm _ _ ∙ mul-below n (f i) (λ k. c k *ℚ whole (u k i)) ∙ ap (total_below n) (fun_ext (λ k. mul_comm (f i) (c k *ℚ whole (u k i)) ∙ mul_assoc (c k) (whole (u k i)) (f i)))

    back : (f : Values I) → total_below n (λ k. c k *ℚ weighed is (u 0) (times T k f)) ≡ weighed is (u 0) (λ i. total_below n (λ k. c k *ℚ times T k f i))
    back f = sym (
        ap (λ (g : Values I). total g is) (fun_ext (λ i. mul-below n (whole (u 0 i)) (λ k. c k *ℚ times T k f i)))
        ∙ total-below-swap n (λ i k. whole (u 0 i) *ℚ (c k *ℚ times T k f i)) is
        ∙ ap (total_below n) (fun_ext (λ k.
        ap (λ (g : Values I). total g is) (fun_ext (λ i. front (whole (u 0 i)) (c k) (times T k f i)))
        ∙ sym (mul-total (c k) (λ i. whole (u 0 i) *ℚ times T k f i) is))))

    -- a vector that is at most a combination of ticked vectors
    pub gathered : (f : Values I) → weighed is out f ≤ℚ weighed is (u 0) (λ i. total_below n (λ k. c k *ℚ times T k f i))
    gathered f =
        let first : weighed is out f ≤ℚ total (λ i. total_below n (λ k. c k *ℚ (whole (u k i) *ℚ f i))) is =
        total-le _ _ is (λ i. rw (← spread f i) (mul-le-right _ _ (f i) (floors i))) in
        let second : weighed is out f ≤ℚ total_below n (λ k. total (λ i. c k *ℚ (whole (u k i) *ℚ f i)) is) = rw (total-below-swap n (λ i k. c k *ℚ (whole (u k i) *ℚ f i)) is) at first in
        let third : total_below n (λ k. total (λ i. c k *ℚ (whole (u k i) *ℚ f i)) is) ≤ℚ total_below n (λ k. c k *ℚ weighed is (u 0) (times T k f)) =
        below-le n _ _ (λ k h. rw (← mul-total (c k) (λ i. whole (u k i) *ℚ f i) is) (mul-le-left (c k) _ _ (ticked k f))) in
        rw (← back f) (le_trans _ _ _ second third)

  -- numbers X in units of 1 / P that stay below B, with sojourns below D
  module _ (P n : ℕ) (X : ℕ → ℕ) (some : 0 < P) (B D : Values I → Values I) (below : IsBelow T (in_units P X) B D) where
    -- the vector at the end
    pub ended : (out : I → ℕ) → ((i : I) → out i * P ≤ sum_below n (λ k. X k * u k i)) → (f : Values I) → weighed is out f ≤ℚ weighed is (u 0) (B f)
    ended out floors f = le_trans _ _ _
        (gathered n (in_units P X) out (λ i. floor-in_units P n (out i) X (λ k. u k i) some (floors i)) f)
        (total-le _ _ is (λ i. mul-le-left (whole (u 0 i)) _ _ (below.ends n f i)))

    -- its sojourn on the way; Y is made of the sums of the later numbers of X
    pub stayed : (Y : ℕ → ℕ) → ((k : ℕ) → k < n → Y k ≤ sum_below (n - suc k) (λ i. X (suc (k + i)))) → (stay : I → ℕ)
        → ((i : I) → stay i * P ≤ sum_below n (λ k. Y k * u k i)) → (f : Values I) → weighed is stay f ≤ℚ weighed is (u 0) (D f)
    stayed Y later stay floors f =
        let shared : (k : ℕ) → tail_sum n (in_units P X) k ≡ whole (sum_below (n - suc k) (λ i. X (suc (k + i)))) *ℚ inverse (whole P) =
        λ k. ap (total_below (n - suc k)) (fun_ext (λ i. mul_comm _ _)) ∙ sym (mul-below (n - suc k) (inverse (whole P)) _) ∙ mul_comm _ _ ∙ ap (λ s. s *ℚ inverse (whole P)) (sym (whole-sum (n - suc k) _)) in
        let small : (k : ℕ) → k < n → in_units P Y k ≤ℚ tail_sum n (in_units P X) k =
        λ k h. le_trans _ _ _ (mul-le-right _ _ (inverse (whole P)) (whole-le _ _ (later k h))) (le_of_same _ _ (sym (shared k))) in
        let each : (i : I) → total_below n (λ k. in_units P Y k *ℚ times T k f i) ≤ℚ D f i =
        λ i. le_trans _ _ _ (below-le n _ _ (λ k h. mul-le-right _ _ (times T k f i) (small k h)))
        (le_trans _ _ _ (le_of_same _ _ (tails_combined n (in_units P X) (λ k. times T k f i))) (below.sojourns n f i)) in
        le_trans _ _ _
        (gathered n (in_units P Y) stay (λ i. floor-in_units P n (stay i) Y (λ k. u k i) some (floors i)) f)
        (total-le _ _ is (λ i. mul-le-left (whole (u 0 i)) _ _ (each i)))
