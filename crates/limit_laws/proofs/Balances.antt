-- What a beat changes, by its mean; and that the errors of composed beats vanish.
use Rattle.std.proofs.Common.{◌≡◌, ℕ, zero, suc, ◌+◌, ◌-◌, ◌*◌, ◌^◌, ◌<◌, ◌≤◌, List, sym, ap, ◌∙◌, arith}
use Rattle.std.proofs.Math.Nat.{mul-le-mul_right, pow-succ'}
use mathlib.Core.Path.{fun_ext}
use Rattle.sil_fraction.specs.Fraction.{Fraction, ◌+ℚ◌, ◌*ℚ◌, ◌-ℚ◌, ◌≤ℚ◌, whole, ratio}
use Rattle.sil_fraction.specs.Sum.{total_below}
use Rattle.sil_fraction.proofs.Laws.{add_comm, add_assoc, mul_comm, mul-add, zero-add, one-mul, sub-add, ratio-le-ratio}
use Rattle.sil_fraction.proofs.Sums.{add-mul, mul-zero, mul-below, below-add, below-first}
use Rattle.sil_model.specs.State.{FullState}
use Rattle.sil_model.specs.Events.{Event, flow_of, leaving_rate, step_of}
use Rattle.sil_model.specs.Series.{Values, times, factorial, series_of, beat_of, mean_of}
use Rattle.model_laws.specs.Polynomial.{IsLinear}
use Rattle.model_laws.proofs.Operators.{step-linear, summed}
use Rattle.model_laws.proofs.Series.{factorial_pos}
use Rattle.exponential_laws.proofs.Binomial.{term}
use Rattle.limit_laws.specs.Bounds.{power_remainder_of}
use Rattle.limit_laws.proofs.Tails.{factorial-suc, one_below_series}
use Rattle.limit_laws.proofs.Quotients.{some_from_one, quotient-mul}
use Rattle.limit_laws.proofs.Orders.{tails_as_sums}
use Rattle.limit_laws.proofs.Steps.{same_from_sum}

-- 2 r^m m is at most m!, from 9 on, where r is at most 3
powers_at_nine : (r : ℕ) → r ≤ 3 → 2 * r ^ 9 * 9 ≤ factorial 9
unfolding factorial
powers_at_nine zero h = omega arith
powers_at_nine (suc zero) h = omega arith
powers_at_nine (suc (suc zero)) h = omega arith
powers_at_nine (suc (suc (suc zero))) h = omega arith
powers_at_nine (suc (suc (suc (suc r)))) h = absurd (omega arith)

powers_small : (r d : ℕ) → r ≤ 3 → 2 * r ^ (9 + d) * (9 + d) ≤ factorial (9 + d)
powers_small r zero h = powers_at_nine r h
powers_small r (suc d) h =
    let e : 9 + suc d ≡ suc (9 + d) = omega arith in
    rw (e, pow-succ' r (9 + d), factorial-suc (9 + d)) (grown r (r ^ (9 + d)) (9 + d) (factorial (9 + d)) (omega arith) (powers_small r d h))
  where
    grown : (r P m F : ℕ) → r ≤ m → 2 * P * m ≤ F → 2 * (r * P) * suc m ≤ suc m * F
    grown r P m F less h = omega (arith, mul-le-mul_right (suc m) h, mul-le-mul_right (2 * P * suc m) less)

-- so the remainders vanish
pub power_remainder_small : (r k n : ℕ) → r ≤ 3 → 0 < k → 9 + k ≤ n → power_remainder_of r n ≤ℚ ratio 1 k
power_remainder_small r k n few some h =
    let e : 9 + (suc n - 9) ≡ suc n = omega arith in
    let small : 2 * r ^ suc n * suc n ≤ factorial (suc n) = rw e at (powers_small r (suc n - 9) few) in
    let less : k ≤ suc n = omega arith in
    ratio-le-ratio (2 * r ^ suc n) (factorial (suc n)) 1 k (factorial_pos (suc n)) some (omega (arith, small, mul-le-mul_right (2 * r ^ suc n) less))

pub power_remainder_vanishes : (k : ℕ) → 0 < k → (place : ℕ) × ((n : ℕ) → place ≤ n → power_remainder_of 2 n ≤ℚ ratio 1 k)
power_remainder_vanishes k some = (9 + k, λ n h. power_remainder_small 2 k n (omega arith) some h)

-- the sum of k steps and then one more, either way
module _ {I : Type 0} (T : Values I → Values I) (t : IsLinear T) (f : Values I) (n : ℕ) (s : I) where
  abbrev pub N : ℕ
  N = suc n

  abbrev pub stay : ℕ → Values I
  stay k i = total_below k (λ l. times T l f i)

  pub stay-step : (k : ℕ) → T (stay k) s +ℚ f s ≡ stay k s +ℚ times T k f s
  stay-step k = ap (λ (g : Values I). g s +ℚ f s) (summed T t k (λ l. times T l f)) ∙ add_comm _ (f s) ∙ sym (below-first k (λ l. times T l f s))

  abbrev pub M : Values I
  M i = total_below (suc N) (λ k. term k *ℚ stay k i)

  M-step : T M s ≡ total_below (suc N) (λ k. term k *ℚ T (stay k) s)
  M-step = ap (λ (g : Values I). g s) (summed T t (suc N) (λ k i. term k *ℚ stay k i))
      ∙ ap (total_below (suc N)) (fun_ext (λ k. ap (λ (g : Values I). g s) (t.scales (term k) (stay k))))

  sums-balanced : T M s +ℚ series_of N *ℚ f s ≡ M s +ℚ total_below (suc N) (λ k. term k *ℚ times T k f s)
  unfolding series_of
  sums-balanced =
      ap (λ z. z +ℚ series_of N *ℚ f s) M-step
      ∙ ap (λ z. total_below (suc N) (λ k. term k *ℚ T (stay k) s) +ℚ z)
      (mul_comm (series_of N) (f s) ∙ mul-below (suc N) (f s) term ∙ ap (total_below (suc N)) (fun_ext (λ k. mul_comm (f s) (term k))))
      ∙ sym (below-add (suc N) (λ k. term k *ℚ T (stay k) s) (λ k. term k *ℚ f s))
      ∙ ap (total_below (suc N))
      (fun_ext (λ k. sym (mul-add (term k) (T (stay k) s) (f s)) ∙ ap (λ z. term k *ℚ z) (stay-step k) ∙ mul-add (term k) (stay k s) (times T k f s)))
      ∙ below-add (suc N) (λ k. term k *ℚ stay k s) (λ k. term k *ℚ times T k f s)

  not_zero : (k : ℕ) → series_of k ≡ whole 0 → ⊥
  not_zero k = some_from_one (series_of k) (one_below_series k)

  pub mean-M : (i : I) → series_of n *ℚ mean_of T N f i ≡ M i
  unfolding mean_of
  mean-M i =
      let e : N - 1 ≡ n = omega arith in
      rw e (mul_comm (series_of n) _ ∙ quotient-mul _ (series_of n) (not_zero n)
      ∙ tails_as_sums N (λ l. times T l f i)
      ∙ sym (below-first N (λ k. term k *ℚ stay k i) ∙ ap (λ z. z +ℚ total_below N (λ k. term (suc k) *ℚ stay (suc k) i)) (mul-zero (term 0)) ∙ zero-add _))

  beat-sum : series_of N *ℚ beat_of T N f s ≡ total_below (suc N) (λ k. term k *ℚ times T k f s)
  unfolding beat_of
  beat-sum = mul_comm (series_of N) _ ∙ quotient-mul _ (series_of N) (not_zero N)

  pub step-balanced : series_of n *ℚ T (mean_of T N f) s +ℚ series_of N *ℚ f s ≡ series_of n *ℚ mean_of T N f s +ℚ series_of N *ℚ beat_of T N f s
  step-balanced = cc (
    sym (ap (λ (g : Values I). g s) (t.scales (series_of n) (mean_of T N f))),
    ap (λ (g : Values I). T g s) (fun_ext mean-M),
    sums-balanced,
    mean-M s,
    beat-sum,
  )

module _ (es : List Event) (h : Fraction) (short : (s : FullState) → h *ℚ leaving_rate es s ≤ℚ whole 1) (f : Values FullState) (n : ℕ) (s : FullState) where
  abbrev mean : Values FullState
  mean = mean_of (step_of es h) (suc n) f

  abbrev x : Fraction
  x = h *ℚ leaving_rate es s

  come-go : step_of es h mean s +ℚ x *ℚ mean s ≡ h *ℚ flow_of es mean s +ℚ mean s
  unfolding step_of
  come-go = add_assoc _ _ _
      ∙ ap (λ z. h *ℚ flow_of es mean s +ℚ z)
      (sym (add-mul (whole 1 -ℚ x) x (mean s)) ∙ ap (λ z. z *ℚ mean s) (sub-add (whole 1) x (short s)) ∙ one-mul (mean s))

  -- a beat adds to a value what flows in on the mean, and takes away what flows out
  pub balanced : series_of (suc n) *ℚ f s +ℚ series_of n *ℚ (h *ℚ flow_of es mean s) ≡ series_of (suc n) *ℚ beat_of (step_of es h) (suc n) f s
      +ℚ series_of n *ℚ (x *ℚ mean s)
  balanced =
      let a : Fraction = series_of n in
      let A : Fraction = series_of (suc n) in
      let b : Fraction = beat_of (step_of es h) (suc n) f s in
      same_from_sum _ _ (a *ℚ mean s)
      (first (A *ℚ f s) a (h *ℚ flow_of es mean s) (mean s)
      ∙ ap (λ z. A *ℚ f s +ℚ a *ℚ z) (sym come-go)
      ∙ second (A *ℚ f s) a (step_of es h mean s) (x *ℚ mean s)
      ∙ ap (λ z. z +ℚ a *ℚ (x *ℚ mean s)) (step-balanced (step_of es h) (step-linear es h) f n s)
      ∙ third (a *ℚ mean s) (A *ℚ b) (a *ℚ (x *ℚ mean s)))
    where
      first : (p a y z : Fraction) → (p +ℚ a *ℚ y) +ℚ a *ℚ z ≡ p +ℚ a *ℚ (y +ℚ z)
      first p a y z = add_assoc p (a *ℚ y) (a *ℚ z) ∙ ap (λ w. p +ℚ w) (sym (mul-add a y z))

      second : (p a y z : Fraction) → p +ℚ a *ℚ (y +ℚ z) ≡ (a *ℚ y +ℚ p) +ℚ a *ℚ z
      second p a y z = sym (first p a y z) ∙ ap (λ w. w +ℚ a *ℚ z) (add_comm p (a *ℚ y))

      third : (p y z : Fraction) → (p +ℚ y) +ℚ z ≡ (y +ℚ z) +ℚ p
      third p y z = grind (arith, add_assoc, add_comm)
