-- Linear operators on values, their iterates, and the uniformised step as one.
use Rattle.std.proofs.Common.{◌≡◌, ℕ, zero, suc, ◌+◌, Bool, true, false, List, refl, sym, ap, ◌∙◌, arith}
use Rattle.std.specs.Prelude.{if◌then◌else◌}
use mathlib.Core.Path.{fun_ext}
use Rattle.sil_fraction.specs.Fraction.{Fraction, ◌+ℚ◌, ◌*ℚ◌, ◌-ℚ◌, ◌≤ℚ◌, whole}
use Rattle.sil_fraction.specs.Sum.{total, total_below}
use Rattle.sil_fraction.proofs.Laws.{add_comm, mul_comm, mul-add, zero-add, zero-mul, one-mul, sub-add, le_refl, mul-le-left, front}
use Rattle.sil_fraction.proofs.Sums.{add-le-add, add-mul, add_swap, mul-zero, mul-one, total-add, total-le, mul-total}
use Rattle.sil_model.specs.State.{FullState, is_same_state}
use Rattle.sil_model.specs.Events.{Event, flow_of, leaving_rate, step_of, through}
use Rattle.sil_model.specs.Series.{Values, times}
use Rattle.model_laws.specs.Polynomial.{IsLinear}

pub times-linear : {I : Type 0} (T : Values I → Values I) → IsLinear T → (k : ℕ) → IsLinear (times T k)
times-linear T t zero = record { adds = λ f g. refl; scales = λ c f. refl; grows = λ f g h. h }
times-linear T t (suc k) =
    let r : IsLinear (times T k) = times-linear T t k in
    record {
      adds = λ f g. ap T (r.adds f g) ∙ t.adds (times T k f) (times T k g);
      scales = λ c f. ap T (r.scales c f) ∙ t.scales c (times T k f);
      grows = λ f g h. t.grows (times T k f) (times T k g) (r.grows f g h);
    }

pub times-one : {A : Type 0} (g : A → A) (k : ℕ) (f : A) → times g k (g f) ≡ g (times g k f)
times-one g zero f = refl
times-one g (suc k) f = ap g (times-one g k f)

pub times-add : {I : Type 0} (T : Values I → Values I) (j k : ℕ) (f : Values I) → times T (j + k) f ≡ times T j (times T k f)
times-add T zero k f = let e : 0 + k ≡ k = omega arith in rw e refl
times-add T (suc j) k f = let e : suc j + k ≡ suc (j + k) = omega arith in rw e (ap T (times-add T j k f))

module _ {I : Type 0} (T : Values I → Values I) (t : IsLinear T) where
  nothing : T (λ i. whole 0) ≡ (λ i. whole 0)
  nothing = ap T (fun_ext (λ i. sym (zero-mul (whole 0)))) ∙ t.scales (whole 0) (λ i. whole 0) ∙ fun_ext (λ i. zero-mul _)

  -- an operator goes into a sum
  pub summed : (n : ℕ) (g : ℕ → Values I) → T (λ i. total_below n (λ k. g k i)) ≡ (λ i. total_below n (λ k. T (g k) i))
  summed zero g = nothing
  summed (suc n) g = t.adds (λ i. total_below n (λ k. g k i)) (g n) ∙ (let more : Values I → Values I = λ h i. h i +ℚ T (g n) i in ap more (summed n g))

-- a choice of a value times a factor
chosen : (b : Bool) (r x y : Fraction) → (if b then whole 0 else r *ℚ (x +ℚ y)) ≡ (if b then whole 0 else r *ℚ x) +ℚ (if b then whole 0 else r *ℚ y)
chosen true r x y = sym (zero-add (whole 0))
chosen false r x y = mul-add r x y

scaled : (b : Bool) (r c x : Fraction) → (if b then whole 0 else r *ℚ (c *ℚ x)) ≡ c *ℚ (if b then whole 0 else r *ℚ x)
scaled true r c x = sym (mul-zero c)
scaled false r c x = front r c x

kept : (b : Bool) (r x y : Fraction) → x ≤ℚ y → (if b then whole 0 else r *ℚ x) ≤ℚ (if b then whole 0 else r *ℚ y)
kept true r x y h = le_refl _
kept false r x y h = mul-le-left r x y h

module _ (es : List Event) where
  -- a flow of sums, of multiples and of greater values
  pub flow-add : (f g : FullState → Fraction) (s : FullState) → flow_of es (λ t. f t +ℚ g t) s ≡ flow_of es f s +ℚ flow_of es g s
  unfolding flow_of
  flow-add f g s = ap (λ (t : Event → Fraction). total t es) (fun_ext (λ e. chosen (is_same_state (e.move s) s) (e.rate s) (f (e.move s)) (g (e.move s)))) ∙ total-add _ _ es

  pub flow-scale : (c : Fraction) (f : FullState → Fraction) (s : FullState) → flow_of es (λ t. c *ℚ f t) s ≡ c *ℚ flow_of es f s
  unfolding flow_of
  flow-scale c f s = ap (λ (t : Event → Fraction). total t es) (fun_ext (λ e. scaled (is_same_state (e.move s) s) (e.rate s) c (f (e.move s)))) ∙ sym (mul-total c (through f s) es)

  pub flow-le : (f g : FullState → Fraction) → ((t : FullState) → f t ≤ℚ g t) → (s : FullState) → flow_of es f s ≤ℚ flow_of es g s
  unfolding flow_of
  flow-le f g h s = total-le _ _ es (λ e. kept (is_same_state (e.move s) s) (e.rate s) _ _ (h (e.move s)))

  module _ (h : Fraction) where
    step-add : (f g : FullState → Fraction) (s : FullState) → step_of es h (λ t. f t +ℚ g t) s ≡ step_of es h f s +ℚ step_of es h g s
    unfolding step_of
    step-add f g s = cc (
      ap (λ x. h *ℚ x) (flow-add f g s),
      mul-add h (flow_of es f s) (flow_of es g s),
      mul-add (whole 1 -ℚ h *ℚ leaving_rate es s) (f s) (g s),
      add_swap (h *ℚ flow_of es f s) (h *ℚ flow_of es g s) ((whole 1 -ℚ h *ℚ leaving_rate es s) *ℚ f s) ((whole 1 -ℚ h *ℚ leaving_rate es s) *ℚ g s),
    )

    step-scale : (c : Fraction) (f : FullState → Fraction) (s : FullState) → step_of es h (λ t. c *ℚ f t) s ≡ c *ℚ step_of es h f s
    unfolding step_of
    step-scale c f s = cc (ap (λ x. h *ℚ x) (flow-scale c f s), front h c (flow_of es f s), front (whole 1 -ℚ h *ℚ leaving_rate es s) c (f s), mul-add c (h *ℚ flow_of es f s) ((whole 1 -ℚ h *ℚ leaving_rate es s) *ℚ f s))

    step-le : (f g : FullState → Fraction) → ((t : FullState) → f t ≤ℚ g t) → (s : FullState) → step_of es h f s ≤ℚ step_of es h g s
    unfolding step_of
    step-le f g k s = add-le-add _ _ _ _ (mul-le-left h _ _ (flow-le f g k s)) (mul-le-left _ _ _ (k s))

    -- the uniformised step is linear, whatever its hours
    pub step-linear : IsLinear (step_of es h)
    step-linear = record { adds = λ f g. fun_ext (step-add f g); scales = λ c f. fun_ext (step-scale c f); grows = step-le }

    -- and it keeps a constant where it is short
    pub step-constant : ((s : FullState) → h *ℚ leaving_rate es s ≤ℚ whole 1) → (c : Fraction) (s : FullState) → step_of es h (λ t. c) s ≡ c
    unfolding step_of
    step-constant short c s =
        let ones : flow_of es (λ t. c) s ≡ c *ℚ leaving_rate es s = ap (λ (f : FullState → Fraction). flow_of es f s) (fun_ext (λ t. sym (mul-one c))) ∙ flow-scale c (λ t. whole 1) s in
        let X : Fraction = h *ℚ leaving_rate es s in
        ap (λ x. h *ℚ x +ℚ (whole 1 -ℚ X) *ℚ c) ones
        ∙ ap (λ x. x +ℚ (whole 1 -ℚ X) *ℚ c) (front h c (leaving_rate es s) ∙ mul_comm c X)
        ∙ sym (add-mul X (whole 1 -ℚ X) c)
        ∙ ap (λ x. x *ℚ c) (add_comm X (whole 1 -ℚ X) ∙ sub-add (whole 1) X (short s))
        ∙ one-mul c

-- iterates keep a constant that one step keeps
pub times-constant : {I : Type 0} (T : Values I → Values I) (c : Fraction) → T (λ i. c) ≡ (λ i. c) → (k : ℕ) → times T k (λ i. c) ≡ (λ i. c)
times-constant T c e zero = refl
times-constant T c e (suc k) = ap T (times-constant T c e k) ∙ e
