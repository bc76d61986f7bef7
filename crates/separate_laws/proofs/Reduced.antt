-- A vector below powers of X, each number made a little smaller, is below the powers of G.
use Rattle.std.proofs.Common.{◌≡◌, ℕ, ◌+◌, ◌-◌, ◌*◌, ◌^◌, ◌<◌, ◌≤◌, inl, inr, List, length, sum, get_or, sym, ap, ◌∙◌, arith}
use mathlib.Core.Path.{fun_ext}
use Rattle.sil_fraction.specs.Fraction.{Fraction, ◌+ℚ◌, ◌*ℚ◌, ◌≤ℚ◌, whole}
use Rattle.sil_fraction.specs.Sum.{total_below}
use Rattle.sil_fraction.proofs.Laws.{add_comm, add_assoc, mul_comm, whole-add, whole-mul, whole-le, zero-le}
use Rattle.sil_fraction.proofs.Laws.{le_refl, le_trans, le_of_same, mul-le-left, mul-le-right, add-le-cancel_right}
use Rattle.sil_fraction.proofs.Sums.{below-le, add-le-add, le_from_scaled}
use Rattle.sil_model.specs.Series.{Values, times}
use Rattle.model_laws.specs.Polynomial.{IsLinear}
use Rattle.model_laws.proofs.Operators.{times-linear, summed}
use Rattle.vector_laws.specs.Vectors.{weigh}
use Rattle.vector_laws.proofs.Weighing.{weigh-add, weigh-mul, weigh-total, weigh-ones, weigh-all-le, weigh-below}
use Rattle.separate_laws.specs.Separate.{expected_over, all_over, lacked, IsReduced}
use Rattle.separate_laws.proofs.Steps.{Step, scaled}
use Rattle.separate_laws.proofs.Places.{at_place, elsewhere, all_places, weigh-place, places-le}
use Rattle.separate_laws.proofs.Expected.{expected-linear, expected-most, expected-near}

module _ (m : ℕ) (c : ℕ → ℕ) (v : List ℕ) (X : Step) (x : IsLinear X)
    (mass : (j : ℕ) → j ≤ m + 16 → weigh v (times X j (λ i. whole 1)) ≤ℚ whole (sum v + 8 * (m + 16))) where
  -- by so many steps more
  abbrev pub ahead : ℕ → Step
  ahead more = expected_over m c (λ j. times X (j + more))

  ahead-linear : (more : ℕ) → IsLinear (ahead more)
  ahead-linear more = expected-linear m c (λ j. times X (j + more)) (λ j. times-linear X x (j + more))

  -- what v weighs by one place is at most what a vector below it has there, and what it lacks
  module _ (more : ℕ) (few : more ≤ 16) (w : List ℕ) (below : (f : Values ℕ) → weigh w f ≤ℚ weigh v (ahead more f)) (k : ℕ) (inside : k < length w) where
    numbers : all_over m c * (sum v + 8 * (m + 16)) + get_or w k 0
        ≤ get_or w k 0 + (all_over m c * sum v - sum w) + 8 * all_over m c * (m + 16) + sum w
    numbers = omega arith

    pub place-most : weigh v (ahead more (at_place k)) ≤ℚ whole (get_or w k 0 + (all_over m c * sum v - sum w) + 8 * all_over m c * (m + 16))
    place-most =
        let H : Step = ahead more in
        let h : IsLinear H = ahead-linear more in
        let p : Fraction = weigh v (H (at_place k)) in
        let q : Fraction = weigh w (elsewhere k) in
        let one : Values ℕ = λ i. whole 1 in
        let ones : (λ i. at_place k i +ℚ elsewhere k i) ≡ one = fun_ext (all_places k) in
        let all : weigh v (H (λ i. whole 1)) ≤ℚ whole (all_over m c * (sum v + 8 * (m + 16))) =
        expected-most m c (λ j. times X (j + more)) (λ j. times-linear X x (j + more)) v (λ i. whole 1) (sum v + 8 * (m + 16)) (λ j l. mass (j + more) (omega arith)) in
        let split : weigh v (H (λ i. whole 1)) ≡ p +ℚ weigh v (H (elsewhere k)) =
        ap (λ (f : Values ℕ). weigh v (H f)) (sym ones) ∙ ap (weigh v) (h.adds (at_place k) (elsewhere k)) ∙ weigh-add v _ _ in
        let own : whole (sum w) ≡ whole (get_or w k 0) +ℚ q =
        sym (weigh-ones w) ∙ ap (weigh w) (sym ones) ∙ weigh-add w (at_place k) (elsewhere k) ∙ ap (λ s. s +ℚ q) (weigh-place w k inside) in
        let rest : p +ℚ q ≤ℚ whole (all_over m c * (sum v + 8 * (m + 16))) =
        le_trans _ _ _ (add-le-add _ _ _ _ (le_refl p) (below (elsewhere k))) (le_trans _ _ _ (le_of_same _ _ (sym split)) all) in
        add-le-cancel_right _ _ (whole (sum w))
        (le_trans _ _ _ (le_of_same _ _ (ap (λ s. p +ℚ s) (own ∙ add_comm _ _) ∙ sym (add_assoc _ _ _)))
        (le_trans _ _ _ (add-le-add _ _ _ _ rest (le_refl (whole (get_or w k 0))))
        (le_trans _ _ _ (le_of_same _ _ (sym (whole-add _ _))) (le_trans _ _ _ (whole-le _ _ numbers) (le_of_same _ _ (whole-add _ (sum w)))))))

  module _ (G : Step) (g : IsLinear G)
      (near : (j : ℕ) (f : Values ℕ) (i : ℕ) → whole (2 ^ 46) *ℚ times X j f i
      ≤ℚ whole (2 ^ 46) *ℚ times G j f i +ℚ whole j *ℚ (times X j f i +ℚ times X (j + 16) f i))
      (a b out : List ℕ) (reduced : IsReduced m c v a b out) (same_length : length b ≡ length a)
      (below_a : (f : Values ℕ) → weigh a f ≤ℚ weigh v (ahead 0 f)) (below_b : (f : Values ℕ) → weigh b f ≤ℚ weigh v (ahead 16 f)) where
    abbrev D : Fraction
    D = whole (2 ^ 46)

    abbrev H : Step
    H = expected_over m c (times G)

    h : IsLinear H
    h = expected-linear m c (times G) (times-linear G g)

    near-expected : (f : Values ℕ) → D *ℚ weigh v (ahead 0 f) ≤ℚ D *ℚ weigh v (H f) +ℚ whole m *ℚ (weigh v (ahead 0 f) +ℚ weigh v (ahead 16 f))
    near-expected f =
        let near_none : (j : ℕ) (i : ℕ) → D *ℚ times X (j + 0) f i ≤ℚ D *ℚ times G j f i +ℚ whole j *ℚ (times X (j + 0) f i +ℚ times X (j + 16) f i) =
        λ j i. let e : j + 0 ≡ j = omega arith in rw e (near j f i) in
        let each : (i : ℕ) → D *ℚ ahead 0 f i ≤ℚ D *ℚ H f i +ℚ whole m *ℚ (ahead 0 f i +ℚ ahead 16 f i) =
        λ i. expected-near m c D (λ j. times X (j + 0)) (λ j. times X (j + 16)) (times G) f i (λ j. near_none j i) in
        le_trans _ _ _ (le_of_same _ _ (sym (weigh-mul v D (ahead 0 f))))
        (le_trans _ _ _ (weigh-all-le v (scaled D (ahead 0 f)) (λ i. D *ℚ H f i +ℚ whole m *ℚ (ahead 0 f i +ℚ ahead 16 f i)) each)
        (le_of_same _ _ (weigh-add v (scaled D (H f)) (λ i. whole m *ℚ (ahead 0 f i +ℚ ahead 16 f i))
        ∙ cc (weigh-mul v D (H f), weigh-mul v (whole m) (λ i. ahead 0 f i +ℚ ahead 16 f i), weigh-add v (ahead 0 f) (ahead 16 f)))))

    module _ (k : ℕ) (inside : k < length a) where
      R : ℕ
      R = get_or a k 0 + get_or b k 0 + lacked m c v a b

      both_most : weigh v (ahead 0 (at_place k)) +ℚ weigh v (ahead 16 (at_place k)) ≤ℚ whole R
      unfolding R
      both_most =
          let p : weigh v (ahead 0 (at_place k)) ≤ℚ whole (get_or a k 0 + (all_over m c * sum v - sum a) + 8 * all_over m c * (m + 16)) =
          place-most 0 (omega arith) a below_a k inside in
          let q : weigh v (ahead 16 (at_place k)) ≤ℚ whole (get_or b k 0 + (all_over m c * sum v - sum b) + 8 * all_over m c * (m + 16)) =
          place-most 16 (omega arith) b below_b k (omega arith) in
          le_trans _ _ _ (add-le-add _ _ _ _ p q) (le_trans _ _ _ (le_of_same _ _ (sym (whole-add _ _))) (whole-le _ _ (omega arith)))

      at_most : whole (get_or a k 0 * 2 ^ 46) ≤ℚ weigh v (H (at_place k)) *ℚ D +ℚ whole (m * R)
      at_most =
          le_trans _ _ _ (le_of_same _ _ (whole-mul (get_or a k 0) (2 ^ 46) ∙ mul_comm _ _ ∙ ap (λ s. D *ℚ s) (sym (weigh-place a k inside))))
          (le_trans _ _ _ (mul-le-left D _ _ (below_a (at_place k)))
          (le_trans _ _ _ (near-expected (at_place k))
          (add-le-add _ _ _ _ (le_of_same _ _ (mul_comm _ _)) (le_trans _ _ _ (mul-le-left (whole m) _ _ both_most) (le_of_same _ _ (sym (whole-mul m R)))))))

      one_place : whole (get_or out k 0) ≤ℚ weigh v (H (at_place k))
      unfolding R
      one_place = elim (reduced.numbers k inside) [
        | inl e ↦ le_trans _ _ _ (le_of_same _ _ (ap whole e)) (zero-le _)
        | inr e ↦
            le_from_scaled (2 ^ 46) _ _ (omega arith)
            (add-le-cancel_right _ _ (whole (m * R))
            (le_trans _ _ _ (le_of_same _ _ (ap (λ s. s +ℚ whole (m * R)) (sym (whole-mul (get_or out k 0) (2 ^ 46))) ∙ sym (whole-add _ _)))
            (le_trans _ _ _ (whole-le _ _ e) at_most)))
      ]

    -- place by place
    pub reduced_below : (f : Values ℕ) → weigh out f ≤ℚ weigh v (H f)
    reduced_below f =
        let n : ℕ = length out in
        let size : length out ≡ length a = reduced.size in
        let apart : (k : ℕ) → scaled (f k) (H (at_place k)) ≡ H (scaled (f k) (at_place k)) = λ k. sym (h.scales (f k) (at_place k)) in
        let together : (λ i. total_below n (λ k. scaled (f k) (H (at_place k)) i)) ≡ H (λ i. total_below n (λ k. scaled (f k) (at_place k) i)) =
        fun_ext (λ i. ap (total_below n) (fun_ext (λ k. ap (λ (w : Values ℕ). w i) (apart k)))) ∙ sym (summed H h n (λ k. scaled (f k) (at_place k))) in
        le_trans _ _ _ (le_of_same _ _ (weigh-below out f))
        (le_trans _ _ _
        (below-le n _ (λ k. weigh v (scaled (f k) (H (at_place k))))
        (λ k p. le_trans _ _ _ (mul-le-right _ _ (f k) (one_place k (omega arith))) (le_of_same _ _ (mul_comm _ _ ∙ sym (weigh-mul v (f k) (H (at_place k)))))))
        (le_trans _ _ _ (le_of_same _ _ (sym (weigh-total v n (λ k. scaled (f k) (H (at_place k)))) ∙ ap (weigh v) together))
        (weigh-all-le v _ _ (h.grows _ f (places-le n f)))))
