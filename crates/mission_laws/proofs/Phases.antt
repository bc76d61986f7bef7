-- What the beats of a phase count: what comes after them, and where they count the mean over the phase times its hours.
use Rattle.std.proofs.Common.{◌≡◌, ℕ, zero, suc, true, false, List, ◌++◌, replicate, refl, sym, ap, ◌∙◌}
use mathlib.Core.Path.{fun_ext}
use Rattle.sil_fraction.specs.Fraction.{Fraction, ◌+ℚ◌, ◌*ℚ◌, whole, ratio, inverse}
use Rattle.sil_fraction.proofs.Laws.{add_comm, add_assoc, mul_comm, mul_assoc, mul-add}
use Rattle.sil_fraction.proofs.Sums.{add-zero, mul-zero, below-first}
use Rattle.sil_model.specs.Series.{Values, times}
use Rattle.sil_model.specs.Calendar.{ChannelTest, beats_of}
use Rattle.sil_model.specs.Pay.{Item, beats_items}
use Rattle.sil_model.specs.Pay.Item.{Beat}
use Rattle.sil_model.specs.declared.parts.Subsystem.{Subsystem}
use Rattle.model_laws.specs.Polynomial.{IsLinear, means_of}
use Rattle.model_laws.proofs.Operators.{summed}
use Rattle.lumped_laws.specs.ValueLists.{beat_list, mean_list, phase_list, phase_mean_list}
use Rattle.lumped_laws.proofs.LinearLists.{beat_list-linear}
use Rattle.mission_laws.specs.Counted.{counted_list}

-- one beat more in front of k beats
means-next : (G M : Values ℕ → Values ℕ) → IsLinear G → (k : ℕ) (f : Values ℕ) (i : ℕ)
    → G (means_of G M k f) i +ℚ M f i ≡ means_of G M (suc k) f i
means-next G M linear k f i =
    ap (λ (v : Values ℕ). v i +ℚ M f i) (summed G linear k (λ j. times G j (M f)))
    ∙ add_comm _ (M f i) ∙ sym (below-first k (λ j. times G j (M f) i))

-- hours that are shared out over n beats
shared : (t n : ℕ) (x : Fraction) → ratio t n *ℚ x ≡ whole t *ℚ (x *ℚ inverse (whole n))
shared t n x = mul_assoc (whole t) (inverse (whole n)) x ∙ ap (λ y. whole t *ℚ y) (mul_comm (inverse (whole n)) x)

module _ (us : List Subsystem) (n : ℕ) (f : Values ℕ) (p : List ChannelTest → Values ℕ) (last : Values ℕ) where
  abbrev counted : List Item → Values ℕ
  counted = counted_list us n f p last

  module _ (h : Fraction) (rest : List Item) where
    abbrev G : Values ℕ → Values ℕ
    G = beat_list us n h

    abbrev M : Values ℕ → Values ℕ
    M = mean_list us n h

    beats-counted : (k : ℕ) → counted (replicate k (Beat h true) ++ rest) ≡ (λ i. times G k (counted rest) i +ℚ h *ℚ means_of G M k f i)
    unfolding counted_list
    beats-counted zero = fun_ext (λ i. sym (ap (λ x. counted rest i +ℚ x) (mul-zero h) ∙ add-zero (counted rest i)))
    beats-counted (suc k) = fun_ext (λ i.
        let linear : IsLinear G = beat_list-linear us n h in
        ap (λ (v : Values ℕ). G v i +ℚ h *ℚ M f i) (beats-counted k)
        ∙ ap (λ (v : Values ℕ). v i +ℚ h *ℚ M f i) (linear.adds (times G k (counted rest)) (λ j. h *ℚ means_of G M k f j))
        ∙ ap (λ (v : Values ℕ). (G (times G k (counted rest)) i +ℚ v i) +ℚ h *ℚ M f i) (linear.scales h (means_of G M k f))
        ∙ add_assoc (G (times G k (counted rest)) i) (h *ℚ G (means_of G M k f) i) (h *ℚ M f i)
        ∙ ap (λ x. G (times G k (counted rest)) i +ℚ x)
        (sym (mul-add h (G (means_of G M k f) i) (M f i)) ∙ ap (λ x. h *ℚ x) (means-next G M linear k f i)))

    beats-idle : (k : ℕ) → counted (replicate k (Beat h false) ++ rest) ≡ times G k (counted rest)
    unfolding counted_list
    beats-idle zero = refl
    beats-idle (suc k) = fun_ext (λ i. add-zero _ ∙ ap (λ (v : Values ℕ). G v i) (beats-idle k))

  -- the beats of a phase of t hours
  module _ (t : ℕ) (rest : List Item) where
    abbrev beats : ℕ
    beats = beats_of us t

    pub phase-counted : counted (beats_items us true t ++ rest)
        ≡ (λ i. phase_list us n (ratio t beats) beats (counted rest) i +ℚ whole t *ℚ phase_mean_list us n (ratio t beats) beats f i)
    phase-counted =
        let h : Fraction = ratio t beats in
        beats-counted h rest beats
        ∙ fun_ext (λ i. ap (λ x. phase_list us n h beats (counted rest) i +ℚ x) (shared t beats (means_of (beat_list us n h) (mean_list us n h) beats f i)))

    pub phase-idle : counted (beats_items us false t ++ rest) ≡ phase_list us n (ratio t beats) beats (counted rest)
    phase-idle = beats-idle (ratio t beats) rest beats
