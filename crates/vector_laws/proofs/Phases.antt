-- Beats after beats: what a vector weighs after all of them, and what was dwelt on the way.
use Rattle.std.proofs.Common.{◌≡◌, ℕ, ◌+◌, List, sym, ap, ◌∙◌}
use mathlib.Core.Path.{fun_ext}
use Rattle.sil_fraction.specs.Fraction.{◌+ℚ◌}
use Rattle.sil_fraction.specs.Sum.{total_below}
use Rattle.sil_fraction.proofs.Laws.{add_assoc, le_refl, le_trans, le_of_same}
use Rattle.sil_fraction.proofs.Sums.{add-le-add, le-add_right, below-append}
use Rattle.sil_model.specs.Series.{Values, times, beat_of, mean_of}
use Rattle.model_laws.specs.Polynomial.{IsLinear, means_of}
use Rattle.model_laws.proofs.Operators.{times-add, times-linear, summed}
use Rattle.model_laws.proofs.Beats.{beat-linear}
use Rattle.vector_laws.specs.Vectors.{weigh}
use Rattle.vector_laws.proofs.Weighing.{weigh-add}
use Rattle.vector_laws.specs.Block.{IsAfter, IsDwelt}

-- the means of m beats, and of n more
means-add : {I : Type 0} (G M : Values I → Values I) → IsLinear G → (m n : ℕ) (f : Values I) (i : I)
    → means_of G M (m + n) f i ≡ means_of G M m f i +ℚ times G m (means_of G M n f) i
means-add {I} G M g m n f i =
    let moved : (j : ℕ) → times G (m + j) (M f) i ≡ times G m (times G j (M f)) i = λ j. ap (λ (h : Values I). h i) (times-add G m j (M f)) in
    below-append m n (λ j. times G j (M f) i)
    ∙ ap (λ s. means_of G M m f i +ℚ s) (ap (total_below n) (fun_ext moved)
    ∙ ap (λ (h : Values I). h i) (sym (summed (times G m) (times-linear G g m) n (λ j. times G j (M f)))))

module _ (is_below : (Values ℕ → Values ℕ) → Type 0) (order : ℕ) where
  -- no beat
  pub after_none : (v : List ℕ) → IsAfter is_below order 0 v v
  after_none v = record { weighed = λ T t b N within f. le_refl _ }

  pub dwelt_none : (v dwell : List ℕ) → IsDwelt is_below order 0 v dwell dwell
  dwelt_none v dwell = record { weighed = λ T t b N within f. le-add_right _ _ }

  module _ (m n : ℕ) (v u : List ℕ) (first : IsAfter is_below order m v u) where
    -- m beats and n more
    pub after_more : (w : List ℕ) → IsAfter is_below order n u w → IsAfter is_below order (m + n) v w
    after_more w second = record {
      weighed = λ T t b N within f.
          le_trans _ _ _ (second.weighed T t b N within f)
          (le_trans _ _ _ (first.weighed T t b N within (times (beat_of T N) n f)) (le_of_same _ _ (ap (weigh v) (sym (times-add (beat_of T N) m n f)))));
    }

    -- and what was dwelt in them
    pub dwelt_more : (old mid new : List ℕ) → IsDwelt is_below order m v old mid → IsDwelt is_below order n u mid new
        → IsDwelt is_below order (m + n) v old new
    dwelt_more old mid new one two = record {
      weighed = λ T t b N within f.
          let G : Values ℕ → Values ℕ = beat_of T N in
          let M : Values ℕ → Values ℕ = mean_of T N in
          let joined : weigh v (means_of G M m f) +ℚ weigh v (times G m (means_of G M n f)) ≡ weigh v (means_of G M (m + n) f) =
          sym (weigh-add v (means_of G M m f) (times G m (means_of G M n f)))
          ∙ ap (weigh v) (fun_ext (λ i. sym (means-add G M (beat-linear T t N) m n f i))) in
          le_trans _ _ _ (two.weighed T t b N within f)
          (le_trans _ _ _ (add-le-add _ _ _ _ (one.weighed T t b N within f) (first.weighed T t b N within (means_of G M n f)))
          (le_of_same _ _ (add_assoc _ _ _ ∙ ap (λ s. weigh old f +ℚ s) joined)));
    }
