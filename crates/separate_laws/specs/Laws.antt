-- The laws of separate beats.
use Rattle.std.specs.Prelude.{◌≡◌, ℕ, ◌+◌, ◌^◌, ◌≤◌, List, length, sum}
use Rattle.sil_fraction.specs.Fraction.{◌≤ℚ◌}
use Rattle.sil_model.specs.Series.{Values, times, beat_of}
use Rattle.vector_laws.specs.Vectors.{weigh}
use Rattle.separate_laws.specs.Separate.{separate_beats, expected_over, IsBelowSeparate, IsReduced}

module _ (n : ℕ) (T : Values ℕ → Values ℕ) (Ps : List (Values ℕ → Values ℕ)) where
  -- beats after beats; and what is below separate beats, made a little smaller, is below the beats of T
  pub record SeparateLaw : Type 0 where
    pub none : (N : ℕ) (f : Values ℕ) → separate_beats Ps N 0 f ≡ f
    pub passes : (N p q : ℕ) (f : Values ℕ) → separate_beats Ps N (p + q) f ≡ separate_beats Ps N p (separate_beats Ps N q f)
    pub reduced : (m : ℕ) (c : ℕ → ℕ) (v a b out : List ℕ) → m ≤ 1_000_000 → sum v ≤ 2 ^ 48 → length v ≡ n → length a ≡ n → length b ≡ n
        → IsBelowSeparate m c Ps 0 v a → IsBelowSeparate m c Ps 16 v b → IsReduced m c v a b out
        → (N : ℕ) → 16 ≤ N → (f : Values ℕ) → weigh out f ≤ℚ weigh v (expected_over m c (times (beat_of T N)) f)
