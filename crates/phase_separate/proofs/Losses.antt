-- What a phase loses where each subsystem passes its beats for itself.
use Rattle.std.proofs.Common.{◌≡◌, ℕ, ◌+◌, ◌-◌, ◌*◌, ◌^◌, ◌<◌, ◌≤◌, List, length, sum, arith}
use Rattle.std.proofs.Math.Nat.{mul-le-mul_left, mul-le-mul_right, le_of_mul-le-mul_right}
use Rattle.sil_model.specs.Sizes.{states_of}
use Rattle.sil_model.specs.declared.parts.Subsystem.{Subsystem}
use Rattle.uniformise.specs.Beat.{dwell_loss}
use Rattle.phase_run.specs.Passes.{block_beat_loss}
use Rattle.phase_separate.specs.Losses.{LoseLittle, vectors_lack}
use Rattle.phase_separate.specs.Passes.{IsLowered}
use Rattle.phase_separate.specs.Subsystems.{matrix_loss}
use Rattle.phase_separate.proofs.Lowered.{lowered_least}

-- a sum A of S numbers that becomes O, lowered by m times what it, C and S times `lacked` come to, over t vectors
within : (m t A C O S lacked lack P : ℕ) → 0 < P → A * P ≤ O * P + m * (A + C + S * lacked) + S * P → A + C ≤ t * (8 * P) → lacked ≤ t * lack
    → S * lack ≤ P → A ≤ O + 9 * (m * t) + S
within m t A C O S lacked lack P some h sums lacks little =
    let each : S * lacked ≤ S * (t * lack) = mul-le-mul_left S lacks in
    let all : t * (S * lack) ≤ t * P = mul-le-mul_left t little in
    let inner : A + C + S * lacked ≤ t * (9 * P) = omega (arith, each, all, sums) in
    let outer : m * (A + C + S * lacked) ≤ m * (t * (9 * P)) = mul-le-mul_left m inner in
    le_of_mul-le-mul_right {k = P} (omega (arith, outer, h)) some

-- what the vectors lack, by the loss Q of a beat and L of a rounding
end_lacked : (m Q L s A C : ℕ) → s ≤ A + m * Q + L → A ≤ C + 16 * Q + L
    → (s - A) + (s - C) + 16 * 1 * (m + 16) ≤ 1 * (2 * m * Q + 3 * L + 16 * Q + 16 * (m + 16))
end_lacked m Q L s A C first second = omega (arith, first, second)

sum_lacked : (m Q L s W Z : ℕ) → 0 < m → m * s + L ≤ W + m * m * Q + m * L → W ≤ Z + m * (16 * Q) + L
    → (m * s - W) + (m * s - Z) + 16 * m * (m + 16) ≤ m * (2 * m * Q + 3 * L + 16 * Q + 16 * (m + 16))
sum_lacked m Q L s W Z some first second =
    let one : 1 * L ≤ m * L = mul-le-mul_right L some in
    omega (arith, first, second, one)

-- all that is lost, by numbers: of S states and K subsystems
module _ (m Q S K D B : ℕ) (some : 0 < m) (all : m * Q + (K + 2) * S + 9 * m + D ≤ m * B) where
  end_numbers : (s A O : ℕ) → s ≤ A + m * Q + K * S → A ≤ O + 9 * (m * 1) + S → s ≤ O + m * B
  end_numbers s A O first second = omega (arith, first, second, all)

  dwell_numbers : (s O d : ℕ) → m * s + K * S ≤ O + m * m * Q + m * (K * S) + 9 * (m * m) + S → O ≤ d + m * D + m * S → m * s ≤ d + m * m * B
  dwell_numbers s O d first second =
      let more : m * (m * Q + (K + 2) * S + 9 * m + D) ≤ m * (m * B) = mul-le-mul_left m all in
      let once : 1 * S ≤ m * S = mul-le-mul_right S some in
      omega (arith, more, once, first, second)

module _ (us : List Subsystem) (m : ℕ) (little : LoseLittle us m) where
  -- at the end of the beats
  module _ (s : ℕ) (mass : s ≤ 2 ^ 48) (a b out : List ℕ) (long : length a ≡ states_of us) (size : length b ≡ length a)
      (most : sum a ≤ s) (least : s ≤ sum a + m * matrix_loss us + length us * states_of us)
      (later_most : sum b ≤ sum a) (later_least : sum a ≤ sum b + 16 * matrix_loss us + length us * states_of us)
      (lowered : IsLowered m ((s - sum a) + (s - sum b) + 16 * 1 * (m + 16)) a b out) where
    end_lowered : sum a ≤ sum out + 9 * (m * 1) + states_of us
    end_lowered =
        within m 1 (sum a) (sum b) (sum out) (states_of us) ((s - sum a) + (s - sum b) + 16 * 1 * (m + 16)) (vectors_lack us m) (2 ^ 46) (omega arith)
        (rw long at (lowered_least m _ a b out lowered size)) (omega arith)
        (end_lacked m (matrix_loss us) (length us * states_of us) s (sum a) (sum b) least later_least) little.lowered

    pub end_lack : s ≤ sum out + m * block_beat_loss us
    end_lack =
        end_numbers m (matrix_loss us) (states_of us) (length us) (dwell_loss us 16) (block_beat_loss us) little.some little.all
        s (sum a) (sum out) least end_lowered

  -- of the sum of the vectors at the start of each of them
  module _ (s : ℕ) (mass : s ≤ 2 ^ 48) (w z out : List ℕ) (long : length w ≡ states_of us) (size : length z ≡ length w)
      (most : sum w ≤ m * s) (least : m * s + length us * states_of us ≤ sum w + m * m * matrix_loss us + m * (length us * states_of us))
      (later_most : sum z ≤ sum w) (later_least : sum w ≤ sum z + m * (16 * matrix_loss us) + length us * states_of us)
      (lowered : IsLowered m ((m * s - sum w) + (m * s - sum z) + 16 * m * (m + 16)) w z out) where
    sum_lowered : sum w ≤ sum out + 9 * (m * m) + states_of us
    sum_lowered =
        within m m (sum w) (sum z) (sum out) (states_of us) ((m * s - sum w) + (m * s - sum z) + 16 * m * (m + 16)) (vectors_lack us m) (2 ^ 46)
        (omega arith) (rw long at (lowered_least m _ w z out lowered size)) (omega (arith, mul-le-mul_left m mass))
        (sum_lacked m (matrix_loss us) (length us * states_of us) s (sum w) (sum z) little.some least later_least) little.lowered

    pub sum_lack : m * s + length us * states_of us
        ≤ sum out + m * m * matrix_loss us + m * (length us * states_of us) + 9 * (m * m) + states_of us
    sum_lack = omega (arith, sum_lowered, least)

  -- of what is dwelt in them
  pub dwell_lack : (s : ℕ) (sums dwell : List ℕ)
      → m * s + length us * states_of us ≤ sum sums + m * m * matrix_loss us + m * (length us * states_of us) + 9 * (m * m) + states_of us
      → sum sums ≤ sum dwell + m * dwell_loss us 16 + m * states_of us → m * s ≤ sum dwell + m * m * block_beat_loss us
  dwell_lack s sums dwell first second =
      dwell_numbers m (matrix_loss us) (states_of us) (length us) (dwell_loss us 16) (block_beat_loss us) little.some little.all
      s (sum sums) (sum dwell) first second
