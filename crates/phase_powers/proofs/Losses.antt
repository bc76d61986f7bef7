-- What a phase loses by the powers of its beat is no more than its beats may lose.
use Rattle.std.proofs.Common.{◌≡◌, ℕ, zero, suc, ◌+◌, ◌-◌, ◌*◌, ◌^◌, ◌<◌, ◌≤◌, List, ap, arith}
use Rattle.std.proofs.Math.Nat.{mul-le-mul_left, mul-le-mul_right, pow-suc, pow-zero}
use Rattle.sil_model.specs.Budget.{beat_loss_of}
use Rattle.sil_model.specs.Sizes.{states_of}
use Rattle.sil_model.specs.declared.parts.Subsystem.{Subsystem}
use Rattle.uniformise.specs.Beat.{vector_loss, dwell_loss}
use Rattle.dense_power.specs.Powers.{end_lack_of, dwell_lack_of}

-- what a beat may lose is more by the square of the order than what a row and a rounding lose, and by a rounding than
-- what its dwell loses
record IsAllowed (s r d loss spare : ℕ) : Type 0 where
  pub ends : r + s + spare ≡ loss
  pub dwells : d + s ≡ loss
  pub enough : s ≤ spare

square : (order : ℕ) → order ^ 2 ≡ order * order
square order =
    let none : order ^ 0 ≡ 1 = pow-zero order in
    let one : order ^ 1 ≡ order = omega (arith, pow-suc order 0, ap (λ n. n * order) none) in
    omega (arith, pow-suc order 1, ap (λ n. n * order) one)

allowed : (us : List Subsystem) (order : ℕ) → states_of us ≤ 64 → 16 ≤ order
    → IsAllowed (states_of us) (vector_loss us order) (dwell_loss us order) (beat_loss_of us order) (order * order)
unfolding beat_loss_of
allowed us order few least = record {
  ends = omega (arith, square order);
  dwells = omega (arith, square order);
  enough = omega (arith, mul-le-mul_left order least, few);
}

end_within : (s r d loss spare m : ℕ) → IsAllowed s r d loss spare → 0 < m → s + end_lack_of s r m ≤ m * loss
end_within s r d loss spare m a some =
    let one : 1 ≤ m = omega arith in omega (arith, mul-le-mul_right spare one, a.enough, ap (λ x. m * x) a.ends)

dwell_within : (s r d loss spare m : ℕ) → IsAllowed s r d loss spare → 0 < m → s + dwell_lack_of s r d m ≤ m * m * loss
dwell_within s r d loss spare zero a some = absurd (omega arith)
dwell_within s r d loss spare (suc k) a some =
    let less : suc k - 1 ≡ k = omega arith in
    let below : r + s ≤ loss = omega (arith, a.ends) in
    rw less (omega (arith, ap (λ x. suc k * x) a.dwells, mul-le-mul_left (k * suc k) below))

module _ (us : List Subsystem) (order m : ℕ) (few : states_of us ≤ 64) (least : 16 ≤ order) (some : 0 < m) where
  pub end_loss : states_of us + end_lack_of (states_of us) (vector_loss us order) m ≤ m * beat_loss_of us order
  end_loss = end_within _ _ _ _ _ m (allowed us order few least) some

  pub dwell_lack : states_of us + dwell_lack_of (states_of us) (vector_loss us order) (dwell_loss us order) m ≤ m * m * beat_loss_of us order
  dwell_lack = dwell_within _ _ _ _ _ m (allowed us order few least) some
