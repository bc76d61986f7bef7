-- Sums over the subsystems of a loop, one by one.
use Rattle.std.proofs.Common.{◌≡◌, ℕ, ◌+◌, ◌*◌, ◌^◌, ◌<◌, ◌≤◌, List, [], ◌∷◌, length, take, get_or, refl, ap, arith}
use Rattle.std.specs.Prelude.{All, sum_by}
use Rattle.std.proofs.Math.Nat.{pow-suc, pow-zero}
use Rattle.std.proofs.lemmas.Nat.{mul-le}
use Rattle.std.proofs.lemmas.List.{take_more, length-take}
use Rattle.std.proofs.lemmas.List.Sums.{sum_by_more}
use Rattle.std.proofs.lemmas.List.Elements.{All-append, All-cons, All-nil}
use Rattle.sil_fraction.specs.Sum.{sum_below}
use Rattle.sil_model.specs.Sizes.{states_of}
use Rattle.sil_model.specs.WeightTable.{weight_of, missing_of}
use Rattle.sil_model.specs.Budget.{lumped_events_of}
use Rattle.phase_run.specs.Passes.{block_beat_loss}
use Rattle.phase_separate.specs.Losses.{LoseLittle}
use Rattle.sil_model.specs.declared.parts.Subsystem.{Subsystem}
use Rattle.uniformise.specs.Beat.{vector_loss}
use Rattle.separate_laws.specs.Subsystems.{states_in}
use Rattle.subsystem_power.specs.Powers.{begin_products}
use Rattle.phase_separate.specs.Extents.{IsSizeOf, AreSumsOf, AreSmall, IsAdded}
use Rattle.phase_separate.specs.Subsystems.{matrix_loss}
use Rattle.phase_separate.specs.declared.extent.Size.{Size}
use Rattle.phase_separate.specs.declared.extent.Sums.{Sums}

-- what the weights of order 16 lack
pub missing : missing_of 16 ≡ 13
unfolding missing_of weight_of sum_below
missing = refl

pub cube : (n : ℕ) → n * n * n ≡ n ^ 3
cube n =
    let one : n ^ 1 ≡ n = omega (arith, pow-suc n 0, ap (λ x. n * x) (pow-zero n)) in
    let two : n ^ 2 ≡ n * n = omega (arith, pow-suc n 1, ap (λ x. n * x) one) in
    omega (arith, pow-suc n 2, ap (λ x. n * x) two)

pub small : (us : List Subsystem) (s : Sums) → length us ≤ 6 → AreSumsOf us s → AreSmall s
small us s few sums = record {
  states = omega (arith, sums.few_states, few);
  cubes = omega (arith, sums.few_cubes, few);
  begin = omega (arith, sums.few_to_begin, few);
  lack = omega (arith, sums.little, few);
}

-- what one subsystem adds is small
module _ (n e : ℕ) (few : n ≤ 64) (few_events : e ≤ 35) where
  small_cube : n ^ 3 ≤ 262_144
  small_cube = omega (arith, cube n, mul-le (n * n) n 4_096 64 (mul-le n n 64 64 few few) few)

  small_begin : n * (n * (16 * (e + 1) + 2 * 16 + 1)) + 4 * n ^ 3 ≤ 4_000_000
  small_begin =
      let inner : n * (16 * (e + 1) + 2 * 16 + 1) ≤ 38_976 = mul-le n (16 * (e + 1) + 2 * 16 + 1) 64 609 few (omega (arith, few_events)) in
      omega (arith, small_cube, mul-le n (n * (16 * (e + 1) + 2 * 16 + 1)) 64 38_976 few inner)

module _ (us : List Subsystem) (i : ℕ) (u : Subsystem) (size : Size) (before after : Sums) (inside : i < length us)
    (sums : AreSumsOf (take i us) before) (is : IsSizeOf (get_or us i u) size) (few : size.states ≤ 64) (added : IsAdded before size after) where
  longer : length (take (i + 1) us) ≡ length (take i us) + 1
  longer = omega (arith, length-take (i + 1) us, length-take i us, inside)

  begins : sum_by (λ v. begin_products (v ∷ [])) (take (i + 1) us)
      ≡ sum_by (λ v. begin_products (v ∷ [])) (take i us) + (size.states * (size.states * (16 * (size.events + 1) + 2 * 16 + 1)) + 4 * size.states ^ 3)
  begins = rw (is.states, is.events) (sum_by_more (λ v. begin_products (v ∷ [])) us i u inside)

  lacks : matrix_loss (take (i + 1) us) ≡ matrix_loss (take i us) + (2 * size.events + 3 * size.states + 13)
  lacks =
      let more : matrix_loss (take (i + 1) us) ≡ matrix_loss (take i us) + (vector_loss (get_or us i u ∷ []) 16 + states_in (get_or us i u)) =
      sum_by_more (λ v. vector_loss (v ∷ []) 16 + states_in v) us i u inside in
      omega (arith, more, is.states, is.events, missing)

  pub sums_more : AreSumsOf (take (i + 1) us) after
  sums_more = record {
    states = omega (arith, added.states, sums.states, is.states, sum_by_more states_in us i u inside);
    cubes = omega (arith, added.cubes, sums.cubes, ap (λ n. n ^ 3) is.states, sum_by_more (λ v. states_in v ^ 3) us i u inside);
    begin = omega (arith, added.begin, sums.begin, begins);
    lack = omega (arith, added.lack, sums.lack, lacks);
    few_states = omega (arith, added.states, sums.few_states, few, longer);
    few_cubes = omega (arith, added.cubes, sums.few_cubes, small_cube size.states size.events few is.few_events, longer);
    few_to_begin = omega (arith, added.begin, sums.few_to_begin, small_begin size.states size.events few is.few_events, longer);
    little = omega (arith, added.lack, sums.little, few, is.few_events, longer);
  }

  pub few_more : All (λ v. states_in v ≤ 64) (take i us) → All (λ v. states_in v ≤ 64) (take (i + 1) us)
  few_more all = rw (take_more us i u inside)
      (All-append (λ v. states_in v ≤ 64) (take i us) (get_or us i u ∷ []) all
      (All-cons (λ v. states_in v ≤ 64) (get_or us i u) [] (omega (arith, is.states, few)) (All-nil (λ v. states_in v ≤ 64))))

-- so many beats lose little, by numbers that are these sums
pub little : (us : List Subsystem) (m states events count lack : ℕ) → states ≡ states_of us → events ≡ lumped_events_of us → count ≡ length us
    → lack ≡ matrix_loss us → 0 < m → m < 2 ^ 15 → states * (2 * m * lack + 3 * (count * states) + 16 * lack + 16 * (m + 16)) ≤ 2 ^ 46
    → m * lack + count * states + 2 * states + 9 * m + (2 * events + 2 * states + 13 + 256) ≤ m * (2 * events + 2 * states + 200) → LoseLittle us m
unfolding lumped_events_of
little us m states events count lack is_states is_events is_count is_lack some few lowered all =
    let loss : block_beat_loss us ≡ 2 * events + 2 * states_of us + 200 = omega (arith, is_events) in
    record {
      some = some;
      few = few;
      lowered = rw (is_states, is_count, is_lack) at lowered;
      all = omega (arith, rw (is_states, is_count, is_lack) at all, missing, is_events, ap (λ x. m * x) loss);
    }
