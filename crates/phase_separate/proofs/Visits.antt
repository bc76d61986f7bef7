-- The sum of the vectors at the start of each beat: from the first one on, and with those of more beats.
use Rattle.std.proofs.Common.{◌≡◌, ℕ, ◌+◌, ◌*◌, ◌^◌, ◌≤◌, List, sum, refl, sym, ap, ◌∙◌, arith}
use Rattle.std.proofs.Math.Nat.{mul-le-mul_left}
use mathlib.Core.Path.{fun_ext}
use Rattle.sil_fraction.specs.Fraction.{◌+ℚ◌, ◌≤ℚ◌}
use Rattle.sil_fraction.specs.Sum.{total_below}
use Rattle.sil_fraction.proofs.Laws.{zero-add, le_of_same, le_trans}
use Rattle.sil_fraction.proofs.Sums.{below-append, add-le-add}
use Rattle.sil_model.specs.Series.{Values}
use Rattle.sil_model.specs.Sizes.{states_of}
use Rattle.vector_laws.specs.Laws.{IsSumWith}
use Rattle.vector_laws.specs.Vectors.{weigh, IsMass}
use Rattle.vector_laws.proofs.Masses.{sum-with}
use Rattle.vector_laws.proofs.Weighing.{weigh-add, weigh-sum}
use Rattle.lumped_laws.specs.ValueLists.{tick_list}
use Rattle.product_chain.specs.Kept.{ChainValue}
use Rattle.uniformise.specs.Beat.{hours_of_beat}
use Rattle.separate_laws.specs.Separate.{separate_beats}
use Rattle.separate_laws.specs.Laws.{SeparateLaw}
use Rattle.phase_separate.specs.Passes.{PassesAlong, IsVisited, along_loss}
use Rattle.phase_separate.specs.Subsystems.{steps_at, matrix_loss}

module _ (c : ChainValue) (law : SeparateLaw (states_of c.of.subsystems) (tick_list c.of.subsystems (hours_of_beat c)) (steps_at c))
    (start : List ℕ) where
  -- the values after so many beats
  abbrev after : ℕ → ℕ → Values ℕ → Values ℕ
  after N j f = separate_beats (steps_at c) N j f

  -- those at the start of each of n beats, together
  abbrev visits : ℕ → ℕ → Values ℕ → Values ℕ
  visits N n f i = total_below n (λ j. after N j f i)

  -- at the start of the first beat
  pub first_visited : IsVisited c 1 start start
  first_visited = record {
    size = refl;
    weighed = λ N h f. le_of_same _ _ (ap (weigh start) (sym (fun_ext (λ i. zero-add _ ∙ ap (λ (g : Values ℕ). g i) (law.none N f)))));
    kept = omega arith;
    lack = omega arith;
  }

  -- and of as many more, which start n beats later
  module _ (n m : ℕ) (visited more later new : List ℕ) (mass : IsMass start) (before : IsVisited c n start visited) (begun : IsVisited c m start more)
      (passed : PassesAlong c n more later) (added : IsSumWith 1 visited later new) where
    together : (N : ℕ) (f : Values ℕ) (i : ℕ) → visits N n f i +ℚ visits N m (after N n f) i ≡ visits N (n + m) f i
    together N f i =
        let turned : (j : ℕ) → j + n ≡ n + j = λ j. omega arith in
        let each : (j : ℕ) → after N j (after N n f) i ≡ after N (n + j) f i =
        λ j. ap (λ (g : Values ℕ). g i) (sym (law.passes N j n f)) ∙ ap (λ k. after N k f i) (turned j) in
        ap (λ s. visits N n f i +ℚ s) (ap (total_below m) (fun_ext each)) ∙ sym (below-append n m (λ j. after N j f i))

    both_weighed : (N : ℕ) → 16 ≤ N → (f : Values ℕ) → weigh new f ≤ℚ weigh start (visits N (n + m) f)
    both_weighed N h f =
        let second : weigh later f ≤ℚ weigh start (visits N m (after N n f)) =
        le_trans _ _ _ (passed.weighed N h f) (begun.weighed N h (after N n f)) in
        le_trans _ _ _ (le_of_same _ _ (weigh-sum visited later new added f))
        (le_trans _ _ _ (add-le-add _ _ _ _ (before.weighed N h f) second)
        (le_of_same _ _ (sym (weigh-add start (visits N n f) (visits N m (after N n f))) ∙ ap (weigh start) (fun_ext (together N f)))))

    all_new : sum new ≡ sum visited + sum later
    all_new = omega (arith, sum-with 1 visited later new added)

    lacks : (n + m) * sum start + along_loss c ≤ sum new + (n + m) * (n + m) * matrix_loss c.of.subsystems + (n + m) * along_loss c
    lacks =
        let few : m * sum start ≤ m * 2 ^ 48 = mul-le-mul_left m mass in
        omega (arith, all_new, before.lack, begun.lack, passed.lack m (omega (arith, begun.kept, few)))

    pub visited_more : IsVisited c (n + m) start new
    visited_more = record {
      size = added.more_length ∙ passed.size ∙ begun.size;
      weighed = both_weighed;
      kept = omega (arith, all_new, before.kept, begun.kept, passed.kept);
      lack = lacks;
    }
