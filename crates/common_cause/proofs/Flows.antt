-- The flow of a function of the counts, by the events between count vectors.
use Rattle.std.proofs.Common.{◌≡◌, ℕ, zero, suc, ◌+◌, ◌^◌, ◌<◌, List, [], ◌∷◌, ◌++◌, length, refl, sym, ap, ◌∙◌, arith}
use Rattle.std.proofs.Math.Nat.{add_assoc as nat-add_assoc}
use Rattle.std.specs.Prelude.{Bool, true, false, not, cond, nat_lt}
use mathlib.Core.Path.{fun_ext}
use Rattle.sil_fraction.specs.Fraction.{Fraction, ◌+ℚ◌, ◌*ℚ◌, whole, ratio}
use Rattle.sil_fraction.specs.Sum.{total, total_below}
use Rattle.sil_fraction.proofs.Laws.{zero-mul, one-mul, mul_assoc}
use Rattle.sil_fraction.proofs.Sums.{total-append, total-map, total-below-swap, below-same, below-append}
use Rattle.sil_model.specs.State.{FullState, is_same_chan}
use Rattle.sil_model.specs.Events.{Failure, Kind, kinds, failures, failed, source, target, move_one, move_all, share_of, in_repair_of, rate_at as kind_rate_at, common_rate, channel_events, channels_events, common_events, events_from, events_of, through, flow_of}
use Rattle.sil_model.specs.Events.Failure.{Undetected, Uncovered, Detected}
use Rattle.sil_model.specs.Events.Kind.{Fails as FailsBy, Returns}
use Rattle.sil_model.specs.LoopValue.{groups_of, groups_from, groups_by_test}
use Rattle.sil_model.specs.Counts.{count_in, moved_in}
use Rattle.sil_model.specs.declared.parts.Chan.TheVariants.{Work}
use Rattle.sil_model.specs.declared.parts.Group.{Group}
use Rattle.sil_model.specs.declared.parts.Subsystem.{Subsystem}
use Rattle.count_laws.specs.CountsOf.{counts_of}
use Rattle.lumped_laws.specs.CountsOfState.{counts_of_state}
use Rattle.channel_counts.specs.GroupSums.{sum_in, moved_together}
use Rattle.channel_counts.proofs.Channels.{standing, leaves}
use Rattle.channel_counts.proofs.Counting.{At, next, advance, channels_in, one_counted, group_total, all_counted, all_leaves, summed}
use Rattle.channel_counts.proofs.Counting.At.{here}
use Rattle.channel_counts.proofs.Subsystems.{channels-by_test, span-same}
use Rattle.common_cause.specs.declared.event.LumpEvent.{LumpEvent}
use Rattle.common_cause.specs.LumpEvents.{span_of, group_events, groups_events, whole_events, lump_events_from, lump_events_of, kind_rate, common_units}
use Rattle.common_cause.specs.LumpedRates.{spans, shares_from, times_of, counts_after, value_of}
use Rattle.common_cause.proofs.Units.{failure_in_units, common_in_units}

-- the rates of the events, each times F of the counts after it
module _ (shares : ℕ → Fraction) (span : ℕ → ℕ) where
  abbrev pub rate_by : List ℕ → LumpEvent → Fraction
  rate_by cs e = whole (times_of span cs e) *ℚ value_of (shares e.subsystem) e.rate

  unfoldable pub lumped_flow : List LumpEvent → (List ℕ → Fraction) → List ℕ → Fraction
  lumped_flow es F cs = total (λ e. rate_by cs e *ℚ F (counts_after span cs e)) es

apart : (k : Kind) → is_same_chan (source k) (target k) ≡ false
apart (FailsBy Undetected) = refl
apart (FailsBy Uncovered) = refl
apart (FailsBy Detected) = refl
apart Returns = refl

apart_failed : (f : Failure) → is_same_chan Work (failed f) ≡ false
apart_failed Undetected = refl
apart_failed Uncovered = refl
apart_failed Detected = refl

module _ (gs : List Group) (F : List ℕ → Fraction) (s : FullState) where
  abbrev cs : List ℕ
  cs = counts_of gs s

  one_through : {rest : List Group} {x : Group} {g a : ℕ} → At gs g a (x ∷ rest) → (j : ℕ) → j < x.size → (k : Kind) (rate : FullState → Fraction)
      → through (λ t. F (counts_of gs t)) s (record { rate = rate; move = move_one (a + j) (source k) (target k) })
      ≡ cond (standing (a + j) (source k) s) (rate s *ℚ F (moved_in cs g (source k) (target k) 1)) (whole 0)
  one_through {g = g} {a = a} p j h k rate = rw (leaves (a + j) (source k) (target k) s (apart k)) (go (standing (a + j) (source k) s) refl)
    where
      go : (b : Bool) → standing (a + j) (source k) s ≡ b
          → cond (not b) (whole 0) (rate s *ℚ F (counts_of gs (move_one (a + j) (source k) (target k) s)))
          ≡ cond b (rate s *ℚ F (moved_in cs g (source k) (target k) 1)) (whole 0)
      go true e = ap (λ c. rate s *ℚ F c) (one_counted p j (a + j) h refl k s e)
      go false e = refl

  module _ (u : Subsystem) (first : ℕ) (shares : ℕ → Fraction) (span : ℕ → ℕ) (i : ℕ) (fair : shares i ≡ share_of u (in_repair_of first u.vote.n s)) where
    rate_same : (k : Kind) → kind_rate_at u first k s ≡ value_of (shares i) (kind_rate u k)
    rate_same (FailsBy f) = failure_in_units u f
    rate_same Returns = rw fair refl

    one_term : {rest : List Group} {x : Group} {g a : ℕ} → At gs g a (x ∷ rest) → (k : Kind)
        → total_below x.size (λ j. through (λ t. F (counts_of gs t)) s (record {
          rate = kind_rate_at u first k;
          move =
              move_one (a + j) (source k) (target k);
        }))
        ≡ (whole (count_in cs g (source k)) *ℚ value_of (shares i) (kind_rate u k)) *ℚ F (moved_in cs g (source k) (target k) 1)
    one_term {x = x} {g = g} p k =
        below-same x.size _ _ (λ j h. one_through p j h k (kind_rate_at u first k))
        ∙ group_total (source k) (kind_rate_at u first k s *ℚ F (moved_in cs g (source k) (target k) 1)) p s
        ∙ sym (mul_assoc _ _ _)
        ∙ ap (λ r. (whole (count_in cs g (source k)) *ℚ r) *ℚ F (moved_in cs g (source k) (target k) 1)) (rate_same k)

    group_flow : {rest : List Group} {x : Group} {g a : ℕ} → At gs g a (x ∷ rest)
        → total_below x.size (λ j. total (through (λ t. F (counts_of gs t)) s) (channel_events u first (a + j)))
        ≡ lumped_flow shares span (group_events u i g) F cs
    unfolding lumped_flow
    group_flow {x = x} {a = a} p =
        below-same x.size _ _ (λ j h. total-map (through (λ t. F (counts_of gs t)) s) (λ k. record {
          rate = kind_rate_at u first k;
          move =
              move_one (a + j) (source k) (target k);
        }) kinds)
        ∙ sym (total-below-swap x.size (λ k j. through (λ t. F (counts_of gs t)) s (record {
          rate = kind_rate_at u first k;
          move =
              move_one (a + j) (source k) (target k);
        })) kinds)
        ∙ ap (λ (t : Kind → Fraction). total t kinds) (fun_ext (λ k. one_term p k))

    groups_flow : (xs rest : List Group) {g a : ℕ} → At gs g a (xs ++ rest)
        → total_below (channels_in xs) (λ j. total (through (λ t. F (counts_of gs t)) s) (channel_events u first (a + j)))
        ≡ lumped_flow shares span (groups_events u i g (length xs)) F cs
    unfolding lumped_flow
    groups_flow [] rest p = refl
    groups_flow (x ∷ xs) rest {g = g} {a = a} p =
        below-append x.size (channels_in xs) (λ j. total (through (λ t. F (counts_of gs t)) s) (channel_events u first (a + j)))
        ∙ cc (
          group_flow p,
          below-same (channels_in xs) _ _ (λ j h. ap (λ b. total (through (λ t. F (counts_of gs t)) s) (channel_events u first b))
              (sym (nat-add_assoc a x.size j))) ∙ groups_flow xs rest (next p refl),
          total-append (λ e. rate_by shares span cs e *ℚ F (counts_after span cs e)) (group_events u i g) (groups_events u i (suc g) (length xs)),
        )

    channels_total : (f : FullState → Fraction) (n : ℕ) → total (through f s) (channels_events u first n)
        ≡ total_below n (λ j. total (through f s) (channel_events u first (first + j)))
    channels_total f zero = refl
    channels_total f (suc n) = total-append (through f s) (channels_events u first n) (channel_events u first (first + n))
        ∙ ap (λ t. t +ℚ total (through f s) (channel_events u first (first + n))) (channels_total f n)

    one_whole : (xs rest : List Group) {g a : ℕ} → At gs g a (xs ++ rest) → span i ≡ length xs → (m : ℕ) → channels_in xs ≡ m → (f : Failure)
        → through (λ t. F (counts_of gs t)) s (record { rate = λ t. common_rate u f; move = move_all a m (failed f) })
        ≡ (whole (cond (nat_lt 0 (sum_in cs g (span i) Work)) 1 0) *ℚ ratio (common_units u f) (10 ^ 18)) *ℚ F (moved_together g (span i) (failed f) cs)
    one_whole xs rest {g = g} {a = a} p e m q f =
        let moves : counts_of gs (move_all a (channels_in xs) (failed f) s) ≡ moved_together g (length xs) (failed f) cs = all_counted f rest xs p refl s in
        rw (← q, e, all_leaves (failed f) (apart_failed f) a (channels_in xs) s, ← summed Work xs rest p refl s, moves, ← common_in_units u f)
        (go (nat_lt 0 (sum_in cs g (length xs) Work)) (common_rate u f) (F (moved_together g (length xs) (failed f) cs)))
      where
        go : (b : Bool) (r x : Fraction) → cond (not b) (whole 0) (r *ℚ x) ≡ (whole (cond b 1 0) *ℚ r) *ℚ x
        go true r x = rw (one-mul r) refl
        go false r x = rw (zero-mul r, zero-mul x) refl

    whole_flow : (xs rest : List Group) {g a : ℕ} → At gs g a (xs ++ rest) → span i ≡ length xs → channels_in xs ≡ u.vote.n
        → total (through (λ t. F (counts_of gs t)) s) (common_events u a) ≡ lumped_flow shares span (whole_events u i g) F cs
    unfolding lumped_flow
    whole_flow xs rest p e q = ap (λ (t : Failure → Fraction). total t failures) (fun_ext (one_whole xs rest p e u.vote.n q))

module _ (gs : List Group) (F : List ℕ → Fraction) (s : FullState) (shares : ℕ → Fraction) (span : ℕ → ℕ) where
  loop_flow : (us : List Subsystem) (i g a : ℕ) → At gs g a (groups_from i us)
      → ((k : ℕ) → shares (i + k) ≡ shares_from a us s k) → ((k : ℕ) → span (i + k) ≡ spans us k)
      → flow_of (events_from a us) (λ t. F (counts_of gs t)) s ≡ lumped_flow shares span (lump_events_from i g us) F (counts_of gs s)
  unfolding flow_of events_from lump_events_from lumped_flow
  loop_flow [] i g a p fair wide = refl
  loop_flow (u ∷ us) i g a p fair wide =
      let f : FullState → Fraction = λ t. F (counts_of gs t) in
      let term : LumpEvent → Fraction = λ e. rate_by shares span (counts_of gs s) e *ℚ F (counts_after span (counts_of gs s) e) in
      let z : i + 0 ≡ i = omega arith in
      let xs : List Group = groups_by_test i u.vote.n u.test in
      let rest : List Group = groups_from (suc i) us in
      let many : length xs ≡ span_of u = span-same i 0 u.vote.n u.test in
      let fair_here : shares i ≡ share_of u (in_repair_of a u.vote.n s) = rw z at (fair 0) in
      let wide_here : span i ≡ length xs = (rw z at (wide 0)) ∙ sym many in
      let size : channels_in xs ≡ u.vote.n = channels-by_test i u.vote.n u.test in
      let later : At gs (g + span_of u) (a + u.vote.n) rest = rw many at (rw size at (advance xs rest p)) in
      let after : (k : ℕ) → suc i + k ≡ i + suc k = λ k. omega arith in
      let groups : total_below u.vote.n (λ j. total (through f s) (channel_events u a (a + j)))
      ≡ lumped_flow shares span (groups_events u i g (span_of u)) F (counts_of gs s) =
      rw many at (rw size at (groups_flow gs F s u a shares span i fair_here xs rest p)) in
      total-append (through f s) (channels_events u a u.vote.n ++ common_events u a) (events_from (a + u.vote.n) us)
      ∙ cc (
        total-append (through f s) (channels_events u a u.vote.n) (common_events u a),
        channels_total gs F s u a shares span i fair_here f u.vote.n,
        groups,
        whole_flow gs F s u a shares span i fair_here xs rest p wide_here size,
        loop_flow us (suc i) (g + span_of u) (a + u.vote.n) later (λ k. ap shares (after k) ∙ fair (suc k)) (λ k. ap span (after k) ∙ wide (suc k)),
        total-append term (groups_events u i g (span_of u)) (whole_events u i g),
        total-append term (groups_events u i g (span_of u) ++ whole_events u i g) (lump_events_from (suc i) (g + span_of u) us),
      )

-- the flow of a function of the counts is a function of the counts
pub flow_of_counts : (us : List Subsystem) (F : List ℕ → Fraction) (s : FullState)
    → flow_of (events_of us) (λ t. F (counts_of_state us t)) s ≡ lumped_flow (shares_from 0 us s) (spans us) (lump_events_of us) F (counts_of_state us s)
unfolding events_of lump_events_of groups_of counts_of_state
flow_of_counts us F s = loop_flow (groups_from 0 us) F s (shares_from 0 us s) (spans us) us 0 0 0 here (λ k. let e : 0 + k ≡ k = omega arith in
    rw e refl) (λ k. let e : 0 + k ≡ k = omega arith in rw e refl)
