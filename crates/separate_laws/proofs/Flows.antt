-- The flow from a full state in two parts: that of the first subsystem in the first part, and that of the others in the second.
use Rattle.std.proofs.Common.{◌≡◌, ℕ, zero, suc, ◌+◌, ◌<◌, ◌≤◌, List, [], ◌∷◌, ◌++◌, length, map, refl, ap, ◌∙◌, arith}
use Rattle.sil_fraction.specs.Fraction.{Fraction, ◌+ℚ◌, ◌*ℚ◌, ◌≤ℚ◌, ratio}
use Rattle.sil_fraction.specs.Sum.{total}
use Rattle.sil_fraction.proofs.Sums.{total-append, add-zero, le-add_right}
use Rattle.sil_model.specs.State.{FullState}
use Rattle.sil_model.specs.Events.{Event, Failure, Kind, failed, kinds, failures, source, target, move_one, move_all, share_of, common_rate, rate_at}
use Rattle.sil_model.specs.Events.{channel_events, channels_events, common_events, events_from, events_of, through, flow_of}
use Rattle.sil_model.specs.Events.Kind.{Fails, Returns}
use Rattle.sil_model.specs.Series.{Values}
use Rattle.sil_model.specs.declared.parts.Subsystem.{Subsystem}
use Rattle.count_laws.proofs.Exchange.{length-one}
use Rattle.separate_laws.proofs.Parts.{same_front, same_behind, one_front, one_behind}
use Rattle.separate_laws.proofs.Parts.{all_front, all_behind, repair_front, repair_behind, length-first}

-- an event of one channel, and a common cause
module _ (u : Subsystem) (a : ℕ) where
  abbrev event : ℕ → Kind → Event
  event i k = record { rate = rate_at u a k; move = move_one i (source k) (target k) }

  abbrev common_event : Failure → Event
  common_event f = record { rate = λ s. common_rate u f; move = move_all a u.vote.n (failed f) }

-- sums over a mapped list, term by term
total_both : {A : Type 0} (f g : Event → Fraction) (d e : A → Event)
    → ((x : A) → f (d x) ≡ g (e x)) → (xs : List A) → total f (map d xs) ≡ total g (map e xs)
total_both f g d e same [] = refl
total_both f g d e same (x ∷ xs) = ap (λ z. z +ℚ total f (map d xs)) (same x) ∙ ap (λ z. g (e x) +ℚ z) (total_both f g d e same xs)

module _ (F : Values FullState) (s t : FullState) where
  -- what is seen of the first part, and of the second
  abbrev of_front : Values FullState
  of_front x = F (x ++ t)

  abbrev of_behind : Values FullState
  of_behind y = F (s ++ y)

  front : (e : Event) → e.rate (s ++ t) ≡ e.rate s → e.move (s ++ t) ≡ e.move s ++ t → length (e.move s) ≡ length s
      → through F (s ++ t) e ≡ through of_front s e
  front e r m k = rw (m, r, same_front (e.move s) s t k) refl

  behind : (e d : Event) → e.rate (s ++ t) ≡ d.rate t → e.move (s ++ t) ≡ s ++ d.move t → through F (s ++ t) e ≡ through of_behind t d
  behind e d r m = rw (m, r, same_behind s (d.move t) t) refl

  -- the events of the subsystem of the first part
  module _ (u : Subsystem) (long : u.vote.n ≡ length s) where
    rate_front : (k : Kind) → rate_at u 0 k (s ++ t) ≡ rate_at u 0 k s
    rate_front (Fails f) = refl
    rate_front Returns = ap (λ n. share_of u n *ℚ ratio 1 u.figures.repair) (repair_front u.vote.n s t long)

    channel_front : (i : ℕ) → i < length s → total (through F (s ++ t)) (channel_events u 0 i) ≡ total (through of_front s) (channel_events u 0 i)
    channel_front i h =
        total_both (through F (s ++ t)) (through of_front s) (event u 0 i) (event u 0 i)
        (λ k. front (event u 0 i k) (rate_front k) (one_front (source k) (target k) i s t h) (length-one (source k) (target k) i s))
        kinds

    channels_front : (n : ℕ) → n ≤ length s → total (through F (s ++ t)) (channels_events u 0 n) ≡ total (through of_front s) (channels_events u 0 n)
    channels_front zero h = refl
    channels_front (suc n) h = cc (
      total-append (through F (s ++ t)) (channels_events u 0 n) (channel_events u 0 (0 + n)),
      total-append (through of_front s) (channels_events u 0 n) (channel_events u 0 (0 + n)),
      channels_front n (omega arith),
      channel_front (0 + n) (omega arith),
    )

    common_front : total (through F (s ++ t)) (common_events u 0) ≡ total (through of_front s) (common_events u 0)
    common_front =
        total_both (through F (s ++ t)) (through of_front s) (common_event u 0) (common_event u 0)
        (λ f. front (common_event u 0 f) refl (all_front (failed f) u.vote.n s t long) (length-first (failed f) u.vote.n s))
        failures

  -- those of a subsystem of the second part
  module _ (v : Subsystem) (a b : ℕ) (e : b ≡ length s + a) where
    rate_behind : (k : Kind) → rate_at v b k (s ++ t) ≡ rate_at v a k t
    rate_behind (Fails f) = refl
    rate_behind Returns = ap (λ n. share_of v n *ℚ ratio 1 v.figures.repair) (repair_behind a b v.vote.n s t e)

    channel_behind : (i j : ℕ) → j ≡ length s + i → total (through F (s ++ t)) (channel_events v b j) ≡ total (through of_behind t) (channel_events v a i)
    channel_behind i j g =
        total_both (through F (s ++ t)) (through of_behind t) (event v b j) (event v a i)
        (λ k. behind (event v b j k) (event v a i k) (rate_behind k) (one_behind (source k) (target k) i j s t g))
        kinds

    channels_behind : (n : ℕ) → total (through F (s ++ t)) (channels_events v b n) ≡ total (through of_behind t) (channels_events v a n)
    channels_behind zero = refl
    channels_behind (suc n) = cc (
      total-append (through F (s ++ t)) (channels_events v b n) (channel_events v b (b + n)),
      total-append (through of_behind t) (channels_events v a n) (channel_events v a (a + n)),
      channels_behind n,
      channel_behind (a + n) (b + n) (omega arith),
    )

    common_behind : total (through F (s ++ t)) (common_events v b) ≡ total (through of_behind t) (common_events v a)
    common_behind =
        total_both (through F (s ++ t)) (through of_behind t) (common_event v b) (common_event v a)
        (λ f. behind (common_event v b f) (common_event v a f) refl (all_behind (failed f) a b v.vote.n s t e))
        failures

  -- those of all subsystems of the second part
  all_behind_first : (us : List Subsystem) (a b : ℕ) → b ≡ length s + a
      → total (through F (s ++ t)) (events_from b us) ≡ total (through of_behind t) (events_from a us)
  unfolding events_from
  all_behind_first [] a b e = refl
  all_behind_first (v ∷ us) a b e = cc (
    total-append (through F (s ++ t)) (channels_events v b v.vote.n ++ common_events v b) (events_from (b + v.vote.n) us),
    total-append (through F (s ++ t)) (channels_events v b v.vote.n) (common_events v b),
    total-append (through of_behind t) (channels_events v a v.vote.n ++ common_events v a) (events_from (a + v.vote.n) us),
    total-append (through of_behind t) (channels_events v a v.vote.n) (common_events v a),
    channels_behind v a b e v.vote.n,
    common_behind v a b e,
    all_behind_first us (a + v.vote.n) (b + v.vote.n) (omega arith),
  )

  pub flow-parts : (u : Subsystem) (us : List Subsystem) → u.vote.n ≡ length s
      → flow_of (events_of (u ∷ us)) F (s ++ t) ≡ flow_of (events_of (u ∷ [])) (λ x. F (x ++ t)) s +ℚ flow_of (events_of us) (λ y. F (s ++ y)) t
  unfolding flow_of events_of events_from
  flow-parts u us long = cc (
    total-append (through F (s ++ t)) (channels_events u 0 u.vote.n ++ common_events u 0) (events_from (0 + u.vote.n) us),
    total-append (through F (s ++ t)) (channels_events u 0 u.vote.n) (common_events u 0),
    total-append (through of_front s) (channels_events u 0 u.vote.n ++ common_events u 0) [],
    total-append (through of_front s) (channels_events u 0 u.vote.n) (common_events u 0),
    add-zero (total (through of_front s) (channels_events u 0 u.vote.n) +ℚ total (through of_front s) (common_events u 0)),
    channels_front u long u.vote.n (omega arith),
    common_front u long,
    all_behind_first us 0 (0 + u.vote.n) (omega arith),
  )

-- the events of the first subsystem are events of the loop
pub flow-own-le : (u : Subsystem) (us : List Subsystem) (F : Values FullState) (s : FullState)
    → flow_of (events_of (u ∷ [])) F s ≤ℚ flow_of (events_of (u ∷ us)) F s
unfolding flow_of events_of events_from
flow-own-le u us F s =
    let own : List Event = channels_events u 0 u.vote.n ++ common_events u 0 in
    rw (
      total-append (through F s) own [],
      total-append (through F s) own (events_from (0 + u.vote.n) us),
      add-zero (total (through F s) own),
    ) (le-add_right (total (through F s) own) (total (through F s) (events_from (0 + u.vote.n) us)))
