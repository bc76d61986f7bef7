-- Which channels are neighbours in a group; their exchange leaves the loop up, or down.
use Rattle.std.proofs.Common.{◌≡◌, ◌≢◌, ℕ, suc, ◌+◌, ◌<◌, ◌⊎◌, inl, inr, List, [], ◌∷◌, take, drop, refl, arith}
use Rattle.std.specs.Prelude.{Option, Some, None}
use Rattle.sil_model.specs.State.{FullState, is_up_of}
use Rattle.sil_model.specs.declared.parts.Subsystem.{Subsystem}
use Rattle.sil_model.specs.declared.parts.TestPlan.{TestPlan}
use Rattle.count_laws.proofs.Exchange.{exchange, counting-exchange, take-exchange, drop_past, drop_within}

-- the channels of a subsystem are not tested, or tested together
abbrev pub IsTogether : Option TestPlan → Type 0
IsTogether None = Unit {0}
IsTogether (Some p) = p.stagger ≡ 0

-- the channels i and i + 1 are in one group
abbrev pub IsPair : List Subsystem → ℕ → Type 0
IsPair [] i = ⊥
IsPair (u ∷ us) i = ((suc i < u.vote.n) × IsTogether u.test) ⊎ ((j : ℕ) × (i ≡ u.vote.n + j) × IsPair us j)

pub up-exchange : (us : List Subsystem) (i : ℕ) → IsPair us i → (s : FullState) → is_up_of us (exchange i s) ≡ is_up_of us s
unfolding is_up_of
up-exchange [] i p s = refl
up-exchange (u ∷ us) i (inl h) s =
    let edge : suc i ≢ u.vote.n = λ e. absurd (omega (arith, h.0)) in
    rw (take-exchange u.vote.n i s edge, counting-exchange u.in_repair i (take u.vote.n s), drop_past u.vote.n i s h.0) refl
up-exchange (u ∷ us) i (inr h) s =
    let edge : suc i ≢ u.vote.n = λ e. absurd (omega (arith, h.1)) in
    rw (
      take-exchange u.vote.n i s edge,
      counting-exchange u.in_repair i (take u.vote.n s),
      drop_within u.vote.n h.0 i s h.1,
      up-exchange us h.0 h.2 (drop u.vote.n s),
    ) refl
