-- A repair never takes an up loop down.
use Rattle.std.proofs.Common.{◌≡◌, ℕ, zero, suc, ◌+◌, ◌-◌, ◌≤◌, inl, inr, List, [], ◌∷◌, take, drop, refl, arith}
use Rattle.std.specs.Prelude.{Bool, true, false, ◌&&◌, nat_le}
use Rattle.std.proofs.lemmas.Bool.{leb-true, le-leb, cases_lt}
use Rattle.sil_model.specs.State.{FullState, counting_of, is_up_of}
use Rattle.sil_model.specs.Events.{move_one}
use Rattle.sil_model.specs.declared.parts.Chan.TheVariants.{Work, Hidden, Deep, Repair}
use Rattle.sil_model.specs.declared.parts.InRepair.{InRepair}
use Rattle.sil_model.specs.declared.parts.InRepair.TheVariants.{Lost, Tripped}
use Rattle.sil_model.specs.declared.parts.Subsystem.{Subsystem}
use Rattle.channel_counts.proofs.Channels.{take_moved, drop_before, take_after, drop_after}

-- no fewer channels count after a repair
counting_repaired : (r : InRepair) (i : ℕ) (s : FullState) → counting_of r s ≤ counting_of r (move_one i Repair Work s)
counting_repaired r i [] = omega arith
counting_repaired Lost zero (Work ∷ s) = omega arith
counting_repaired Lost zero (Hidden ∷ s) = omega arith
counting_repaired Lost zero (Deep ∷ s) = omega arith
counting_repaired Lost zero (Repair ∷ s) = omega arith
counting_repaired Tripped zero (Work ∷ s) = omega arith
counting_repaired Tripped zero (Hidden ∷ s) = omega arith
counting_repaired Tripped zero (Deep ∷ s) = omega arith
counting_repaired Tripped zero (Repair ∷ s) = omega arith
counting_repaired r (suc i) (c ∷ s) = omega (arith, counting_repaired r i s)

-- two tests that hold together
both_hold : (a b : Bool) → (a && b) ≡ true → (a ≡ true) × (b ≡ true)
both_hold true b h = (refl, h)
both_hold false b h = cc

hold_both : (a b : Bool) → a ≡ true → b ≡ true → (a && b) ≡ true
hold_both a b h k = rw (h, k) refl

pub up_repaired : (us : List Subsystem) (i : ℕ) (s : FullState) → is_up_of us s ≡ true → is_up_of us (move_one i Repair Work s) ≡ true
unfolding is_up_of
up_repaired [] i s up = refl
up_repaired (u ∷ us) i s up =
    let n : ℕ = u.vote.n in
    let m : ℕ = u.vote.m in
    let r : InRepair = u.in_repair in
    let parts = both_hold (nat_le m (counting_of r (take n s))) (is_up_of us (drop n s)) up in
    let enough : m ≤ counting_of r (take n s) = leb-true _ _ parts.0 in
    elim (cases_lt i n) [
      | inl h ↦
          let more : m ≤ counting_of r (move_one i Repair Work (take n s)) = omega (arith, enough, counting_repaired r i (take n s)) in
          rw (take_moved Repair Work n i s, drop_before Repair Work n i s h) (hold_both _ _ (le-leb _ _ more) parts.1)
      | inr h ↦
          let e : i ≡ n + (i - n) = omega arith in
          rw (take_after Repair Work n (i - n) i s e, drop_after Repair Work n (i - n) i s e) (hold_both _ _ parts.0 (up_repaired us (i - n) (drop n s) parts.1))
    ]
