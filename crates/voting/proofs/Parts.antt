-- One subsystem after another: what is left to be up.
use Rattle.std.proofs.Common.{◌≡◌, ℕ, suc, ◌+◌, ◌*◌, ◌<◌, ◌≤◌, List, [], ◌∷◌, ◌++◌, length, get_or, take, drop, refl, sym, ap, ◌∙◌, arith, add-one}
use Rattle.std.specs.Prelude.{true, false, ◌&&◌, nat_le}
use Rattle.std.proofs.lemmas.Bool.{le-leb, lt-leb}
use Rattle.std.proofs.Math.ListN.{drop_of_length-le}
use Rattle.sil_model.specs.State.{FullState, count_of, counting_of, is_up_of}
use Rattle.sil_model.specs.LoopValue.{groups_of, groups_from, groups_by_test}
use Rattle.sil_model.specs.Sizes.{channel_states}
use Rattle.sil_model.specs.Counts.{IsCounts}
use Rattle.sil_model.specs.declared.parts.Chan.TheVariants.{Work, Hidden, Deep, Repair}
use Rattle.sil_model.specs.declared.parts.InRepair.{InRepair}
use Rattle.sil_model.specs.declared.parts.InRepair.TheVariants.{Lost, Tripped}
use Rattle.sil_model.specs.declared.parts.Subsystem.{Subsystem}
use Rattle.sil_model.specs.declared.parts.Group.{Group}
use Rattle.lumped_laws.specs.CountsOf.{counts_of}
use Rattle.lumped_laws.specs.CountsOfState.{counts_of_state}
use Rattle.channel_counts.proofs.Counting.{At, channels_in, summed, drop_drop}
use Rattle.channel_counts.proofs.Subsystems.{AtSubsystem, at_start, at_here, at_next, groups_within, subsystems-here, channels-by_test}
use Rattle.voting.specs.Counting.{counting_in}

counting-lost : (s : FullState) → counting_of Lost s ≡ count_of Work s
counting-lost [] = refl
counting-lost (Work ∷ s) = omega (arith, counting-lost s)
counting-lost (Hidden ∷ s) = omega (arith, counting-lost s)
counting-lost (Deep ∷ s) = omega (arith, counting-lost s)
counting-lost (Repair ∷ s) = omega (arith, counting-lost s)

counting-tripped : (s : FullState) → counting_of Tripped s ≡ count_of Work s + count_of Repair s
counting-tripped [] = omega arith
counting-tripped (Work ∷ s) = omega (arith, counting-tripped s)
counting-tripped (Hidden ∷ s) = omega (arith, counting-tripped s)
counting-tripped (Deep ∷ s) = omega (arith, counting-tripped s)
counting-tripped (Repair ∷ s) = omega (arith, counting-tripped s)

-- the channels of some groups that count are counted by the counts
counted-groups : (r : InRepair) {gs : List Group} {g a : ℕ} (xs rest : List Group) → At gs g a (xs ++ rest) → (s : FullState)
    → counting_of r (take (channels_in xs) (drop a s)) ≡ counting_in r (counts_of gs s) g (length xs)
counted-groups Lost {a = a} xs rest p s = counting-lost (take (channels_in xs) (drop a s)) ∙ sym (summed Work xs rest p refl s)
counted-groups Tripped {a = a} xs rest p s =
    rw (summed Work xs rest p refl s, summed Repair xs rest p refl s) (counting-tripped (take (channels_in xs) (drop a s)))

-- what the loop over the subsystems has left
pub record IsLeft (us : List Subsystem) (cs : List ℕ) (i first : ℕ) : Type 0 where
  pub channel : ℕ
  pub at : AtSubsystem us i first channel
  pub up : (s : FullState) → counts_of_state us s ≡ cs → is_up_of us s ≡ is_up_of (drop i us) (drop channel s)

pub all-left : (us : List Subsystem) (cs : List ℕ) → IsLeft us cs 0 0
all-left us cs = record { channel = 0; at = at_start us; up = λ s e. refl }

module _ (us : List Subsystem) (cs : List ℕ) (i first : ℕ) (u d : Subsystem) (inside : i < length us) (is : u ≡ get_or us i d) (p : IsLeft us cs i first) where
  counted-here : (s : FullState) → counts_of_state us s ≡ cs → counting_of u.in_repair (take u.vote.n (drop p.channel s))
      ≡ counting_in u.in_repair cs first (length (groups_by_test i u.vote.n u.test))
  unfolding counts_of_state
  counted-here s e =
      let here = at_here us i first p.channel u d inside is p.at in
      rw (← e) (rw (channels-by_test i u.vote.n u.test) at (counted-groups u.in_repair (groups_by_test i u.vote.n u.test)
      (groups_from (suc i) (drop (suc i) us)) here s))

  up-here : (s : FullState) → counts_of_state us s ≡ cs
      → is_up_of us s ≡ (nat_le u.vote.m (counting_in u.in_repair cs first (length (groups_by_test i u.vote.n u.test))) && is_up_of (drop (suc i) us)
      (drop u.vote.n (drop p.channel s)))
  unfolding is_up_of
  up-here s e =
      p.up s e ∙ rw (subsystems-here us i first p.channel u d inside is p.at)
      (ap (λ n. nat_le u.vote.m n && is_up_of (drop (suc i) us) (drop u.vote.n (drop p.channel s))) (counted-here s e))

  module _ (n x : ℕ) (many : n ≡ length (groups_by_test i u.vote.n u.test)) (counting : x ≡ counting_in u.in_repair cs first n) where
    counting-groups : x ≡ counting_in u.in_repair cs first (length (groups_by_test i u.vote.n u.test))
    counting-groups = rw many at counting

    pub is-down : x < u.vote.m → (s : FullState) → counts_of_state us s ≡ cs → false ≡ is_up_of us s
    is-down h s e = sym (up-here s e ∙ rw (← counting-groups, lt-leb u.vote.m x h) refl)

    pub turn-left : u.vote.m ≤ x → IsLeft us cs (i + 1) (first + n)
    turn-left h = record {
      channel = p.channel + u.vote.n;
      at = rw many (at_next us i first p.channel u d inside is p.at);
      up = λ s e.
          let is_up : is_up_of us s ≡ is_up_of (drop (suc i) us) (drop u.vote.n (drop p.channel s)) =
          up-here s e ∙ rw (← counting-groups, le-leb u.vote.m x h) refl in
          rw (add-one i) (is_up ∙ ap (is_up_of (drop (suc i) us)) (drop_drop p.channel u.vote.n (p.channel + u.vote.n) s refl));
    }

  pub turn-within : (n : ℕ) → n ≡ length (groups_by_test i u.vote.n u.test) → IsCounts (groups_of us) cs → channel_states * (first + n) ≤ length cs
  turn-within n many v = omega (arith, v.each, many, groups_within us i first p.channel u d inside is p.at)

pub none-left : (us : List Subsystem) (cs : List ℕ) (i first : ℕ) → length us ≤ i → IsLeft us cs i first → (s : FullState) → counts_of_state us s ≡ cs
    → true ≡ is_up_of us s
unfolding is_up_of
none-left us cs i first h p s e = sym (p.up s e ∙ rw (drop_of_length-le us h) refl)
