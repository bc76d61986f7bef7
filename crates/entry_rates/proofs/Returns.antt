-- A channel in repair that goes back to work, by the counts.
use Rattle.std.proofs.Common.{◌≡◌, ℕ, zero, suc, ◌+◌, ◌<◌, List, [], ◌∷◌, length, refl, sym, ◌∙◌, arith}
use Rattle.std.specs.Prelude.{Bool, true, false, cond}
use Rattle.sil_fraction.specs.Fraction.{whole}
use Rattle.sil_fraction.specs.Sum.{total_below}
use Rattle.sil_fraction.proofs.Laws.{le_of_same, le-whole}
use Rattle.sil_fraction.proofs.Sums.{add-zero, mul-one}
use Rattle.sil_model.specs.State.{FullState}
use Rattle.sil_model.specs.Events.{move_one}
use Rattle.sil_model.specs.Events.Kind.{Returns}
use Rattle.sil_model.specs.LoopValue.{groups_of}
use Rattle.sil_model.specs.Counts.{count_in, moved_in}
use Rattle.sil_model.specs.declared.parts.Chan.TheVariants.{Work, Repair}
use Rattle.sil_model.specs.declared.parts.Group.{Group}
use Rattle.sil_model.specs.declared.parts.Subsystem.{Subsystem}
use Rattle.channel_counts.proofs.Channels.{standing}
use Rattle.channel_counts.proofs.Counting.{At, group_total, one_counted}
use Rattle.channel_counts.proofs.Counting.At.{here, there}
use Rattle.lumped_laws.specs.CountsOfState.{counts_of_state}

-- a group of a number, among the groups
pub record IsPlaced (gs : List Group) (g : ℕ) : Type 0 where
  pub first : ℕ
  pub group : Group
  pub rest : List Group
  pub at : At gs g first (group ∷ rest)

placed : (gs : List Group) (g : ℕ) → g < length gs → IsPlaced gs g
placed [] g h = absurd (omega arith)
placed (x ∷ gs) zero h = record { first = 0; group = x; rest = gs; at = here }
placed (x ∷ gs) (suc g) h =
    let p : IsPlaced gs g = placed gs g (omega arith) in
    record { first = x.size + p.first; group = p.group; rest = p.rest; at = there p.at refl }

-- where a sum of ones is some, one of its terms is
some_stands : (n c : ℕ) (q : ℕ → Bool) → 0 < c → total_below n (λ j. cond (q j) (whole 1) (whole 0)) ≡ whole c → (j : ℕ) × ((j < n) × (q j ≡ true))
some_stands zero c q h e = absurd (omega (arith, le-whole c 0 (le_of_same _ _ (sym e))))
some_stands (suc n) c q h e = go (q n) refl (λ less. some_stands n c q h less)
  where
    go : (b : Bool) → q n ≡ b → (total_below n (λ j. cond (q j) (whole 1) (whole 0)) ≡ whole c → (j : ℕ) × ((j < n) × (q j ≡ true)))
        → (j : ℕ) × ((j < suc n) × (q j ≡ true))
    go true d earlier = (n, (omega arith, d))
    go false d earlier =
        let found = earlier (sym (add-zero _) ∙ rw d at e) in
        (found.0, (omega (arith, found.1.0), found.1.1))

-- a channel of a group that is in repair goes back to work
pub record IsRepaired (us : List Subsystem) (s : FullState) (g : ℕ) : Type 0 where
  pub channel : ℕ
  pub counts : counts_of_state us (move_one channel Repair Work s) ≡ moved_in (counts_of_state us s) g Repair Work 1

pub repaired : (us : List Subsystem) (s : FullState) (g : ℕ) → g < length (groups_of us) → 0 < count_in (counts_of_state us s) g Repair → IsRepaired us s g
unfolding counts_of_state
repaired us s g h some =
    let p : IsPlaced (groups_of us) g = placed (groups_of us) g h in
    let found : (j : ℕ) × ((j < p.group.size) × (standing (p.first + j) Repair s ≡ true)) =
    some_stands p.group.size (count_in (counts_of_state us s) g Repair) (λ j. standing (p.first + j) Repair s) some
    (group_total Repair (whole 1) p.at s ∙ mul-one _) in
    record {
      channel = p.first + found.0;
      counts = one_counted p.at found.0 (p.first + found.0) found.1.0 refl Returns s found.1.1;
    }
