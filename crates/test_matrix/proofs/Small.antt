-- No group is large, and so are the counts of its channels.
use Rattle.std.proofs.Common.{◌≡◌, ◌≢◌, ℕ, ◌+◌, ◌-◌, ◌*◌, ◌^◌, ◌<◌, ◌≤◌, List, length, refl, arith, get_or-set_other, length-set}
use Rattle.std.specs.Prelude.{All}
use Rattle.std.proofs.lemmas.List.Elements.{All-get_or}
use Rattle.sil_model.specs.Sizes.{channel_states}
use Rattle.sil_model.specs.Counts.{IsCounts, count_in, place_of, with_count, moved_in}
use Rattle.sil_model.specs.declared.parts.Chan.{Chan}
use Rattle.sil_model.specs.declared.parts.Chan.TheVariants.{Work, Hidden, Deep, Repair}
use Rattle.sil_model.specs.declared.parts.Group.{Group}
use Rattle.lumping.proofs.Moves.{count_in-with_count}

abbrev IsFew : Group → Type 0
IsFew x = x.size ≤ 8

abbrev no_group : Group
no_group = record { subsystem = 0; first_channel = 0; size = 0 }

-- no state has more channels than the group
pub count-few : (gs : List Group) (cs : List ℕ) (g : ℕ) → IsCounts gs cs → g < length gs → All IsFew gs → (k : Chan) → count_in cs g k ≤ 8
count-few gs cs g v h few Work = omega (arith, v.sums g no_group h, All-get_or IsFew gs g no_group h few)
count-few gs cs g v h few Hidden = omega (arith, v.sums g no_group h, All-get_or IsFew gs g no_group h few)
count-few gs cs g v h few Deep = omega (arith, v.sums g no_group h, All-get_or IsFew gs g no_group h few)
count-few gs cs g v h few Repair = omega (arith, v.sums g no_group h, All-get_or IsFew gs g no_group h few)

-- the count of another state of the group
other : (cs : List ℕ) (g : ℕ) (k j : Chan) (v : ℕ) → place_of j ≢ place_of k → count_in (with_count cs g k v) g j ≡ count_in cs g j
other cs g k j v ne =
    let apart : channel_states * g + place_of j ≢ channel_states * g + place_of k = λ e. ne (omega (arith, e)) in
    rw get_or-set_other refl

-- when those that a partial test finds have moved, there is room for those that a full one finds
pub room_for_deep : (cs : List ℕ) (g n : ℕ) → channel_states * g + channel_states ≤ length cs → ((k : Chan) → count_in cs g k ≤ 8) → n ≤ 8
    → count_in (moved_in cs g Hidden Repair n) g Repair + count_in (moved_in cs g Hidden Repair n) g Deep < 2 ^ 8
room_for_deep cs g n inside few h =
    let left : List ℕ = with_count cs g Hidden (count_in cs g Hidden - n) in
    let inside_left : channel_states * g + channel_states ≤ length left = omega (arith, inside, length-set cs (channel_states * g + place_of Hidden) (count_in cs g Hidden - n)) in
    omega (
      arith,
      few Repair,
      few Deep,
      count_in-with_count left g inside_left Repair (count_in left g Repair + n),
      other left g Repair Deep (count_in left g Repair + n) (λ e. omega arith),
      other cs g Hidden Repair (count_in cs g Hidden - n) (λ e. omega arith),
      other cs g Hidden Deep (count_in cs g Hidden - n) (λ e. omega arith),
    )
