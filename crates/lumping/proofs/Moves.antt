-- Channels of one group that go from one state to another lead from a count vector to a count vector.
use Rattle.std.proofs.Common.{◌≡◌, ◌≢◌, ℕ, ◌+◌, ◌-◌, ◌*◌, ◌<◌, ◌≤◌, inl, inr, List, length, get_or, set, refl, ◌∙◌, arith, get_or-set_same, get_or-set_other, length-set}
use Rattle.std.proofs.lemmas.Bool.{cases_lt}
use Rattle.sil_model.specs.Sizes.{channel_states}
use Rattle.sil_model.specs.Counts.{IsCounts, count_in, place_of, with_count, moved_in}
use Rattle.sil_model.specs.declared.parts.Chan.{Chan}
use Rattle.sil_model.specs.declared.parts.Chan.TheVariants.{Work, Hidden, Deep, Repair}
use Rattle.sil_model.specs.declared.parts.Group.{Group}

-- the channels of a group in all four states
abbrev pub all_in : List ℕ → ℕ → ℕ
all_in cs g = count_in cs g Work + count_in cs g Hidden + count_in cs g Deep + count_in cs g Repair

pub place_of-small : (k : Chan) → place_of k < channel_states
place_of-small Work = omega arith
place_of-small Hidden = omega arith
place_of-small Deep = omega arith
place_of-small Repair = omega arith

module _ (cs : List ℕ) (g : ℕ) (inside : channel_states * g + channel_states ≤ length cs) where
  pub count_in-with_count : (k : Chan) (v : ℕ) → count_in (with_count cs g k v) g k ≡ v
  count_in-with_count k v =
      let h : channel_states * g + place_of k < length cs = omega (arith, place_of-small k) in
      rw get_or-set_same refl

  other_place : (i k v : ℕ) → i ≢ k → get_or (set cs k v) i 0 ≡ get_or cs i 0
  other_place i k v ne = rw get_or-set_other refl

  -- the counts of the other groups stay
  pub count_in-other_group : (k j : Chan) (v h : ℕ) → h ≢ g → count_in (with_count cs g k v) h j ≡ count_in cs h j
  count_in-other_group k j v h ne = other_place (channel_states * h + place_of j) (channel_states * g + place_of k) v (λ e. ne (omega (arith, e, place_of-small k, place_of-small j)))

  pub all_in-other_group : (k : Chan) (v h : ℕ) → h ≢ g → all_in (with_count cs g k v) h ≡ all_in cs h
  all_in-other_group k v h ne =
      cc (count_in-other_group k Work v h ne, count_in-other_group k Hidden v h ne, count_in-other_group k Deep v h ne, count_in-other_group k Repair v h ne)

  -- the counts of a group with one count changed
  pub all_in-with_count : (k : Chan) (v : ℕ) → all_in (with_count cs g k v) g + count_in cs g k ≡ all_in cs g + v
  all_in-with_count Work v = omega (
    arith,
    count_in-with_count Work v,
    other_place (channel_states * g + 1) (channel_states * g + 0) v (λ e. omega arith),
    other_place (channel_states * g + 2) (channel_states * g + 0) v (λ e. omega arith),
    other_place (channel_states * g + 3) (channel_states * g + 0) v (λ e. omega arith),
  )
  all_in-with_count Hidden v = omega (
    arith,
    count_in-with_count Hidden v,
    other_place (channel_states * g + 0) (channel_states * g + 1) v (λ e. omega arith),
    other_place (channel_states * g + 2) (channel_states * g + 1) v (λ e. omega arith),
    other_place (channel_states * g + 3) (channel_states * g + 1) v (λ e. omega arith),
  )
  all_in-with_count Deep v = omega (
    arith,
    count_in-with_count Deep v,
    other_place (channel_states * g + 0) (channel_states * g + 2) v (λ e. omega arith),
    other_place (channel_states * g + 1) (channel_states * g + 2) v (λ e. omega arith),
    other_place (channel_states * g + 3) (channel_states * g + 2) v (λ e. omega arith),
  )
  all_in-with_count Repair v = omega (
    arith,
    count_in-with_count Repair v,
    other_place (channel_states * g + 0) (channel_states * g + 3) v (λ e. omega arith),
    other_place (channel_states * g + 1) (channel_states * g + 3) v (λ e. omega arith),
    other_place (channel_states * g + 2) (channel_states * g + 3) v (λ e. omega arith),
  )

-- n channels leave a state for another
module _ (gs : List Group) (cs : List ℕ) (g n : ℕ) (from to : Chan) (v : IsCounts gs cs) (inside : g < length gs) (enough : n ≤ count_in cs g from) where
  abbrev left : List ℕ
  left = with_count cs g from (count_in cs g from - n)

  room : channel_states * g + channel_states ≤ length cs
  room = omega (arith, v.each)

  room_left : channel_states * g + channel_states ≤ length left
  room_left = omega (arith, room, length-set cs (channel_states * g + place_of from) (count_in cs g from - n))

  in_this_group : all_in (moved_in cs g from to n) g ≡ all_in cs g
  in_this_group = omega (arith, all_in-with_count left g room_left to (count_in left g to + n), all_in-with_count cs g room from (count_in cs g from - n), enough)

  in_another_group : (h : ℕ) → h ≢ g → all_in (moved_in cs g from to n) h ≡ all_in cs h
  in_another_group h ne = all_in-other_group left g room_left to _ h ne ∙ all_in-other_group cs g room from _ h ne

  in_each_group : (h : ℕ) → all_in (moved_in cs g from to n) h ≡ all_in cs h
  in_each_group h = elim (cases_lt h g) [
    | inl below ↦ in_another_group h (λ e. omega arith)
    | inr from_here ↦ elim (cases_lt g h) [
      | inl above ↦ in_another_group h (λ e. omega arith)
      | inr here ↦ let e : h ≡ g = omega arith in rw e in_this_group
    ]
  ]

  pub IsCounts-moved_in : IsCounts gs (moved_in cs g from to n)
  IsCounts-moved_in = record {
    each = length-set left (channel_states * g + place_of to) (count_in left g to + n) ∙ length-set cs (channel_states * g + place_of from) (count_in cs g from - n) ∙ v.each;
    sums = λ h d p. in_each_group h ∙ v.sums h d p;
  }
