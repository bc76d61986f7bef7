-- How many channels work after an event: fewer in some group where channels fail, and one more in one group where one returns.
use Rattle.std.proofs.Common.{◌≡◌, ◌≢◌, ℕ, zero, suc, ◌+◌, ◌-◌, ◌*◌, ◌<◌, ◌≤◌, inl, inr, List, length, refl, ap, ◌∙◌, arith, get_or-set_other, length-set}
use Rattle.std.proofs.lemmas.Bool.{cases_lt}
use Rattle.sil_model.specs.Sizes.{channel_states}
use Rattle.sil_model.specs.Counts.{count_in, place_of, with_count, moved_in}
use Rattle.sil_model.specs.declared.parts.Chan.{Chan}
use Rattle.sil_model.specs.declared.parts.Chan.TheVariants.{Work, Repair}
use Rattle.channel_counts.specs.GroupSums.{sum_in, moved_together}
use Rattle.lumping.proofs.Moves.{count_in-with_count, count_in-other_group}

abbrev pub working : List ℕ → ℕ → ℕ
working cs g = count_in cs g Work

same_group : (cs : List ℕ) (g : ℕ) (k j : Chan) (v : ℕ) → place_of j ≢ place_of k → count_in (with_count cs g k v) g j ≡ count_in cs g j
same_group cs g k j v ne = get_or-set_other cs (channel_states * g + place_of k) (channel_states * g + place_of j) v 0 (λ e. ne (omega (arith, e)))

pub length-moved_in : (cs : List ℕ) (g : ℕ) (from to : Chan) (n : ℕ) → length (moved_in cs g from to n) ≡ length cs
length-moved_in cs g from to n = length-set _ _ _ ∙ length-set _ _ _

module _ (cs : List ℕ) (g : ℕ) (inside : channel_states * g + channel_states ≤ length cs) where
  pub other-group : (from to : Chan) (n h : ℕ) → h ≢ g → working (moved_in cs g from to n) h ≡ working cs h
  other-group from to n h ne =
      let left : List ℕ = with_count cs g from (count_in cs g from - n) in
      let long : channel_states * g + channel_states ≤ length left = omega (arith, length-set cs (channel_states * g + place_of from) (count_in cs g from - n)) in
      count_in-other_group left g long to Work (count_in left g to + n) h ne ∙ count_in-other_group cs g inside from Work (count_in cs g from - n) h ne

  module _ (to : Chan) (n : ℕ) (apart : place_of Work ≢ place_of to) where
    after-failure : working (moved_in cs g Work to n) g ≡ working cs g - n
    after-failure =
        let left : List ℕ = with_count cs g Work (working cs g - n) in
        same_group left g to Work (count_in left g to + n) apart ∙ count_in-with_count cs g inside Work (working cs g - n)

    pub not-more : (h : ℕ) → working (moved_in cs g Work to n) h ≤ working cs h
    not-more h = elim (cases_lt h g) [
      | inl p ↦ omega (arith, other-group Work to n h (λ e. absurd (omega arith)))
      | inr p ↦ elim (cases_lt g h) [
        | inl q ↦ omega (arith, other-group Work to n h (λ e. absurd (omega arith)))
        | inr q ↦ let e : h ≡ g = omega arith in rw e (omega (arith, after-failure))
      ]
    ]

  pub after-failure-of : (to : Chan) (n : ℕ) → place_of Work ≢ place_of to → working (moved_in cs g Work to n) g ≡ working cs g - n
  after-failure-of to n apart = after-failure to n apart

  pub after-return : working (moved_in cs g Repair Work 1) g ≡ working cs g + 1
  after-return =
      let left : List ℕ = with_count cs g Repair (count_in cs g Repair - 1) in
      let long : channel_states * g + channel_states ≤ length left = omega (arith, length-set cs (channel_states * g + place_of Repair) (count_in cs g Repair - 1)) in
      count_in-with_count left g long Work (working left g + 1)
      ∙ ap (λ n. n + 1) (same_group cs g Repair Work (count_in cs g Repair - 1) (λ e. absurd (omega arith)))

-- all channels of some groups
module _ (to : Chan) (apart : place_of Work ≢ place_of to) where
  pub together-not-more : (n g : ℕ) (cs : List ℕ) → channel_states * (g + n) ≤ length cs → (h : ℕ) → working (moved_together g n to cs) h ≤ working cs h
  together-not-more zero g cs inside h = omega arith
  together-not-more (suc n) g cs inside h =
      let next : List ℕ = moved_in cs g Work to (working cs g) in
      let rest : working (moved_together (suc g) n to next) h ≤ working next h =
      together-not-more n (suc g) next (omega (arith, length-moved_in cs g Work to (working cs g))) h in
      omega (arith, rest, not-more cs g (omega arith) to (working cs g) apart h)

  same-sum : (n g : ℕ) (cs ds : List ℕ) → ((h : ℕ) → working cs h ≡ working ds h) → sum_in cs g n Work ≡ sum_in ds g n Work
  same-sum zero g cs ds same = refl
  same-sum (suc n) g cs ds same = omega (arith, same g, same-sum n (suc g) cs ds same)

  -- fewer work in some group
  pub together-fewer : (n g : ℕ) (cs : List ℕ) → channel_states * (g + n) ≤ length cs → 0 < sum_in cs g n Work
      → (h : ℕ) × (working (moved_together g n to cs) h < working cs h)
  together-fewer zero g cs inside some = absurd (omega arith)
  together-fewer (suc n) g cs inside some =
      let next : List ℕ = moved_in cs g Work to (working cs g) in
      let long : channel_states * (suc g + n) ≤ length next = omega (arith, length-moved_in cs g Work to (working cs g)) in
      let first : channel_states * g + channel_states ≤ length cs = omega arith in
      elim (cases_lt 0 (working cs g)) [
        | inl p ↦ (g, omega (arith, together-not-more n (suc g) next long g, after-failure-of cs g first to (working cs g) apart))
        | inr p ↦
            let same : (h : ℕ) → working next h ≡ working cs h = λ h. stays cs g first (working cs g) (omega arith) h in
            let more : 0 < sum_in next (suc g) n Work = omega (arith, same-sum n (suc g) next cs same) in
            let found = together-fewer n (suc g) next long more in
            (found.0, omega (arith, found.1, same found.0))
      ]
    where
      stays : (cs : List ℕ) (g : ℕ) → channel_states * g + channel_states ≤ length cs → (n : ℕ) → n ≡ 0 → (h : ℕ) → working (moved_in cs g Work to n) h ≡ working cs h
      stays cs g first n none h = elim (cases_lt h g) [
        | inl p ↦ other-group cs g first Work to n h (λ e. absurd (omega arith))
        | inr p ↦ elim (cases_lt g h) [
          | inl q ↦ other-group cs g first Work to n h (λ e. absurd (omega arith))
          | inr q ↦ let e : h ≡ g = omega arith in rw e (omega (arith, after-failure-of cs g first to n apart))
        ]
      ]
