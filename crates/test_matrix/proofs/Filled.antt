-- Count vectors with the counts of one group filled in.
use Rattle.std.proofs.Common.{◌≡◌, ℕ, zero, suc, ◌+◌, ◌-◌, ◌*◌, ◌<◌, ◌≤◌, List, [], ◌∷◌, ◌++◌, length, refl, ap, ◌∙◌, arith, set, get_or, take, drop, length-drop}
use Rattle.std.specs.Prelude.{Bool, true, false, min, if◌then◌else◌}
use Rattle.std.proofs.Math.Seq.{take-append_seam, drop-append_seam, get_or-append_right}
use Rattle.std.proofs.lemmas.List.{take-append-le, drop-append-le, set-append_right}
use mathlib.Core.Path.{fun_ext}
use Rattle.sil_model.specs.Sizes.{channel_states}
use Rattle.sil_model.specs.State.{FullState, is_same_chan}
use Rattle.sil_model.specs.Counts.{count_in, place_of, with_count, moved_in}
use Rattle.sil_model.specs.declared.parts.Chan.{Chan}
use Rattle.sil_model.specs.declared.parts.Chan.TheVariants.{Work, Hidden, Deep, Repair}
use Rattle.sil_model.specs.declared.parts.Group.{Group}
use Rattle.count_laws.specs.CountsOf.{tally_of, counts_of}
use Rattle.lumped_laws.specs.GroupLaws.{channels_over}
use Rattle.test_matrix.specs.Places.{all_moved, settled_counts, failed_counts}
use Rattle.test_matrix.proofs.Parts.{Tally, tally, after_group}

-- the counts of a group, in the order of the states
abbrev pub counts_by : Tally → List ℕ
counts_by t = t Work ∷ t Hidden ∷ t Deep ∷ t Repair ∷ []

-- the counts of a full state whose part x is that of the group g
pub along_part : (gs : List Group) (g : ℕ) (d : Group) (a x b : FullState) → g < length gs → length a ≡ channels_over (take g gs)
    → length x ≡ (get_or gs g d).size
    → counts_of gs (a ++ (x ++ b)) ≡ counts_of (take g gs) a ++ (counts_by (tally x) ++ counts_of (drop (suc g) gs) b)
along_part [] g d a x b h l m = absurd (omega arith)
along_part (y ∷ gs) zero d [] x b h l m = rw (← m, take-append_seam x b, drop-append_seam x b) refl
along_part (y ∷ gs) zero d (c ∷ a) x b h l m = absurd (omega arith)
along_part (y ∷ gs) (suc g) d a x b h l m =
    let i : y.size ≤ length a = omega arith in
    let j : length (drop y.size a) ≡ channels_over (take g gs) = omega (arith, length-drop y.size a) in
    rw (take-append-le y.size a (x ++ b) i, drop-append-le y.size a (x ++ b) i)
    (ap (λ cs. tally_of (take y.size a) ++ cs) (along_part gs g d (drop y.size a) x b (omega arith) j m))

-- a count changed
abbrev changed : Tally → Chan → ℕ → Tally
changed t k v j = if is_same_chan j k then v else t j

module _ (g : ℕ) (pre post : List ℕ) (long : length pre ≡ channel_states * g) where
  abbrev pub filled : Tally → List ℕ
  filled t = pre ++ (counts_by t ++ post)

  pub count_in-filled : (t : Tally) (k : Chan) → count_in (filled t) g k ≡ t k
  count_in-filled t k =
      let e : channel_states * g + place_of k - length pre ≡ place_of k = omega arith in
      get_or-append_right pre (counts_by t ++ post) (channel_states * g + place_of k) 0 (omega arith) ∙ rw e (at k)
    where
      at : (k : Chan) → get_or (counts_by t ++ post) (place_of k) 0 ≡ t k
      at Work = refl
      at Hidden = refl
      at Deep = refl
      at Repair = refl

  with_count-filled : (t : Tally) (k : Chan) (v : ℕ) → with_count (filled t) g k v ≡ filled (changed t k v)
  with_count-filled t k v =
      let e : channel_states * g + place_of k - channel_states * g ≡ place_of k = omega arith in
      set-append_right pre (counts_by t ++ post) (channel_states * g) (channel_states * g + place_of k) v long (omega arith) ∙ rw e (ap (λ cs. pre ++ cs) (at k))
    where
      at : (k : Chan) → set (counts_by t ++ post) (place_of k) v ≡ counts_by (changed t k v) ++ post
      at Work = refl
      at Hidden = refl
      at Deep = refl
      at Repair = refl

  abbrev moved : Tally → Chan → Chan → ℕ → Tally
  moved t from to n = let left : Tally = changed t from (t from - n) in changed left to (left to + n)

  moved_in-filled : (t : Tally) (from to : Chan) (n : ℕ) → moved_in (filled t) g from to n ≡ filled (moved t from to n)
  moved_in-filled t from to n =
      let left : Tally = changed t from (t from - n) in
      let e : with_count (filled t) g from (count_in (filled t) g from - n) ≡ filled left =
      rw (count_in-filled t from) (with_count-filled t from (t from - n)) in
      rw e (rw (count_in-filled left to) (with_count-filled left to (left to + n)))

  all_moved-filled : (t : Tally) (from to : Chan) → all_moved (filled t) g from to ≡ filled (moved t from to (t from))
  all_moved-filled t from to = ap (moved_in (filled t) g from to) (count_in-filled t from) ∙ moved_in-filled t from to (t from)

  -- where the tests of the group lead if no channel fails at them
  pub settled_counts-filled : (full : Bool) (t : Tally) → settled_counts full g (filled t) ≡ filled (after_group full t (t Work) 0)
  settled_counts-filled true t =
      ap (λ cs. all_moved cs g Deep Repair) (all_moved-filled t Hidden Repair)
      ∙ all_moved-filled (moved t Hidden Repair (t Hidden)) Deep Repair ∙ ap filled (fun_ext at)
    where
      at : (k : Chan) → moved (moved t Hidden Repair (t Hidden)) Deep Repair (t Deep) k ≡ after_group true t (t Work) 0 k
      at Work = refl
      at Hidden = omega arith
      at Deep = omega arith
      at Repair = omega arith
  settled_counts-filled false t = all_moved-filled t Hidden Repair ∙ ap filled (fun_ext at)
    where
      at : (k : Chan) → moved t Hidden Repair (t Hidden) k ≡ after_group false t (t Work) 0 k
      at Work = refl
      at Hidden = omega arith
      at Deep = refl
      at Repair = omega arith

  -- and where one failure more leads
  pub failed_counts-filled : (full : Bool) (t : Tally) (a b : ℕ)
      → failed_counts g (filled (after_group full t (suc a) b)) ≡ filled (after_group full t a (suc b))
  failed_counts-filled full t a b =
      let u : Tally = after_group full t (suc a) b in
      let one : min (suc a) 1 ≡ 1 = omega arith in
      ap (λ n. moved_in (filled u) g Work Hidden (min n 1)) (count_in-filled u Work)
      ∙ ap (moved_in (filled u) g Work Hidden) one ∙ moved_in-filled u Work Hidden 1 ∙ ap filled (fun_ext at)
    where
      at : (k : Chan) → moved (after_group full t (suc a) b) Work Hidden 1 k ≡ after_group full t a (suc b) k
      at Work = omega arith
      at Hidden = omega arith
      at Deep = refl
      at Repair = refl
