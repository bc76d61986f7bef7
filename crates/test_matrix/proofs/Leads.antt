-- The tables of a group against the counts that its tests lead to.
use Rattle.std.proofs.Common.{◌≡◌, ℕ, zero, suc, ◌+◌, ◌*◌, ◌<◌, List, length, refl, sym, ap, ◌∙◌, arith, get_or}
use Rattle.std.specs.Prelude.{Bool, true, false, min}
use Rattle.sil_fraction.specs.Fraction.{Fraction}
use Rattle.sil_model.specs.Series.{Values}
use Rattle.sil_model.specs.LoopValue.{groups_of}
use Rattle.sil_model.specs.Sizes.{channel_states, states_of}
use Rattle.sil_model.specs.Counts.{IsCounts, count_in, number_of, counts_numbered}
use Rattle.sil_model.specs.declared.parts.Chan.{Chan}
use Rattle.sil_model.specs.declared.parts.Chan.TheVariants.{Work, Hidden, Deep, Repair}
use Rattle.sil_model.specs.declared.parts.Group.{Group}
use Rattle.sil_model.specs.declared.parts.Subsystem.{Subsystem}
use Rattle.lumping.proofs.Moves.{IsCounts-moved_in}
use Rattle.count_laws.proofs.Numbering.{number_of-small, counts_numbered-number_of}
use Rattle.test_matrix.specs.Rows.{by_chance}
use Rattle.test_matrix.specs.Spread.{walk, group_list}
use Rattle.test_matrix.specs.Places.{all_moved, settled_counts, failed_counts, AreNumbers, AreWorking}
use Rattle.test_matrix.proofs.Parts.{Tally, after_group, group_tested}
use Rattle.test_matrix.proofs.Filled.{filled, count_in-filled, settled_counts-filled, failed_counts-filled}

-- only pairs that add up to n are asked for
pub chance-same : (r : Fraction) (n : ℕ) (f g : ℕ → ℕ → Fraction) → ((a b : ℕ) → a + b ≡ n → f a b ≡ g a b) → by_chance r n f ≡ by_chance r n g
unfolding by_chance
chance-same r zero f g h = h 0 0 refl
chance-same r (suc n) f g h =
    let a : by_chance r n (λ a b. f a (suc b)) ≡ by_chance r n (λ a b. g a (suc b)) = chance-same r n _ _ (λ a b e. h a (suc b) (omega arith)) in
    let b : by_chance r n (λ a b. f (suc a) b) ≡ by_chance r n (λ a b. g (suc a) b) = chance-same r n _ _ (λ a b e. h (suc a) b (omega arith)) in
    cc

-- count vectors stay count vectors
module _ (gs : List Group) (g : ℕ) (inside : g < length gs) (cs : List ℕ) (valid : IsCounts gs cs) where
  pub all_moved-valid : (from to : Chan) → IsCounts gs (all_moved cs g from to)
  all_moved-valid from to = IsCounts-moved_in gs cs g (count_in cs g from) from to valid inside (omega arith)

  pub failed_counts-valid : IsCounts gs (failed_counts g cs)
  failed_counts-valid = IsCounts-moved_in gs cs g (min (count_in cs g Work) 1) Work Hidden valid inside (omega arith)

pub settled_counts-valid : (full : Bool) (gs : List Group) (g : ℕ) → g < length gs → (cs : List ℕ) → IsCounts gs cs → IsCounts gs (settled_counts full g cs)
settled_counts-valid true gs g h cs v = all_moved-valid gs g h (all_moved cs g Hidden Repair) (all_moved-valid gs g h cs v Hidden Repair) Deep Repair
settled_counts-valid false gs g h cs v = all_moved-valid gs g h cs v Hidden Repair

-- the entry of a table at the number of a count vector
module _ (us : List Subsystem) (cs : List ℕ) (valid : IsCounts (groups_of us) cs) where
  abbrev place : ℕ
  place = number_of (groups_of us) cs

  place-below : place < states_of us
  unfolding states_of
  place-below = number_of-small (groups_of us) cs valid

  same_counts : counts_numbered (groups_of us) place ≡ cs
  same_counts = counts_numbered-number_of (groups_of us) cs valid

  pub entry : (F : List ℕ → List ℕ) (xs : List ℕ) → AreNumbers us F xs → get_or xs place 0 ≡ number_of (groups_of us) (F cs)
  entry F xs are = are.number place place-below ∙ ap (λ x. number_of (groups_of us) (F x)) same_counts

  pub working-entry : (g : ℕ) (xs : List ℕ) → AreWorking us g xs → get_or xs place 0 ≡ count_in cs g Work
  working-entry g xs are = are.number place place-below ∙ ap (λ x. count_in x g Work) same_counts

module _ (us : List Subsystem) (g : ℕ) (inside : g < length (groups_of us)) (full : Bool) (works settled failed : List ℕ)
    (working : AreWorking us g works) (settles : AreNumbers us (settled_counts full g) settled) (fails : AreNumbers us (failed_counts g) failed)
    (pre post : List ℕ) (long : length pre ≡ channel_states * g) (t : Tally) where
  abbrev gs : List Group
  gs = groups_of us

  -- the count vector with the counts of a tally in this group, and its number
  abbrev counts_with : Tally → List ℕ
  counts_with = filled g pre post long

  abbrev number_with : Tally → ℕ
  number_with u = number_of gs (counts_with u)

  module _ (valid : IsCounts gs (counts_with t)) where
    valid_after : (b a : ℕ) → a + b ≡ t Work → IsCounts gs (counts_with (after_group full t a b))
    valid_after zero a e =
        let k : a ≡ t Work = omega arith in
        rw k (rw (settled_counts-filled g pre post long full t) at (settled_counts-valid full gs g inside (counts_with t) valid))
    valid_after (suc b) a e =
        rw (failed_counts-filled g pre post long full t a b) at
        (failed_counts-valid gs g inside (counts_with (after_group full t (suc a) b)) (valid_after b (suc a) (omega arith)))

    -- so many failures lead there
    walked : (b a : ℕ) → a + b ≡ t Work → walk failed b (get_or settled (number_with t) 0) ≡ number_with (after_group full t a b)
    unfolding walk
    walked zero a e =
        let k : a ≡ t Work = omega arith in
        rw k (entry us (counts_with t) valid (settled_counts full g) settled settles ∙ ap (number_of gs) (settled_counts-filled g pre post long full t))
    walked (suc b) a e =
        let more : a + suc b ≡ suc a + b = omega arith in
        let u : List ℕ = counts_with (after_group full t (suc a) b) in
        ap (λ i. get_or failed i 0) (walked b (suc a) (sym more ∙ e))
        ∙ entry us u (valid_after b (suc a) (sym more ∙ e)) (failed_counts g) failed fails
        ∙ ap (number_of gs) (failed_counts-filled g pre post long full t a b)

    -- what the tables give is what is expected of the tally
    pub group_list-is : (r : Fraction) (f : Values ℕ) → group_list r works settled failed f (number_with t) ≡ group_tested r full (λ u. f (number_with u)) t
    unfolding group_list group_tested
    group_list-is r f =
        let work : get_or works (number_with t) 0 ≡ t Work = working-entry us (counts_with t) valid g works working ∙ count_in-filled g pre post long t Work in
        rw work (chance-same r (t Work) (λ a b. f (walk failed b (get_or settled (number_with t) 0))) (λ a b. f (number_with (after_group full t a b)))
        (λ a b e. ap f (walked b a e)))
