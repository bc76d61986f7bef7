-- The tests of the channels of a part of the state, and what they ask of its counts.
use Rattle.std.proofs.Common.{◌≡◌, ℕ, zero, suc, ◌+◌, List, [], ◌∷◌, ◌++◌, length, refl, sym, ap, ◌∙◌, arith, set, get_or, append_assoc, length-append}
use Rattle.std.specs.Prelude.{Bool, true, false, if◌then◌else◌}
use Rattle.std.proofs.Math.Seq.{get_or-append_seam, set-append_seam}
use mathlib.Core.Path.{fun_ext}
use Rattle.sil_fraction.specs.Fraction.{Fraction, ◌+ℚ◌, ◌*ℚ◌, ◌-ℚ◌, whole}
use Rattle.sil_model.specs.State.{FullState, count_of, is_same_chan}
use Rattle.sil_model.specs.Series.{Values}
use Rattle.sil_model.specs.Calendar.{ChannelTest}
use Rattle.sil_model.specs.Pay.{tested}
use Rattle.sil_model.specs.declared.parts.Chan.{Chan}
use Rattle.sil_model.specs.declared.parts.Chan.TheVariants.{Work, Hidden, Deep, Repair}
use Rattle.test_calendar.specs.GroupTests.{tests_of_channels}
use Rattle.count_laws.specs.AfterTests.{after_tests}
use Rattle.test_matrix.specs.Rows.{by_chance}

-- what is expected of f after a test of a channel in a state, where f is told its state after the test
abbrev pub chan_tested : Fraction → Bool → Chan → (Chan → Fraction) → Fraction
chan_tested r full Work f = r *ℚ f Hidden +ℚ (whole 1 -ℚ r) *ℚ f Work
chan_tested r full Hidden f = f Repair
chan_tested r full Deep f = if full then f Repair else f Deep
chan_tested r full Repair f = f Repair

-- a channel that a test leaves as it is
set_same : (s : FullState) (i : ℕ) → set s i (get_or s i Work) ≡ s
set_same [] i = refl
set_same (c ∷ s) zero = refl
set_same (c ∷ s) (suc i) = ap (λ x. c ∷ x) (set_same s i)

tested_as : (t : ChannelTest) (f : Values FullState) (s : FullState) (c : Chan) → get_or s t.channel Work ≡ c
    → tested t c f s ≡ chan_tested t.fault t.full c (λ d. f (set s t.channel d))
tested_as t f s Work e = let h : set s t.channel Work ≡ s = rw e at (set_same s t.channel) in rw h refl
tested_as t f s Hidden e = refl
tested_as t f s Deep e =
    let h : set s t.channel Deep ≡ s = rw e at (set_same s t.channel) in
    ap (λ x. if t.full then f (set s t.channel Repair) else f x) (sym h)
tested_as t f s Repair e = let h : set s t.channel Repair ≡ s = rw e at (set_same s t.channel) in ap f (sym h)

-- one test, and those after it
after_one : (t : ChannelTest) (ts : List ChannelTest) (f : Values FullState) (s : FullState)
    → after_tests (t ∷ ts) f s ≡ chan_tested t.fault t.full (get_or s t.channel Work) (λ c. after_tests ts f (set s t.channel c))
after_one t ts f s = tested_as t (after_tests ts f) s (get_or s t.channel Work) refl

module _ (r : Fraction) (full : Bool) where
  -- the same of a part of the state alone
  unfoldable pub part_tested : Values FullState → Values FullState
  part_tested f [] = f []
  part_tested f (c ∷ s) = chan_tested r full c (λ d. part_tested (λ x. f (d ∷ x)) s)

  -- the tests of a part of the state leave the rest alone
  pub in_part : (f : Values FullState) (a s b : FullState)
      → after_tests (tests_of_channels full r (length a) (length s)) f (a ++ (s ++ b)) ≡ part_tested (λ x. f (a ++ (x ++ b))) s
  unfolding part_tested
  in_part f a [] b = refl
  in_part f a (c ∷ s) b =
      let t : ChannelTest = record { channel = length a; full = full; fault = r } in
      after_one t (tests_of_channels full r (suc (length a)) (length s)) f (a ++ (c ∷ (s ++ b)))
      ∙ rw (get_or-append_seam a c (s ++ b) Work) (ap (chan_tested r full c) (fun_ext (λ d.
      let l : length (a ++ (d ∷ [])) ≡ suc (length a) = omega (arith, length-append a (d ∷ [])) in
      rw (set-append_seam a c (s ++ b) d, ← l) (simp append_assoc at (in_part f (a ++ (d ∷ [])) s b)))))

  -- they ask states of the same length alone
  pub part_same : (s : FullState) (f g : Values FullState) → ((x : FullState) → length x ≡ length s → f x ≡ g x) → part_tested f s ≡ part_tested g s
  unfolding part_tested
  part_same [] f g h = h [] refl
  part_same (c ∷ s) f g h = ap (chan_tested r full c) (fun_ext (λ d. part_same s (λ x. f (d ∷ x)) (λ x. g (d ∷ x)) (λ x e. h (d ∷ x) (ap suc e))))

-- how many channels are in each state
abbrev pub Tally : Type 0
Tally = Chan → ℕ

abbrev pub tally : FullState → Tally
tally s k = count_of k s

-- one channel more in a state
abbrev pub more : Chan → Tally → Tally
more c t k = (if is_same_chan k c then 1 else 0) + t k

-- the tally after the tests of a group, of whose channels so many still work and so many failed
abbrev pub after_group : Bool → Tally → ℕ → ℕ → Tally
after_group full t works fails Work = works
after_group full t works fails Hidden = fails
after_group full t works fails Deep = if full then 0 else t Deep
after_group full t works fails Repair = t Repair + (if full then t Hidden + t Deep else t Hidden)

-- a channel more, before the tests and after them
module _ (t : Tally) (a b : ℕ) where
  failed_more : (full : Bool) → after_group full (more Work t) a (suc b) ≡ more Hidden (after_group full t a b)
  failed_more full = fun_ext (at full)
    where
      at : (full : Bool) (k : Chan) → after_group full (more Work t) a (suc b) k ≡ more Hidden (after_group full t a b) k
      at full Work = omega arith
      at full Hidden = omega arith
      at true Deep = omega arith
      at false Deep = omega arith
      at true Repair = omega arith
      at false Repair = omega arith

  works_more : (full : Bool) → after_group full (more Work t) (suc a) b ≡ more Work (after_group full t a b)
  works_more full = fun_ext (at full)
    where
      at : (full : Bool) (k : Chan) → after_group full (more Work t) (suc a) b k ≡ more Work (after_group full t a b) k
      at full Work = omega arith
      at full Hidden = omega arith
      at true Deep = omega arith
      at false Deep = omega arith
      at true Repair = omega arith
      at false Repair = omega arith

  found_more : (full : Bool) → after_group full (more Hidden t) a b ≡ more Repair (after_group full t a b)
  found_more full = fun_ext (at full)
    where
      at : (full : Bool) (k : Chan) → after_group full (more Hidden t) a b k ≡ more Repair (after_group full t a b) k
      at full Work = omega arith
      at full Hidden = omega arith
      at true Deep = omega arith
      at false Deep = omega arith
      at true Repair = omega arith
      at false Repair = omega arith

  deep_found_more : after_group true (more Deep t) a b ≡ more Repair (after_group true t a b)
  deep_found_more = fun_ext at
    where
      at : (k : Chan) → after_group true (more Deep t) a b k ≡ more Repair (after_group true t a b) k
      at Work = omega arith
      at Hidden = omega arith
      at Deep = omega arith
      at Repair = omega arith

  deep_more : after_group false (more Deep t) a b ≡ more Deep (after_group false t a b)
  deep_more = fun_ext at
    where
      at : (k : Chan) → after_group false (more Deep t) a b k ≡ more Deep (after_group false t a b) k
      at Work = omega arith
      at Hidden = omega arith
      at Deep = omega arith
      at Repair = omega arith

  repair_more : (full : Bool) → after_group full (more Repair t) a b ≡ more Repair (after_group full t a b)
  repair_more full = fun_ext (at full)
    where
      at : (full : Bool) (k : Chan) → after_group full (more Repair t) a b k ≡ more Repair (after_group full t a b) k
      at full Work = omega arith
      at full Hidden = omega arith
      at true Deep = omega arith
      at false Deep = omega arith
      at true Repair = omega arith
      at false Repair = omega arith

-- what is expected of f after the tests of all channels of a group
unfoldable pub group_tested : Fraction → Bool → (Tally → Fraction) → Tally → Fraction
group_tested r full f t = by_chance r (t Work) (λ works fails. f (after_group full t works fails))

-- a part whose channels are no more than before in Work
as_many_work : (r : Fraction) (n m : ℕ) (f g : ℕ → ℕ → Fraction) → n ≡ m → ((a b : ℕ) → f a b ≡ g a b) → by_chance r n f ≡ by_chance r m g
as_many_work r n m f g e h = rw e (ap (by_chance r m) (fun_ext (λ a. fun_ext (λ b. h a b))))

one_works : (r : Fraction) (n m : ℕ) (f : ℕ → ℕ → Fraction) → n ≡ suc m
    → by_chance r n f ≡ r *ℚ by_chance r m (λ a b. f a (suc b)) +ℚ (whole 1 -ℚ r) *ℚ by_chance r m (λ a b. f (suc a) b)
unfolding by_chance
one_works r n m f e = rw e refl

one_more : (r : Fraction) (full : Bool) (f : Tally → Fraction) (t : Tally) (c : Chan)
    → chan_tested r full c (λ d. group_tested r full (λ u. f (more d u)) t) ≡ group_tested r full f (more c t)
unfolding group_tested
one_more r full f t Work =
    sym (one_works r (1 + t Work) (t Work) (λ a b. f (after_group full (more Work t) a b)) (omega arith)
    ∙ cc (
      as_many_work r (t Work) (t Work) (λ a b. f (after_group full (more Work t) a (suc b)))
          (λ a b. f (more Hidden (after_group full t a b))) refl (λ a b. ap f (failed_more t a b full)),
      as_many_work r (t Work) (t Work) (λ a b. f (after_group full (more Work t) (suc a) b))
          (λ a b. f (more Work (after_group full t a b))) refl (λ a b. ap f (works_more t a b full)),
    ))
one_more r full f t Hidden = as_many_work r (t Work) (0 + t Work) _ _ (omega arith) (λ a b. ap f (sym (found_more t a b full)))
one_more r true f t Deep = as_many_work r (t Work) (0 + t Work) _ _ (omega arith) (λ a b. ap f (sym (deep_found_more t a b)))
one_more r false f t Deep = as_many_work r (t Work) (0 + t Work) _ _ (omega arith) (λ a b. ap f (sym (deep_more t a b)))
one_more r full f t Repair = as_many_work r (t Work) (0 + t Work) _ _ (omega arith) (λ a b. ap f (sym (repair_more t a b full)))

-- nothing is tested
none_tested : (r : Fraction) (full : Bool) (f : Tally → Fraction) → f (tally []) ≡ group_tested r full f (tally [])
unfolding group_tested by_chance
none_tested r full f = ap f (fun_ext (at full))
  where
    at : (full : Bool) (k : Chan) → tally [] k ≡ after_group full (tally []) 0 0 k
    at full Work = refl
    at full Hidden = refl
    at true Deep = refl
    at false Deep = refl
    at true Repair = refl
    at false Repair = refl

-- the tests of a part ask for its tally alone
pub by_tally : (r : Fraction) (full : Bool) (f : Tally → Fraction) (s : FullState) → part_tested r full (λ x. f (tally x)) s ≡ group_tested r full f (tally s)
unfolding part_tested
by_tally r full f [] = none_tested r full f
by_tally r full f (c ∷ s) =
    ap (chan_tested r full c) (fun_ext (λ d. by_tally r full (λ t. f (more d t)) s)) ∙ one_more r full f (tally s) c
