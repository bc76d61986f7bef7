-- Counts of groups that stand one behind the other: of a full state, and of the full state of a count vector.
use Rattle.std.proofs.Common.{◌≡◌, ℕ, zero, suc, ◌+◌, List, [], ◌∷◌, ◌++◌, length, take, drop, replicate, refl, sym, ap, ◌∙◌, arith, length-append, length-drop, length-take-le, drop-drop, append_assoc, append-nil}
use Rattle.std.specs.Prelude.{if◌then◌else◌}
use Rattle.std.proofs.Math.Seq.{take-append_seam, drop-append_seam}
use Rattle.sil_model.specs.Sizes.{channel_states}
use Rattle.sil_model.specs.State.{FullState, count_of, is_same_chan}
use Rattle.sil_model.specs.Counts.{IsCounts, count_in, counts_at_start}
use Rattle.sil_model.specs.declared.parts.Chan.{Chan}
use Rattle.sil_model.specs.declared.parts.Chan.TheVariants.{Work, Hidden, Deep, Repair}
use Rattle.sil_model.specs.declared.parts.Group.{Group}
use Rattle.count_laws.specs.CountsOf.{tally_of, counts_of}
use Rattle.count_laws.proofs.Numbering.{IsCounts-rest, IsCounts-cons}
use Rattle.lumped_laws.specs.GroupLaws.{channels_over}
use Rattle.lumped_laws.specs.StateOfCounts.{channels_with, state_of_counts}

count-append : (k : Chan) (s t : FullState) → count_of k (s ++ t) ≡ count_of k s + count_of k t
count-append k [] t = omega arith
count-append k (c ∷ s) t = omega (arith, count-append k s t)

-- as many as there are, or none
abbrev one_where : Chan → Chan → ℕ
one_where k c = if is_same_chan k c then 1 else 0

count_same : (n : ℕ) (k c : Chan) → one_where k c ≡ 1 → count_of k (replicate n c) ≡ n
count_same zero k c h = refl
count_same (suc n) k c h = omega (arith, h, count_same n k c h)

count_other : (n : ℕ) (k c : Chan) → one_where k c ≡ 0 → count_of k (replicate n c) ≡ 0
count_other zero k c h = refl
count_other (suc n) k c h = omega (arith, h, count_other n k c h)

-- every channel is in one state
pub all_counted : (s : FullState) → count_of Work s + count_of Hidden s + count_of Deep s + count_of Repair s ≡ length s
all_counted [] = refl
all_counted (Work ∷ s) = omega (arith, all_counted s)
all_counted (Hidden ∷ s) = omega (arith, all_counted s)
all_counted (Deep ∷ s) = omega (arith, all_counted s)
all_counted (Repair ∷ s) = omega (arith, all_counted s)

-- channels in the order of their states
module _ (w h d r : ℕ) where
  abbrev pub in_order : FullState
  in_order = replicate w Work ++ replicate h Hidden ++ replicate d Deep ++ replicate r Repair

  parts_counted : (k : Chan) → count_of k in_order
      ≡ count_of k (replicate w Work) + count_of k (replicate h Hidden) + count_of k (replicate d Deep) + count_of k (replicate r Repair)
  parts_counted k = omega (
    arith,
    count-append k (replicate w Work ++ replicate h Hidden ++ replicate d Deep) (replicate r Repair),
    count-append k (replicate w Work ++ replicate h Hidden) (replicate d Deep),
    count-append k (replicate w Work) (replicate h Hidden),
  )

  in_work : count_of Work in_order ≡ w
  in_work = omega (
    arith,
    parts_counted Work,
    count_same w Work Work refl,
    count_other h Work Hidden refl,
    count_other d Work Deep refl,
    count_other r Work Repair refl,
  )

  in_hidden : count_of Hidden in_order ≡ h
  in_hidden = omega (
    arith,
    parts_counted Hidden,
    count_other w Hidden Work refl,
    count_same h Hidden Hidden refl,
    count_other d Hidden Deep refl,
    count_other r Hidden Repair refl,
  )

  in_deep : count_of Deep in_order ≡ d
  in_deep = omega (
    arith,
    parts_counted Deep,
    count_other w Deep Work refl,
    count_other h Deep Hidden refl,
    count_same d Deep Deep refl,
    count_other r Deep Repair refl,
  )

  in_repair : count_of Repair in_order ≡ r
  in_repair = omega (
    arith,
    parts_counted Repair,
    count_other w Repair Work refl,
    count_other h Repair Hidden refl,
    count_other d Repair Deep refl,
    count_same r Repair Repair refl,
  )

  length-in_order : length in_order ≡ w + h + d + r
  length-in_order = omega (arith, all_counted in_order, in_work, in_hidden, in_deep, in_repair)

  -- the first group of more
  first_counted : (n : ℕ) (s : FullState) (gs : List Group) → w + h + d + r ≡ n
      → tally_of (take n (in_order ++ s)) ++ counts_of gs (drop n (in_order ++ s)) ≡ w ∷ h ∷ d ∷ r ∷ counts_of gs s
  first_counted n s gs e =
      let l : length in_order ≡ n = length-in_order ∙ e in
      rw (← l, take-append_seam in_order s, drop-append_seam in_order s) (cc (in_work, in_hidden, in_deep, in_repair))

-- the full state of a count vector has these counts, and as many channels as its groups
pub counted-back : (gs : List Group) (cs : List ℕ) → IsCounts gs cs → counts_of gs (state_of_counts gs cs) ≡ cs
unfolding state_of_counts
counted-back [] [] v = refl
counted-back [] (c ∷ cs) v = absurd (omega (arith, v.each))
counted-back (g ∷ gs) (w ∷ h ∷ d ∷ r ∷ cs) v =
    first_counted w h d r g.size (state_of_counts gs cs) gs (v.sums 0 g (omega arith))
    ∙ ap (λ x. w ∷ h ∷ d ∷ r ∷ x) (counted-back gs cs (IsCounts-rest g gs (w ∷ h ∷ d ∷ r ∷ cs) v))
counted-back (g ∷ gs) (w ∷ h ∷ d ∷ []) v = absurd (omega (arith, v.each))
counted-back (g ∷ gs) (w ∷ h ∷ []) v = absurd (omega (arith, v.each))
counted-back (g ∷ gs) (w ∷ []) v = absurd (omega (arith, v.each))
counted-back (g ∷ gs) [] v = absurd (omega (arith, v.each))

pub length-counted : (gs : List Group) (cs : List ℕ) → IsCounts gs cs → length (state_of_counts gs cs) ≡ channels_over gs
unfolding state_of_counts
length-counted [] cs v = refl
length-counted (g ∷ gs) cs v =
    let own : FullState = channels_with cs in
    omega (
      arith,
      length-append own (state_of_counts gs (drop channel_states cs)),
      length-in_order (count_in cs 0 Work) (count_in cs 0 Hidden) (count_in cs 0 Deep) (count_in cs 0 Repair),
      v.sums 0 g (omega arith),
      length-counted gs (drop channel_states cs) (IsCounts-rest g gs cs v),
    )

-- the counts of as many channels as the groups have are a count vector
pub counted-valid : (gs : List Group) (s : FullState) → length s ≡ channels_over gs → IsCounts gs (counts_of gs s)
counted-valid [] s e = record { each = refl; sums = λ g d h. absurd (omega arith) }
counted-valid (g ∷ gs) s e =
    let long : length (take g.size s) ≡ g.size = length-take-le g.size s (omega arith) in
    IsCounts-cons g gs (counts_of (g ∷ gs) s) (omega arith) (omega (arith, all_counted (take g.size s), long))
    (counted-valid gs (drop g.size s) (omega (arith, length-drop g.size s)))

-- groups behind others
pub counts_of-append : (xs ys : List Group) (s : FullState) → counts_of (xs ++ ys) s ≡ counts_of xs s ++ counts_of ys (drop (channels_over xs) s)
counts_of-append [] ys s = refl
counts_of-append (g ∷ xs) ys s =
    ap (λ cs. tally_of (take g.size s) ++ cs)
    (counts_of-append xs ys (drop g.size s) ∙ ap (λ t. counts_of xs (drop g.size s) ++ counts_of ys t) (drop-drop (channels_over xs) g.size s))

pub channels_over-append : (xs ys : List Group) → channels_over (xs ++ ys) ≡ channels_over xs + channels_over ys
channels_over-append [] ys = omega arith
channels_over-append (g ∷ xs) ys = omega (arith, channels_over-append xs ys)

-- at the start every channel of every group works
abbrev pub start_over : List Group → FullState
start_over [] = []
start_over (g ∷ gs) = replicate g.size Work ++ start_over gs

pub state-start : (gs : List Group) → state_of_counts gs (counts_at_start gs) ≡ start_over gs
unfolding state_of_counts counts_at_start
state-start [] = refl
state-start (g ∷ gs) = simp (append-nil, state-start gs)

pub start_over-append : (xs ys : List Group) → start_over (xs ++ ys) ≡ start_over xs ++ start_over ys
start_over-append [] ys = refl
start_over-append (g ∷ xs) ys =
    let own : FullState = replicate g.size Work in
    ap (λ t. own ++ t) (start_over-append xs ys) ∙ sym (append_assoc own (start_over xs) (start_over ys))
