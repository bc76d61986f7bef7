-- Group by group: what a loop over the groups has done.
use Rattle.std.proofs.Common.{◌≡◌, ℕ, zero, suc, ◌+◌, ◌-◌, ◌*◌, ◌/◌, ◌%◌, ◌<◌, ◌≤◌, List, [], ◌∷◌, ◌++◌, length, get_or, take, drop, refl, sym, ap, ◌∙◌, arith, add-one, append_assoc}
use Rattle.std.specs.Prelude.{slice_range}
use Rattle.std.proofs.Math.Seq.{drop-cons, drop-length}
use Rattle.std.proofs.Math.Nat.{mul-le-mul_left, mul-le-mul_right, mul_assoc}
use Rattle.std.proofs.lemmas.List.{drop-drop, length-drop, append-nil, take_all}
use Rattle.std.proofs.Math.ListN.{drop_of_length-le}
use Rattle.std.proofs.lemmas.Slice.{take-put_mid}
use borrow.Rule.Slice.PartMut.{put_mid}
use Rattle.sil_model.specs.Sizes.{channel_states, shares_of, states_over}
use Rattle.sil_model.specs.Counts.{IsCounts, together, list_number, list_numbered, number_of, counts_numbered}
use Rattle.sil_model.specs.declared.parts.Group.{Group}
use Rattle.count_laws.proofs.Lists.{length-list_numbered}
use Rattle.count_laws.proofs.Numbering.{IsCounts-first, IsCounts-rest, number_of-small, shares-positive, states-positive}

-- the group of the number g, and those after it
module _ (gs : List Group) (g : ℕ) (x d : Group) (inside : g < length gs) (here : x ≡ get_or gs g d) where
  groups-next : drop g gs ≡ x ∷ drop (suc g) gs
  groups-next = drop-cons gs g d inside ∙ ap (λ y. y ∷ drop (suc g) gs) (sym here)

  pub states-next : states_over (drop g gs) ≡ shares_of x.size * states_over (drop (g + 1) gs)
  states-next = rw (add-one g, groups-next) refl

  module _ (count w all : ℕ) (many : w ≡ shares_of x.size) (e : count * states_over (drop g gs) ≡ all) where
    pub count-turn : count * w * states_over (drop (g + 1) gs) ≡ all
    count-turn = mul_assoc count w (states_over (drop (g + 1) gs)) ∙ rw many (rw states-next at e)

    pub count-fits : count * w ≤ all
    count-fits = omega (arith, count-turn, mul-le-mul_left (count * w) (states-positive (drop (g + 1) gs)))

  module _ (cs : List ℕ) where
    later : drop channel_states (drop (channel_states * g) cs) ≡ drop (channel_states * (g + 1)) cs
    later = let e : channel_states * g + channel_states ≡ channel_states * (g + 1) = omega arith in drop-drop channel_states (channel_states * g) cs ∙ ap (λ i. drop i cs) e

    fours : take channel_states (drop (channel_states * g) cs) ≡ slice_range cs (channel_states * g) (channel_states * (g + 1))
    fours = let e : channel_states * (g + 1) - channel_states * g ≡ channel_states = omega arith in rw e refl

    pub number_of-next : number_of (drop g gs) (drop (channel_states * g) cs) ≡ number_of (drop (g + 1) gs) (drop (channel_states * (g + 1)) cs) * shares_of x.size + list_number (slice_range cs (channel_states * g) (channel_states * (g + 1)))
    unfolding number_of
    number_of-next = rw (← later, ← fours, add-one g, groups-next) refl

    pub together-here : IsCounts (drop g gs) (drop (channel_states * g) cs) → together (slice_range cs (channel_states * g) (channel_states * (g + 1))) ≡ x.size
    together-here v = rw (← fours) (IsCounts-first x (drop (suc g) gs) (drop (channel_states * g) cs) (rw groups-next at v))

    counts-next : IsCounts (drop g gs) (drop (channel_states * g) cs) → IsCounts (drop (g + 1) gs) (drop (channel_states * (g + 1)) cs)
    counts-next v = rw (← later, add-one g) (IsCounts-rest x (drop (suc g) gs) (drop (channel_states * g) cs) (rw groups-next at v))

-- the counts of the groups from one on
pub IsCounts-drop : (g : ℕ) (gs : List Group) (cs : List ℕ) → IsCounts gs cs → IsCounts (drop g gs) (drop (channel_states * g) cs)
IsCounts-drop zero gs cs v = v
IsCounts-drop (suc g) [] cs v = record { each = omega (arith, v.each, length-drop (channel_states * suc g) cs); sums = λ h d p. absurd (omega arith) }
IsCounts-drop (suc g) (x ∷ gs) cs v =
    let e : channel_states + channel_states * g ≡ channel_states * suc g = omega arith in
    rw (← e, ← drop-drop (channel_states * g) channel_states cs) (IsCounts-drop g gs (drop channel_states cs) (IsCounts-rest x gs cs v))

pub states_over-drop : (g : ℕ) (gs : List Group) → states_over (drop g gs) ≤ states_over gs
states_over-drop zero gs = omega arith
states_over-drop (suc g) [] = omega arith
states_over-drop (suc g) (x ∷ gs) = omega (arith, states_over-drop g gs, mul-le-mul_right (states_over gs) (shares-positive x.size))

pub number_of-end : (gs : List Group) (cs : List ℕ) → 0 ≡ number_of (drop (length gs) gs) cs
unfolding number_of
number_of-end gs cs = rw (drop-length gs) refl

-- a turn of the loop that makes a number
module _ (gs : List Group) (cs : List ℕ) (v : IsCounts gs cs) where
  pub number-below : (g number : ℕ) → number ≡ number_of (drop g gs) (drop (channel_states * g) cs) → number < states_over gs
  number-below g number e = omega (arith, e, number_of-small (drop g gs) (drop (channel_states * g) cs) (IsCounts-drop g gs cs v), states_over-drop g gs)

  module _ (g number w n : ℕ) (x d : Group) (some : 0 < g) (inside : g ≤ length gs) (here : x ≡ get_or gs (g - 1) d) (was : number ≡ number_of (drop g gs) (drop (channel_states * g) cs))
      (many : w ≡ shares_of x.size) (is : n ≡ list_number (slice_range cs (channel_states * (g - 1)) (channel_states * (g - 1 + 1)))) where
    pub number-turn : number * w + n ≡ number_of (drop (g - 1) gs) (drop (channel_states * (g - 1)) cs)
    number-turn =
        let e : g - 1 + 1 ≡ g = omega arith in
        rw (was, many, is, e) (sym (rw e at (number_of-next gs (g - 1) x d (omega arith) here cs)))

    pub number-fits : number * w + n < states_over gs
    number-fits = number-below (g - 1) (number * w + n) number-turn

-- a turn of the loop that writes a count vector
module _ (gs : List Group) (cs part all : List ℕ) (g rest w : ℕ) (x d : Group) (inside : g < length gs) (here : x ≡ get_or gs g d) (each : length cs ≡ channel_states * length gs)
    (many : w ≡ shares_of x.size) (is : part ≡ list_numbered (channel_states - 1) x.size (rest % w)) where
  pub counts-turn : take (channel_states * g) cs ++ counts_numbered (drop g gs) rest ≡ all → take (channel_states * (g + 1)) (put_mid (channel_states * g) (channel_states * (g + 1) - channel_states * g) cs part) ++ counts_numbered (drop (g + 1) gs) (rest / w) ≡ all
  unfolding counts_numbered
  counts-turn e =
      let four : length part ≡ channel_states = rw is (length-list_numbered (channel_states - 1) x.size (rest % w)) in
      let front = take-put_mid (channel_states * g) (channel_states * (g + 1) - channel_states * g) cs part (channel_states * (g + 1)) (omega (arith, four)) (omega (arith, each)) in
      rw (front, append_assoc, is, many, add-one g) (rw (groups-next gs g x d inside here) at e)

pub counts-end : (gs : List Group) (cs : List ℕ) (g rest : ℕ) → length gs ≤ g → length cs ≡ channel_states * length gs → take (channel_states * g) cs ++ counts_numbered (drop g gs) rest ≡ cs
unfolding counts_numbered
counts-end gs cs g rest h e = rw (drop_of_length-le gs h, append-nil, take_all (channel_states * g) cs (omega arith)) refl
