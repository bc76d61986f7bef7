-- The numbering of the count vectors of groups, and the count vector of a number, are each other's inverse.
use Rattle.std.proofs.Common.{◌≡◌, ℕ, zero, suc, ◌+◌, ◌-◌, ◌*◌, ◌/◌, ◌%◌, ◌<◌, ◌≤◌, List, [], ◌∷◌, ◌++◌, length, take, drop, get_or, refl, sym, ap, ◌∙◌, arith, length-append}
use Rattle.std.proofs.Math.Nat.{mul-le-mul_right, mul_comm}
use Rattle.std.proofs.lemmas.Nat.{div-mul-add, mod-mul-add, div-add-mod', div_below, mod_below}
use Rattle.std.proofs.lemmas.List.{get_or-drop, length-drop, take-append-drop}
use Rattle.sil_model.specs.Sizes.{channel_states, shares_of, states_over}
use Rattle.sil_model.specs.Counts.{IsCounts, count_in, place_of, together, list_number, list_numbered, lists_below, number_of, counts_numbered, counts_at_start}
use Rattle.sil_model.specs.declared.parts.Chan.{Chan}
use Rattle.sil_model.specs.declared.parts.Chan.TheVariants.{Work, Hidden, Deep, Repair}
use Rattle.sil_model.specs.declared.parts.Group.{Group}
use Rattle.count_laws.proofs.Closed.{shares}
use Rattle.count_laws.proofs.Lists.{below-positive, list_number-small, list_number-list_numbered, list_numbered-list_number, length-list_numbered, together-list_numbered}

-- one group's counts, and those of the others

pub count_in-drop : (cs : List ℕ) (g : ℕ) (k : Chan) → count_in (drop channel_states cs) g k ≡ count_in cs (suc g) k
count_in-drop cs g k =
    let e : channel_states + (channel_states * g + place_of k) ≡ channel_states * suc g + place_of k = omega arith in
    get_or-drop channel_states cs (channel_states * g + place_of k) 0 ∙ ap (λ i. get_or cs i 0) e

together-take : (cs : List ℕ) → channel_states ≤ length cs → together (take channel_states cs) ≡ get_or cs 0 0 + get_or cs 1 0 + get_or cs 2 0 + get_or cs 3 0
together-take (a ∷ b ∷ c ∷ d ∷ cs) h = omega arith
together-take (a ∷ b ∷ c ∷ []) h = absurd (omega arith)
together-take (a ∷ b ∷ []) h = absurd (omega arith)
together-take (a ∷ []) h = absurd (omega arith)
together-take [] h = absurd (omega arith)

length-take : (cs : List ℕ) → channel_states ≤ length cs → length (take channel_states cs) ≡ channel_states
length-take (a ∷ b ∷ c ∷ d ∷ cs) h = refl
length-take (a ∷ b ∷ c ∷ []) h = absurd (omega arith)
length-take (a ∷ b ∷ []) h = absurd (omega arith)
length-take (a ∷ []) h = absurd (omega arith)
length-take [] h = absurd (omega arith)

module _ (g : Group) (gs : List Group) (cs : List ℕ) where
  pub IsCounts-some : IsCounts (g ∷ gs) cs → channel_states ≤ length cs
  IsCounts-some v = omega (arith, v.each)

  pub IsCounts-first : IsCounts (g ∷ gs) cs → together (take channel_states cs) ≡ g.size
  IsCounts-first v = together-take cs (IsCounts-some v) ∙ v.sums 0 g (omega arith)

  pub IsCounts-rest : IsCounts (g ∷ gs) cs → IsCounts gs (drop channel_states cs)
  IsCounts-rest v = record {
    each = omega (arith, length-drop channel_states cs, v.each);
    sums = λ h d p. rw (count_in-drop cs h Work, count_in-drop cs h Hidden, count_in-drop cs h Deep, count_in-drop cs h Repair) (v.sums (suc h) d (omega arith));
  }

  pub IsCounts-cons : channel_states ≤ length cs → together (take channel_states cs) ≡ g.size → IsCounts gs (drop channel_states cs) → IsCounts (g ∷ gs) cs
  IsCounts-cons some first rest = record { each = omega (arith, length-drop channel_states cs, rest.each); sums = sums }
    where
      sums : (h : ℕ) (d : Group) → h < length (g ∷ gs) → count_in cs h Work + count_in cs h Hidden + count_in cs h Deep + count_in cs h Repair ≡ (get_or (g ∷ gs) h d).size
      sums zero d p = sym (together-take cs some) ∙ first
      sums (suc h) d p = rw (← count_in-drop cs h Work, ← count_in-drop cs h Hidden, ← count_in-drop cs h Deep, ← count_in-drop cs h Repair) (rest.sums h d (omega arith))

-- four counts in front
four-append : (xs ys : List ℕ) → length xs ≡ channel_states → (take channel_states (xs ++ ys) ≡ xs) × (drop channel_states (xs ++ ys) ≡ ys)
four-append (a ∷ b ∷ c ∷ d ∷ []) ys h = (refl, refl)
four-append (a ∷ b ∷ c ∷ d ∷ e ∷ xs) ys h = absurd (omega arith)
four-append (a ∷ b ∷ c ∷ []) ys h = absurd (omega arith)
four-append (a ∷ b ∷ []) ys h = absurd (omega arith)
four-append (a ∷ []) ys h = absurd (omega arith)
four-append [] ys h = absurd (omega arith)

-- the number of one group's counts

list_number-shares : (cs : List ℕ) (n : ℕ) → length cs ≡ channel_states → together cs ≡ n → list_number cs < shares_of n
list_number-shares [] n h e = absurd (omega arith)
list_number-shares (a ∷ cs) n h e =
    let three : length cs ≡ 3 = omega arith in
    let small = rw (three, e) at (list_number-small a cs) in
    rw (shares n) small

list_numbered-shares : (cs : List ℕ) (n : ℕ) → length cs ≡ channel_states → together cs ≡ n → list_numbered (channel_states - 1) n (list_number cs) ≡ cs
list_numbered-shares [] n h e = absurd (omega arith)
list_numbered-shares (a ∷ cs) n h e = rw (← e) (list_numbered-list_number 3 a cs (omega arith))

below-shares : (j n : ℕ) → j < shares_of n → j < lists_below 3 (suc n)
below-shares j n h = rw (shares n) at h

pub shares-positive : (n : ℕ) → 0 < shares_of n
shares-positive n = rw (shares n) (below-positive 3 n)

pub states-positive : (gs : List Group) → 0 < states_over gs
states-positive [] = omega arith
states-positive (g ∷ gs) = omega (arith, mul-le-mul_right (states_over gs) (shares-positive g.size), states-positive gs)

digit-small : (a b m w : ℕ) → a < m → b < w → a * w + b < w * m
digit-small a b m w h k = omega (arith, mul-le-mul_right w h)

-- a number is below the number of states
pub number_of-small : (gs : List Group) (cs : List ℕ) → IsCounts gs cs → number_of gs cs < states_over gs
unfolding number_of
number_of-small [] cs v = omega arith
number_of-small (g ∷ gs) cs v =
    let four = length-take cs (IsCounts-some g gs cs v) in
    digit-small (number_of gs (drop channel_states cs)) (list_number (take channel_states cs)) (states_over gs) (shares_of g.size)
    (number_of-small gs (drop channel_states cs) (IsCounts-rest g gs cs v)) (list_number-shares (take channel_states cs) g.size four (IsCounts-first g gs cs v))

-- the count vector of its number
pub counts_numbered-number_of : (gs : List Group) (cs : List ℕ) → IsCounts gs cs → counts_numbered gs (number_of gs cs) ≡ cs
unfolding number_of counts_numbered
counts_numbered-number_of [] [] v = refl
counts_numbered-number_of [] (c ∷ cs) v = absurd (omega (arith, v.each))
counts_numbered-number_of (g ∷ gs) cs v =
    let four = length-take cs (IsCounts-some g gs cs v) in
    let small = list_number-shares (take channel_states cs) g.size four (IsCounts-first g gs cs v) in
    rw (
      mod-mul-add (number_of gs (drop channel_states cs)) (shares_of g.size) (list_number (take channel_states cs)) small,
      div-mul-add (number_of gs (drop channel_states cs)) (shares_of g.size) (list_number (take channel_states cs)) small,
      list_numbered-shares (take channel_states cs) g.size four (IsCounts-first g gs cs v),
      counts_numbered-number_of gs (drop channel_states cs) (IsCounts-rest g gs cs v),
    ) (take-append-drop channel_states cs)

-- each number has a count vector
pub counts_numbered-valid : (gs : List Group) (i : ℕ) → IsCounts gs (counts_numbered gs i)
unfolding counts_numbered
counts_numbered-valid [] i = record { each = refl; sums = λ g d h. absurd (omega arith) }
counts_numbered-valid (g ∷ gs) i =
    let first : List ℕ = list_numbered (channel_states - 1) g.size (i % shares_of g.size) in
    let rest : List ℕ = counts_numbered gs (i / shares_of g.size) in
    let four : length first ≡ channel_states = length-list_numbered (channel_states - 1) g.size (i % shares_of g.size) in
    let e = four-append first rest four in
    IsCounts-cons g gs (first ++ rest) (omega (arith, length-append first rest, four))
    (ap together e.0 ∙ together-list_numbered (channel_states - 1) g.size (i % shares_of g.size))
    (rw e.1 (counts_numbered-valid gs (i / shares_of g.size)))

-- the number of its count vector
pub number_of-counts_numbered : (gs : List Group) (i : ℕ) → i < states_over gs → number_of gs (counts_numbered gs i) ≡ i
unfolding number_of counts_numbered
number_of-counts_numbered [] i h = omega arith
number_of-counts_numbered (g ∷ gs) i h =
    let some : 0 < shares_of g.size = shares-positive g.size in
    let four : length (list_numbered (channel_states - 1) g.size (i % shares_of g.size)) ≡ channel_states = length-list_numbered (channel_states - 1) g.size (i % shares_of g.size) in
    let e = four-append (list_numbered (channel_states - 1) g.size (i % shares_of g.size)) (counts_numbered gs (i / shares_of g.size)) four in
    let high : i / shares_of g.size < states_over gs = div_below i (shares_of g.size) (states_over gs) some (rw (mul_comm (states_over gs) (shares_of g.size)) h) in
    let low = below-shares (i % shares_of g.size) g.size (mod_below i (shares_of g.size) some) in
    rw (e.0, e.1, number_of-counts_numbered gs (i / shares_of g.size) high, list_number-list_numbered (channel_states - 1) g.size (i % shares_of g.size) low)
    (div-add-mod' i (shares_of g.size))

-- the first state

pub number_of-start : (gs : List Group) → number_of gs (counts_at_start gs) ≡ 0
unfolding number_of counts_at_start list_number lists_below
number_of-start [] = refl
number_of-start (g ∷ gs) = rw (number_of-start gs) (omega arith)

pub start-valid : (gs : List Group) → IsCounts gs (counts_at_start gs)
unfolding counts_at_start
start-valid [] = record { each = refl; sums = λ g d h. absurd (omega arith) }
start-valid (g ∷ gs) = IsCounts-cons g gs (g.size ∷ 0 ∷ 0 ∷ 0 ∷ counts_at_start gs) (omega arith) (omega arith) (start-valid gs)

pub counts_numbered-start : (gs : List Group) → counts_numbered gs 0 ≡ counts_at_start gs
counts_numbered-start gs = rw (number_of-start gs) at (counts_numbered-number_of gs (counts_at_start gs) (start-valid gs))
