-- What the moves of channels do to the counts of a full state.
use Rattle.std.proofs.Common.{◌≡◌, ℕ, zero, suc, ◌+◌, ◌-◌, ◌*◌, ◌<◌, List, [], ◌∷◌, ◌++◌, length, refl, sym, ap, ◌∙◌, arith}
use Rattle.std.specs.Prelude.{Bool, true, false, not, ◌&&◌, cond, take, drop, map, nat_lt}
use Rattle.sil_fraction.specs.Fraction.{Fraction, ◌+ℚ◌, ◌*ℚ◌, whole}
use Rattle.sil_fraction.specs.Sum.{total_below}
use Rattle.sil_fraction.proofs.Laws.{zero-mul, one-mul, whole-add}
use Rattle.sil_fraction.proofs.Sums.{add-mul, below-same}
use Rattle.sil_model.specs.State.{FullState, is_same_state, is_same_chan, count_of}
use Rattle.sil_model.specs.Events.{Failure, Kind, failed, source, target, move_one, move_all, move_first, moved}
use Rattle.sil_model.specs.Events.Failure.{Undetected, Uncovered, Detected}
use Rattle.sil_model.specs.Events.Kind.{Fails, Returns}
use Rattle.sil_model.specs.Sizes.{channel_states}
use Rattle.sil_model.specs.Counts.{place_of, count_in, with_count, moved_in}
use Rattle.sil_model.specs.declared.parts.Chan.{Chan}
use Rattle.sil_model.specs.declared.parts.Chan.TheVariants.{Work, Hidden, Deep, Repair}
use Rattle.sil_model.specs.declared.parts.Group.{Group}
use Rattle.count_laws.specs.CountsOf.{tally_of, counts_of}
use Rattle.channel_counts.specs.GroupSums.{sum_in, moved_together}
use Rattle.channel_counts.proofs.Channels.{one_where, standing, counted, take_moved, drop_before, take_after, drop_after, standing_take, standing_drop, count_take, take_first, drop_first, take_later, drop_later, leaves_later, leaves_first, count_moved, same_self, and_true}

-- the channels of some groups together
abbrev pub channels_in : List Group → ℕ
channels_in [] = 0
channels_in (x ∷ xs) = x.size + channels_in xs

-- the groups gs from the number g on are rest, and the first channel of these has the number a
pub data At : List Group → ℕ → ℕ → List Group → Type 0 where
  here : {rest : List Group} → At rest 0 0 rest
  there : {gs rest : List Group} {x : Group} {g a b : ℕ} → At gs g a rest → b ≡ x.size + a → At (x ∷ gs) (suc g) b rest

pub next : {gs rest : List Group} {x : Group} {g a b : ℕ} → At gs g a (x ∷ rest) → b ≡ a + x.size → At gs (suc g) b rest
next here e = there here (omega arith)
next (there r h) e = there (next r refl) (omega arith)

pub advance : {gs : List Group} (xs rest : List Group) {g a : ℕ} → At gs g a (xs ++ rest) → At gs (g + length xs) (a + channels_in xs) rest
advance [] rest {g = g} {a = a} p = let d : g + 0 ≡ g = omega arith in let e : a + 0 ≡ a = omega arith in rw (d, e) p
advance (x ∷ xs) rest {g = g} {a = a} p =
    let d : g + suc (length xs) ≡ suc g + length xs = omega arith in
    let e : a + (x.size + channels_in xs) ≡ (a + x.size) + channels_in xs = omega arith in
    rw (d, e) (advance xs rest (next p refl))

-- the counts of the groups after the first one
module _ (a b c d : ℕ) (cs : List ℕ) where
  place_next : (g : ℕ) (k : Chan) → channel_states * suc g + place_of k ≡ suc (suc (suc (suc (channel_states * g + place_of k))))
  place_next g k = omega arith

  pub count_in-next : (g : ℕ) (k : Chan) → count_in (a ∷ b ∷ c ∷ d ∷ cs) (suc g) k ≡ count_in cs g k
  count_in-next g k = rw (place_next g k) refl

  pub with_count-next : (g : ℕ) (k : Chan) (v : ℕ) → with_count (a ∷ b ∷ c ∷ d ∷ cs) (suc g) k v ≡ a ∷ b ∷ c ∷ d ∷ with_count cs g k v
  with_count-next g k v = rw (place_next g k) refl

pub moved_in-next : (a b c d : ℕ) (cs : List ℕ) (g : ℕ) (from to : Chan) (n : ℕ) → moved_in (a ∷ b ∷ c ∷ d ∷ cs) (suc g) from to n
    ≡ a ∷ b ∷ c ∷ d ∷ moved_in cs g from to n
moved_in-next a b c d cs g from to n =
    let left : List ℕ = with_count cs g from (count_in cs g from - n) in
    let e : with_count (a ∷ b ∷ c ∷ d ∷ cs) (suc g) from (count_in (a ∷ b ∷ c ∷ d ∷ cs) (suc g) from - n) ≡ a ∷ b ∷ c ∷ d ∷ left =
    rw (count_in-next a b c d cs g from) (with_count-next a b c d cs g from (count_in cs g from - n)) in
    ap (λ xs. with_count xs (suc g) to (count_in xs (suc g) to + n)) e
    ∙ rw (count_in-next a b c d left g to) (with_count-next a b c d left g to (count_in left g to + n))

pub together-next : (a b c d n : ℕ) (cs : List ℕ) (g : ℕ) (to : Chan) → moved_together (suc g) n to (a ∷ b ∷ c ∷ d ∷ cs)
    ≡ a ∷ b ∷ c ∷ d ∷ moved_together g n to cs
together-next a b c d zero cs g to = refl
together-next a b c d (suc n) cs g to =
    let w : ℕ = count_in cs g Work in
    let e : moved_in (a ∷ b ∷ c ∷ d ∷ cs) (suc g) Work to (count_in (a ∷ b ∷ c ∷ d ∷ cs) (suc g) Work) ≡ a ∷ b ∷ c ∷ d ∷ moved_in cs g Work to w =
    ap (moved_in (a ∷ b ∷ c ∷ d ∷ cs) (suc g) Work to) (count_in-next a b c d cs g Work) ∙ moved_in-next a b c d cs g Work to w in
    ap (moved_together (suc (suc g)) n to) e ∙ together-next a b c d n (moved_in cs g Work to w) (suc g) to

sum_in-next : (a b c d : ℕ) (cs : List ℕ) (g n : ℕ) (k : Chan) → sum_in (a ∷ b ∷ c ∷ d ∷ cs) (suc g) n k ≡ sum_in cs g n k
sum_in-next a b c d cs g zero k = refl
sum_in-next a b c d cs g (suc n) k = omega (arith, count_in-next a b c d cs g k, sum_in-next a b c d cs (suc g) n k)

pub sum_in-last : (cs : List ℕ) (g n : ℕ) (k : Chan) → sum_in cs g (suc n) k ≡ sum_in cs g n k + count_in cs (g + n) k
sum_in-last cs g zero k = let e : g + 0 ≡ g = omega arith in rw e (omega arith)
sum_in-last cs g (suc n) k = let e : g + suc n ≡ suc g + n = omega arith in rw e (omega (arith, sum_in-last cs (suc g) n k))

-- the counts of the first group
count_in-tally : (t : FullState) (r : List ℕ) (k : Chan) → count_in (tally_of t ++ r) 0 k ≡ count_of k t
count_in-tally t r Work = refl
count_in-tally t r Hidden = refl
count_in-tally t r Deep = refl
count_in-tally t r Repair = refl

four : {a b c d e f g h : ℕ} {r : List ℕ} → a ≡ e → b ≡ f → c ≡ g → d ≡ h → (a ∷ b ∷ c ∷ d ∷ r) ≡ (e ∷ f ∷ g ∷ h ∷ r)
four p q s t = cc

-- one of its channels goes
tally_one : (k : Kind) (i : ℕ) (t : FullState) (r : List ℕ) → standing i (source k) t ≡ true
    → tally_of (move_one i (source k) (target k) t) ++ r ≡ moved_in (tally_of t ++ r) 0 (source k) (target k) 1
tally_one (Fails Undetected) i t r h = four (omega (arith, counted Work i Work Hidden t h)) (omega (arith, counted Hidden i Work Hidden t h))
    (omega (arith, counted Deep i Work Hidden t h)) (omega (arith, counted Repair i Work Hidden t h))
tally_one (Fails Uncovered) i t r h = four (omega (arith, counted Work i Work Deep t h)) (omega (arith, counted Hidden i Work Deep t h))
    (omega (arith, counted Deep i Work Deep t h)) (omega (arith, counted Repair i Work Deep t h))
tally_one (Fails Detected) i t r h = four (omega (arith, counted Work i Work Repair t h)) (omega (arith, counted Hidden i Work Repair t h))
    (omega (arith, counted Deep i Work Repair t h)) (omega (arith, counted Repair i Work Repair t h))
tally_one Returns i t r h = four (omega (arith, counted Work i Repair Work t h)) (omega (arith, counted Hidden i Repair Work t h))
    (omega (arith, counted Deep i Repair Work t h)) (omega (arith, counted Repair i Repair Work t h))

-- all that work go
tally_all : (f : Failure) (t : FullState) (r : List ℕ) → tally_of (map (moved Work (failed f)) t) ++ r
    ≡ moved_in (tally_of t ++ r) 0 Work (failed f) (count_of Work t)
tally_all Undetected t r = four (omega (arith, count_moved Work Undetected t)) (omega (arith, count_moved Hidden Undetected t))
    (omega (arith, count_moved Deep Undetected t)) (omega (arith, count_moved Repair Undetected t))
tally_all Uncovered t r = four (omega (arith, count_moved Work Uncovered t)) (omega (arith, count_moved Hidden Uncovered t))
    (omega (arith, count_moved Deep Uncovered t)) (omega (arith, count_moved Repair Uncovered t))
tally_all Detected t r = four (omega (arith, count_moved Work Detected t)) (omega (arith, count_moved Hidden Detected t))
    (omega (arith, count_moved Deep Detected t)) (omega (arith, count_moved Repair Detected t))

-- the counts after the move of a channel of the group g
pub one_counted : {gs rest : List Group} {x : Group} {g a : ℕ} → At gs g a (x ∷ rest) → (j b : ℕ) → j < x.size → b ≡ a + j
    → (k : Kind) (s : FullState) → standing b (source k) s ≡ true
    → counts_of gs (move_one b (source k) (target k) s) ≡ moved_in (counts_of gs s) g (source k) (target k) 1
one_counted {rest = rest} {x = x} here j b p e k s t =
    let q : b < x.size = omega arith in
    let u : standing b (source k) (take x.size s) ≡ true = standing_take x.size b (source k) s q ∙ t in
    rw (take_moved (source k) (target k) x.size b s, drop_before (source k) (target k) x.size b s q)
    (tally_one k b (take x.size s) (counts_of rest (drop x.size s)) u)
one_counted (there {gs = gs} {x = y} {g = g} {a = a} r d) j b p e k s t =
    let q : b ≡ y.size + (a + j) = omega arith in
    rw (take_after (source k) (target k) y.size (a + j) b s q, drop_after (source k) (target k) y.size (a + j) b s q)
    (ap (λ cs. tally_of (take y.size s) ++ cs) (one_counted r j (a + j) p refl k (drop y.size s) (sym (standing_drop y.size (a + j) b (source k) s q) ∙ t))
    ∙ sym (moved_in-next _ _ _ _ (counts_of gs (drop y.size s)) g (source k) (target k) 1))

-- as many terms as channels of the group stand in a state
module _ (k : Chan) (t : Fraction) where
  stand_total : (n : ℕ) (s : FullState) → total_below n (λ j. cond (standing j k s) t (whole 0)) ≡ whole (count_of k (take n s)) *ℚ t
  stand_total zero s = sym (zero-mul t)
  stand_total (suc n) s = rw (stand_total n s, count_take n k s, whole-add, add-mul)
      (ap (λ y. whole (count_of k (take n s)) *ℚ t +ℚ y) (elim (standing n k s) as (λ b. cond b t (whole 0) ≡ whole (one_where b) *ℚ t)
      [ true ↦ sym (one-mul t) | false ↦ sym (zero-mul t) ]))

  pub group_total : {gs rest : List Group} {x : Group} {g a : ℕ} → At gs g a (x ∷ rest) → (s : FullState)
      → total_below x.size (λ j. cond (standing (a + j) k s) t (whole 0)) ≡ whole (count_in (counts_of gs s) g k) *ℚ t
  group_total {rest = rest} {x = x} here s =
      rw (count_in-tally (take x.size s) (counts_of rest (drop x.size s)) k) (below-same x.size _ _ (λ j h. let e : 0 + j ≡ j = omega arith in
      rw e refl) ∙ stand_total x.size s)
  group_total {x = x} {a = b} (there {gs = gs} {x = y} {g = g} {a = a} r d) s =
      rw (count_in-next _ _ _ _ (counts_of gs (drop y.size s)) g k)
      (below-same x.size _ _ (λ j h. let e : b + j ≡ y.size + (a + j) = omega arith in
      ap (λ v. cond v t (whole 0)) (standing_drop y.size (a + j) (b + j) k s e)) ∙ group_total r (drop y.size s))

-- the counts after the move of all channels of some groups
module _ (f : Failure) (rest : List Group) where
  first_counted : (xs : List Group) (s : FullState) → counts_of (xs ++ rest) (move_first (channels_in xs) (failed f) s)
      ≡ moved_together 0 (length xs) (failed f) (counts_of (xs ++ rest) s)
  first_counted [] s = refl
  first_counted (x ∷ xs) s =
      let r : List ℕ = counts_of (xs ++ rest) (drop x.size s) in
      let t : FullState = map (moved Work (failed f)) (take x.size s) in
      rw (
        take_first (failed f) x.size (channels_in xs) (x.size + channels_in xs) s refl,
        drop_first (failed f) x.size (channels_in xs)
            (x.size + channels_in xs) s refl,
        count_in-tally (take x.size s) r Work,
      )
      (ap (λ cs. tally_of t ++ cs) (first_counted xs (drop x.size s))
      ∙ sym (together-next _ _ _ _ (length xs) r 0 (failed f))
      ∙ ap (moved_together 1 (length xs) (failed f)) (tally_all f (take x.size s) r))

  pub all_counted : {gs ys : List Group} {g a : ℕ} (xs : List Group) → At gs g a ys → ys ≡ xs ++ rest → (s : FullState)
      → counts_of gs (move_all a (channels_in xs) (failed f) s) ≡ moved_together g (length xs) (failed f) (counts_of gs s)
  all_counted xs here e s = rw e (first_counted xs s)
  all_counted xs (there {gs = gs} {x = y} {g = g} {a = a} {b = b} r d) e s =
      rw (take_later (failed f) y.size a b (channels_in xs) s d, drop_later (failed f) y.size a b (channels_in xs) s d)
      (ap (λ cs. tally_of (take y.size s) ++ cs) (all_counted xs r e (drop y.size s))
      ∙ sym (together-next _ _ _ _ (length xs) (counts_of gs (drop y.size s)) g (failed f)))

-- sums over groups count their channels
count_split : (m n : ℕ) (k : Chan) (s : FullState) → count_of k (take m s) + count_of k (take n (drop m s)) ≡ count_of k (take (m + n) s)
count_split zero n k s = let e : 0 + n ≡ n = omega arith in rw e (omega arith)
count_split (suc m) n k [] = let e : suc m + n ≡ suc (m + n) = omega arith in rw e (go n)
  where
    go : (n : ℕ) → 0 + count_of k (take n []) ≡ 0
    go zero = omega arith
    go (suc n) = omega arith
count_split (suc m) n k (c ∷ s) = let e : suc m + n ≡ suc (m + n) = omega arith in rw e (omega (arith, count_split m n k s))

pub drop_drop : {A : Type 0} (m n b : ℕ) (s : List A) → b ≡ m + n → drop n (drop m s) ≡ drop b s
drop_drop zero n b s e = let h : b ≡ n = omega arith in rw h refl
drop_drop (suc m) n zero s e = absurd (omega arith)
drop_drop (suc m) zero (suc b) [] e = refl
drop_drop (suc m) (suc n) (suc b) [] e = refl
drop_drop (suc m) n (suc b) (c ∷ s) e = drop_drop m n b s (omega arith)

first_summed : (k : Chan) (xs rest : List Group) (s : FullState) → sum_in (counts_of (xs ++ rest) s) 0 (length xs) k ≡ count_of k (take (channels_in xs) s)
first_summed k [] rest s = refl
first_summed k (x ∷ xs) rest s =
    omega (
      arith,
      count_in-tally (take x.size s) (counts_of (xs ++ rest) (drop x.size s)) k,
      sum_in-next (count_of Work (take x.size s)) (count_of Hidden (take x.size s)) (count_of Deep (take x.size s)) (count_of Repair (take x.size s))
          (counts_of (xs ++ rest) (drop x.size s)) 0 (length xs) k,
      first_summed k xs rest (drop x.size s),
      count_split x.size (channels_in xs) k s,
    )

pub summed : {gs ys : List Group} {g a : ℕ} (k : Chan) (xs rest : List Group) → At gs g a ys → ys ≡ xs ++ rest → (s : FullState)
    → sum_in (counts_of gs s) g (length xs) k ≡ count_of k (take (channels_in xs) (drop a s))
summed k xs rest here e s = rw e (first_summed k xs rest s)
summed k xs rest (there {gs = gs} {x = y} {g = g} {a = a} {b = b} r d) e s =
    sum_in-next _ _ _ _ (counts_of gs (drop y.size s)) g (length xs) k ∙ summed k xs rest r e (drop y.size s)
    ∙ ap (λ t. count_of k (take (channels_in xs) t)) (drop_drop y.size a b s d)

-- the move of all leaves the state exactly where none of them works
module _ (to : Chan) (apart : is_same_chan Work to ≡ false) where
  pub all_leaves : (a m : ℕ) (s : FullState) → is_same_state (move_all a m to s) s ≡ not (nat_lt 0 (count_of Work (take m (drop a s))))
  all_leaves a m s = leaves_later to a 0 a m s (omega arith) ∙ leaves_first to apart m 0 m (drop a s) (omega arith)
      ∙ rest (nat_lt 0 (count_of Work (take m (drop a s)))) (drop m (drop a s))
    where
      rest : (b : Bool) (t : FullState) → (not b && is_same_state (move_first 0 to t) t) ≡ not b
      rest b t = rw (same_self t) (and_true (not b))
