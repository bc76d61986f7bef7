-- One channel among many: where it stands, and what its move changes.
use Rattle.std.proofs.Common.{◌≡◌, ℕ, zero, suc, ◌+◌, ◌<◌, [], ◌∷◌, refl, ap, arith}
use Rattle.std.specs.Prelude.{Bool, true, false, not, ◌&&◌, cond, if◌then◌else◌, take, drop, map}
use Rattle.std.proofs.Math.Dec.{ltb}
use Rattle.std.proofs.lemmas.Bool.{lt-ltb}
use Rattle.std.proofs.Math.Nat.{zero-add}
use Rattle.sil_model.specs.State.{FullState, is_same_state, is_same_chan, count_of}
use Rattle.sil_model.specs.Events.{move_one, move_first, move_all, moved, Failure, failed}
use Rattle.sil_model.specs.Events.Failure.{Undetected, Uncovered, Detected}
use Rattle.sil_model.specs.declared.parts.Chan.{Chan}
use Rattle.sil_model.specs.declared.parts.Chan.TheVariants.{Work, Hidden, Deep, Repair}

abbrev pub one_where : Bool → ℕ
one_where b = if b then 1 else 0

-- all of these channels that work go to a state
abbrev pub group_moved : Chan → (Chan → ℕ) → Chan → ℕ
group_moved to c k = if is_same_chan k Work then 0 else if is_same_chan k to then c k + c Work else c k

-- whether the channel of the number i is in a state
abbrev pub standing : ℕ → Chan → FullState → Bool
standing i k [] = false
standing zero k (c ∷ s) = is_same_chan k c
standing (suc i) k (c ∷ s) = standing i k s

pub same_is : (a b : Chan) → is_same_chan a b ≡ true → a ≡ b
same_is Work Work h = refl
same_is Hidden Hidden h = refl
same_is Deep Deep h = refl
same_is Repair Repair h = refl
same_is a b h = cc

chan_self : (c : Chan) → is_same_chan c c ≡ true
chan_self Work = refl
chan_self c = refl

chan_sym : (a b : Chan) → is_same_chan a b ≡ is_same_chan b a
chan_sym Work Work = refl
chan_sym Hidden Hidden = refl
chan_sym Deep Deep = refl
chan_sym Repair Repair = refl
chan_sym a b = refl

chan_moved : (from to c : Chan) → is_same_chan from to ≡ false → is_same_chan (moved from to c) c ≡ not (is_same_chan from c)
chan_moved from to c h = go (is_same_chan from c) refl
  where
    go : (b : Bool) → is_same_chan from c ≡ b → is_same_chan (cond b to c) c ≡ not b
    go true e = rw (← same_is from c e, chan_sym to from) h
    go false e = chan_self c

pub same_self : (s : FullState) → is_same_state s s ≡ true
unfolding is_same_state
same_self [] = refl
same_self (Work ∷ s) = same_self s
same_self (Hidden ∷ s) = same_self s
same_self (Deep ∷ s) = same_self s
same_self (Repair ∷ s) = same_self s

pub and_true : (b : Bool) → (b && true) ≡ b
and_true true = refl
and_true false = refl

-- the move of one channel leaves the state exactly where the channel does not stand there
pub leaves : (i : ℕ) (from to : Chan) (s : FullState) → is_same_chan from to ≡ false → is_same_state (move_one i from to s) s ≡ not (standing i from s)
unfolding is_same_state
leaves zero from to [] h = refl
leaves (suc i) from to [] h = refl
leaves zero from to (c ∷ s) h = rw (same_self s, and_true, chan_moved from to c h) refl
leaves (suc i) from to (c ∷ s) h = rw (chan_self c) (leaves i from to s h)

-- what it does to the counts
chan_count : (k from to c : Chan) → is_same_chan from c ≡ true → one_where (is_same_chan k (moved from to c)) + one_where (is_same_chan k from)
    ≡ one_where (is_same_chan k c) + one_where (is_same_chan k to)
chan_count k from to c g = rw g (omega (arith, ap (λ z. one_where (is_same_chan k z)) (same_is from c g)))

pub counted : (k : Chan) (i : ℕ) (from to : Chan) (s : FullState) → standing i from s ≡ true
    → count_of k (move_one i from to s) + one_where (is_same_chan k from) ≡ count_of k s + one_where (is_same_chan k to)
counted k zero from to [] g = cc
counted k (suc i) from to [] g = cc
counted k zero from to (c ∷ s) g = omega (arith, chan_count k from to c g)
counted k (suc i) from to (c ∷ s) g = omega (arith, counted k i from to s g)

-- the front and the rest of a state
module _ (from to : Chan) where
  pub take_moved : (n i : ℕ) (s : FullState) → take n (move_one i from to s) ≡ move_one i from to (take n s)
  take_moved zero i s = refl
  take_moved (suc n) i [] = refl
  take_moved (suc n) zero (c ∷ s) = refl
  take_moved (suc n) (suc i) (c ∷ s) = ap (λ t. c ∷ t) (take_moved n i s)

  pub drop_before : (n i : ℕ) (s : FullState) → i < n → drop n (move_one i from to s) ≡ drop n s
  drop_before zero i s h = absurd (omega arith)
  drop_before (suc n) i [] h = refl
  drop_before (suc n) zero (c ∷ s) h = refl
  drop_before (suc n) (suc i) (c ∷ s) h = drop_before n i s (omega arith)

  pub take_after : (n i b : ℕ) (s : FullState) → b ≡ n + i → take n (move_one b from to s) ≡ take n s
  take_after zero i b s e = refl
  take_after (suc n) i b [] e = refl
  take_after (suc n) i zero (c ∷ s) e = absurd (omega arith)
  take_after (suc n) i (suc b) (c ∷ s) e = ap (λ t. c ∷ t) (take_after n i b s (omega arith))

  pub drop_after : (n i b : ℕ) (s : FullState) → b ≡ n + i → drop n (move_one b from to s) ≡ move_one i from to (drop n s)
  drop_after zero i b s e = let g : b ≡ i = omega arith in rw g refl
  drop_after (suc n) i b [] e = refl
  drop_after (suc n) i zero (c ∷ s) e = absurd (omega arith)
  drop_after (suc n) i (suc b) (c ∷ s) e = drop_after n i b s (omega arith)

pub standing_take : (n i : ℕ) (k : Chan) (s : FullState) → i < n → standing i k (take n s) ≡ standing i k s
standing_take zero i k s h = absurd (omega arith)
standing_take (suc n) i k [] h = refl
standing_take (suc n) zero k (c ∷ s) h = refl
standing_take (suc n) (suc i) k (c ∷ s) h = standing_take n i k s (omega arith)

pub standing_drop : (n i b : ℕ) (k : Chan) (s : FullState) → b ≡ n + i → standing b k s ≡ standing i k (drop n s)
standing_drop zero i b k s e = let g : b ≡ i = omega arith in rw g refl
standing_drop (suc n) i b k [] e = refl
standing_drop (suc n) i zero k (c ∷ s) e = absurd (omega arith)
standing_drop (suc n) i (suc b) k (c ∷ s) e = standing_drop n i b k s (omega arith)

pub count_take : (n : ℕ) (k : Chan) (s : FullState) → count_of k (take (suc n) s) ≡ count_of k (take n s) + one_where (standing n k s)
count_take zero k [] = omega arith
count_take (suc n) k [] = omega arith
count_take zero k (c ∷ s) = omega arith
count_take (suc n) k (c ∷ s) = omega (arith, count_take n k s)

-- the first n channels at once
module _ (to : Chan) where
  pub take_first : (m n q : ℕ) (s : FullState) → q ≡ m + n → take m (move_first q to s) ≡ map (moved Work to) (take m s)
  take_first zero n q s e = refl
  take_first (suc m) n zero s e = absurd (omega arith)
  take_first (suc m) n (suc q) [] e = refl
  take_first (suc m) n (suc q) (c ∷ s) e = ap (λ t. moved Work to c ∷ t) (take_first m n q s (omega arith))

  pub drop_first : (m n q : ℕ) (s : FullState) → q ≡ m + n → drop m (move_first q to s) ≡ move_first n to (drop m s)
  drop_first zero n q s e = let g : q ≡ n = omega arith in rw g refl
  drop_first (suc m) n zero s e = absurd (omega arith)
  drop_first (suc m) zero (suc q) [] e = refl
  drop_first (suc m) (suc n) (suc q) [] e = refl
  drop_first (suc m) n (suc q) (c ∷ s) e = drop_first m n q s (omega arith)

  pub take_later : (n i b m : ℕ) (s : FullState) → b ≡ n + i → take n (move_all b m to s) ≡ take n s
  take_later zero i b m s e = refl
  take_later (suc n) i zero m s e = absurd (omega arith)
  take_later (suc n) i (suc b) m [] e = refl
  take_later (suc n) i (suc b) m (c ∷ s) e = ap (λ t. c ∷ t) (take_later n i b m s (omega arith))

  pub drop_later : (n i b m : ℕ) (s : FullState) → b ≡ n + i → drop n (move_all b m to s) ≡ move_all i m to (drop n s)
  drop_later zero i b m s e = let g : b ≡ i = omega arith in rw g refl
  drop_later (suc n) i zero m s e = absurd (omega arith)
  drop_later (suc n) zero (suc b) zero [] e = refl
  drop_later (suc n) zero (suc b) (suc m) [] e = refl
  drop_later (suc n) (suc i) (suc b) m [] e = refl
  drop_later (suc n) i (suc b) m (c ∷ s) e = drop_later n i b m s (omega arith)

  pub leaves_later : (n i b m : ℕ) (s : FullState) → b ≡ n + i → is_same_state (move_all b m to s) s ≡ is_same_state (move_all i m to (drop n s)) (drop n s)
  unfolding is_same_state
  leaves_later zero i b m s e = let g : b ≡ i = omega arith in rw g refl
  leaves_later (suc n) i zero m s e = absurd (omega arith)
  leaves_later (suc n) zero (suc b) zero [] e = refl
  leaves_later (suc n) zero (suc b) (suc m) [] e = refl
  leaves_later (suc n) (suc i) (suc b) m [] e = refl
  leaves_later (suc n) i (suc b) m (c ∷ s) e = rw (chan_self c) (leaves_later n i b m s (omega arith))

  module _ (apart : is_same_chan Work to ≡ false) where
    some_more : (b r : Bool) (x : ℕ) → (not b && (not (ltb 0 x) && r)) ≡ (not (ltb 0 (one_where b + x)) && r)
    some_more true r x = rw (lt-ltb 0 (1 + x) (omega arith)) refl
    some_more false r x = rw zero-add refl

    -- the first m leave the state exactly where none of them works
    pub leaves_first : (m n q : ℕ) (s : FullState) → q ≡ m + n → is_same_state (move_first q to s) s
        ≡ (not (ltb 0 (count_of Work (take m s))) && is_same_state (move_first n to (drop m s)) (drop m s))
    unfolding is_same_state
    leaves_first zero n q s e = let g : q ≡ n = omega arith in rw g refl
    leaves_first (suc m) n zero s e = absurd (omega arith)
    leaves_first (suc m) zero (suc q) [] e = refl
    leaves_first (suc m) (suc n) (suc q) [] e = refl
    leaves_first (suc m) n (suc q) (c ∷ s) e =
        rw (chan_moved Work to c apart, leaves_first m n q s (omega arith)) (some_more (is_same_chan Work c) _ (count_of Work (take m s)))

-- what it does to the counts
element : (k : Chan) (f : Failure) (c : Chan) → one_where (is_same_chan k (moved Work (failed f) c))
    ≡ group_moved (failed f) (λ j. one_where (is_same_chan j c)) k
element Work Undetected Work = refl
element Work Uncovered Work = refl
element Work Detected Work = refl
element Hidden Undetected Work = refl
element Hidden Uncovered Work = refl
element Hidden Detected Work = refl
element Deep Undetected Work = refl
element Deep Uncovered Work = refl
element Deep Detected Work = refl
element Repair Undetected Work = refl
element Repair Uncovered Work = refl
element Repair Detected Work = refl
element Work f c = refl
element k f c = stays (is_same_chan k (failed f)) (one_where (is_same_chan k c))
  where
    stays : (b : Bool) (x : ℕ) → x ≡ cond b (x + 0) x
    stays true x = omega arith
    stays false x = refl

group_moved-add : (to k : Chan) (c d : Chan → ℕ) → group_moved to c k + group_moved to d k ≡ group_moved to (λ j. c j + d j) k
group_moved-add to k c d = go (is_same_chan k Work) (is_same_chan k to)
  where
    go : (p q : Bool) → cond p 0 (cond q (c k + c Work) (c k)) + cond p 0 (cond q (d k + d Work) (d k))
        ≡ cond p 0 (cond q (c k + d k + (c Work + d Work)) (c k + d k))
    go true q = refl
    go false true = omega arith
    go false false = refl

group_moved_none : (to k : Chan) → 0 ≡ group_moved to (λ j. 0) k
group_moved_none to k = go (is_same_chan k Work) (is_same_chan k to)
  where
    go : (p q : Bool) → 0 ≡ cond p 0 (cond q (0 + 0) 0)
    go true q = refl
    go false true = refl
    go false false = refl

pub count_moved : (k : Chan) (f : Failure) (s : FullState) → count_of k (map (moved Work (failed f)) s) ≡ group_moved (failed f) (λ j. count_of j s) k
count_moved k f [] = group_moved_none (failed f) k
count_moved k f (c ∷ s) = rw (element k f c, count_moved k f s) (group_moved-add (failed f) k (λ j. one_where (is_same_chan j c)) (λ j. count_of j s))
