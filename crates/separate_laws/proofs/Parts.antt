-- Full states in two parts: what moves the channels of one part leaves the other as it is.
use Rattle.std.proofs.Common.{◌≡◌, ℕ, zero, suc, ◌+◌, ◌<◌, true, [], ◌∷◌, ◌++◌, length, take, drop, refl, ap, arith}
use Rattle.std.specs.Prelude.{◌&&◌}
use Rattle.sil_model.specs.State.{FullState, is_same_chan, is_same_state, count_of}
use Rattle.sil_model.specs.Events.{moved, move_one, move_first, move_all, in_repair_of}
use Rattle.sil_model.specs.declared.parts.Chan.{Chan}
use Rattle.sil_model.specs.declared.parts.Chan.TheVariants.{Work, Hidden, Deep, Repair}

chan_self : (c : Chan) → is_same_chan c c ≡ true
chan_self Work = refl
chan_self Hidden = refl
chan_self Deep = refl
chan_self Repair = refl

state_self : (s : FullState) → is_same_state s s ≡ true
unfolding is_same_state
state_self [] = refl
state_self (c ∷ s) = rw (chan_self c) (state_self s)

-- states that differ in one part alone
pub same_front : (x s t : FullState) → length x ≡ length s → is_same_state (x ++ t) (s ++ t) ≡ is_same_state x s
unfolding is_same_state
same_front [] [] t e = state_self t
same_front [] (b ∷ s) t e = absurd (omega arith)
same_front (a ∷ x) [] t e = absurd (omega arith)
same_front (a ∷ x) (b ∷ s) t e = ap (λ r. is_same_chan a b && r) (same_front x s t (omega arith))

pub same_behind : (s x t : FullState) → is_same_state (s ++ x) (s ++ t) ≡ is_same_state x t
unfolding is_same_state
same_behind [] x t = refl
same_behind (c ∷ s) x t = rw (chan_self c) (same_behind s x t)

-- a channel of one part moves
module _ (from to : Chan) where
  pub one_front : (i : ℕ) (s t : FullState) → i < length s → move_one i from to (s ++ t) ≡ move_one i from to s ++ t
  one_front i [] t h = absurd (omega arith)
  one_front zero (c ∷ s) t h = refl
  one_front (suc i) (c ∷ s) t h = ap (λ x. c ∷ x) (one_front i s t (omega arith))

  pub one_behind : (i b : ℕ) (s t : FullState) → b ≡ length s + i → move_one b from to (s ++ t) ≡ s ++ move_one i from to t
  one_behind i b [] t e = let g : b ≡ i = omega arith in rw g refl
  one_behind i zero (c ∷ s) t e = absurd (omega arith)
  one_behind i (suc b) (c ∷ s) t e = ap (λ x. c ∷ x) (one_behind i b s t (omega arith))

-- all channels of the first part move, or some of the second
module _ (to : Chan) where
  pub all_front : (n : ℕ) (s t : FullState) → n ≡ length s → move_first n to (s ++ t) ≡ move_first n to s ++ t
  all_front zero [] t e = refl
  all_front zero (c ∷ s) t e = absurd (omega arith)
  all_front (suc n) [] t e = absurd (omega arith)
  all_front (suc n) (c ∷ s) t e = ap (λ x. moved Work to c ∷ x) (all_front n s t (omega arith))

  pub all_behind : (a b n : ℕ) (s t : FullState) → b ≡ length s + a → move_all b n to (s ++ t) ≡ s ++ move_all a n to t
  all_behind a b n [] t e = let g : b ≡ a = omega arith in rw g refl
  all_behind a zero n (c ∷ s) t e = absurd (omega arith)
  all_behind a (suc b) n (c ∷ s) t e = ap (λ x. c ∷ x) (all_behind a b n s t (omega arith))

-- channels of one part alone
pub take_front : (n : ℕ) (s t : FullState) → n ≡ length s → take n (s ++ t) ≡ take n s
take_front zero s t e = refl
take_front (suc n) [] t e = absurd (omega arith)
take_front (suc n) (c ∷ s) t e = ap (λ x. c ∷ x) (take_front n s t (omega arith))

pub drop_front : (n : ℕ) (s t : FullState) → n ≡ length s → drop n (s ++ t) ≡ t
drop_front zero [] t e = refl
drop_front zero (c ∷ s) t e = absurd (omega arith)
drop_front (suc n) [] t e = absurd (omega arith)
drop_front (suc n) (c ∷ s) t e = drop_front n s t (omega arith)

drop_behind : (a b : ℕ) (s t : FullState) → b ≡ length s + a → drop b (s ++ t) ≡ drop a t
drop_behind a b [] t e = let g : b ≡ a = omega arith in rw g refl
drop_behind a zero (c ∷ s) t e = absurd (omega arith)
drop_behind a (suc b) (c ∷ s) t e = drop_behind a b s t (omega arith)

-- so are those in repair counted
pub repair_front : (n : ℕ) (s t : FullState) → n ≡ length s → in_repair_of 0 n (s ++ t) ≡ in_repair_of 0 n s
repair_front n s t e = ap (count_of Repair) (take_front n s t e)

pub repair_behind : (a b n : ℕ) (s t : FullState) → b ≡ length s + a → in_repair_of b n (s ++ t) ≡ in_repair_of a n t
repair_behind a b n s t e = ap (λ x. count_of Repair (take n x)) (drop_behind a b s t e)

-- a move keeps the number of channels
pub length-first : (to : Chan) (n : ℕ) (s : FullState) → length (move_first n to s) ≡ length s
length-first to zero s = refl
length-first to (suc n) [] = refl
length-first to (suc n) (c ∷ s) = ap suc (length-first to n s)
