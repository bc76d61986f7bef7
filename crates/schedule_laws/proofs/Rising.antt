-- Hours that rise.
use Rattle.std.proofs.Common.{◌≡◌, ℕ, zero, suc, ◌+◌, ◌<◌, ◌≤◌, List, [], ◌∷◌, arith}
use Rattle.std.specs.Prelude.{Bool, true, false, filter, cond}
use Rattle.sil_model.specs.Calendar.{upto}

-- hours that rise from the hour t on and stay below an end
pub data IsRising (end : ℕ) : ℕ → List ℕ → Type 0 where
  none : {t : ℕ} → t ≤ end → IsRising end t []
  one : {t hour : ℕ} {hours : List ℕ} → t ≤ hour → hour < end → IsRising end (suc hour) hours → IsRising end t (hour ∷ hours)

pub earlier : (end t u : ℕ) (hours : List ℕ) → t ≤ u → IsRising end u hours → IsRising end t hours
earlier end t u [] h (none g) = none (omega arith)
earlier end t u (hour ∷ hours) h (one a b more) = one (omega arith) b more

-- the hours that pass a test rise
pub filter_rises : (p : ℕ → Bool) (t n : ℕ) → IsRising (t + n) t (filter p (upto t n))
filter_rises p t zero = none (omega arith)
filter_rises p t (suc n) =
    let e : suc t + n ≡ t + suc n = omega arith in
    let more : IsRising (t + suc n) (suc t) (filter p (upto (suc t) n)) = rw e at (filter_rises p (suc t) n) in
    go (p t) more
  where
    go : (b : Bool) → IsRising (t + suc n) (suc t) (filter p (upto (suc t) n)) → IsRising (t + suc n) t (cond b (t ∷ filter p (upto (suc t) n)) (filter p (upto (suc t) n)))
    go true more = one (omega arith) (omega arith) more
    go false more = earlier _ t (suc t) _ (omega arith) more
