-- A list of numbers and its number among those of its length and its sum are each other's inverse.
use Rattle.std.proofs.Common.{◌≡◌, ℕ, zero, suc, ◌+◌, ◌-◌, ◌<◌, ◌≤◌, inl, inr, List, [], ◌∷◌, length, refl, sym, ap, ◌∙◌, arith}
use Rattle.std.specs.Prelude.{Bool, true, false, if◌then◌else◌, nat_le}
use Rattle.std.proofs.lemmas.Bool.{cases_lt, leb-true, leb-false, le-leb, lt-leb}
use Rattle.sil_model.specs.Counts.{together, lists_below, list_number, last_within, list_numbered}

pub below-next : (k n : ℕ) → lists_below (suc k) (suc n) ≡ lists_below (suc k) n + lists_below k (suc n)
unfolding lists_below
below-next k n = refl

below-zero : (k : ℕ) → lists_below k 0 ≡ 0
unfolding lists_below
below-zero k = refl

pub below-monotone : (k m n : ℕ) → m ≤ n → lists_below (suc k) m ≤ lists_below (suc k) n
unfolding lists_below
below-monotone k m zero h = let e : m ≡ 0 = omega arith in rw e (omega arith)
below-monotone k m (suc n) h = elim (cases_lt m (suc n)) [
  | inl g ↦ omega (arith, below-monotone k m n (omega arith))
  | inr g ↦ let e : m ≡ suc n = omega arith in rw e (omega arith)
]

pub below-positive : (k n : ℕ) → 0 < lists_below k (suc n)
unfolding lists_below
below-positive zero n = omega arith
below-positive (suc k) n = omega (arith, below-positive k n)

list_number-cons : (n : ℕ) (ns : List ℕ) → list_number (n ∷ ns) ≡ lists_below (length ns) (together ns) + list_number ns
unfolding list_number
list_number-cons n ns = refl

-- a number is below the count of such lists
pub list_number-small : (n : ℕ) (ns : List ℕ) → list_number (n ∷ ns) < lists_below (length ns) (suc (n + together ns))
unfolding list_number lists_below
list_number-small n [] = omega arith
list_number-small n (m ∷ ns) =
    let rest : list_number (m ∷ ns) < lists_below (length ns) (suc (m + together ns)) = list_number-small m ns in
    let fewer : lists_below (suc (length ns)) (suc (m + together ns)) ≤ lists_below (suc (length ns)) (suc (n + (m + together ns))) = below-monotone (length ns) (suc (m + together ns)) (suc (n + (m + together ns))) (omega arith) in
    omega (arith, rest, fewer, below-next (length ns) (m + together ns))

-- the greatest within is within, and its next is not
module _ (f : ℕ → ℕ) (i : ℕ) where
  last_within-low : (n : ℕ) → f 0 ≤ i → f (last_within f n i) ≤ i
  unfolding last_within
  last_within-low zero h = h
  last_within-low (suc n) h = go (last_within-low n h) (nat_le (f (suc n)) i) refl
    where
      go : f (last_within f n i) ≤ i → (b : Bool) → nat_le (f (suc n)) i ≡ b → f (if b then suc n else last_within f n i) ≤ i
      go r true e = leb-true _ _ e
      go r false e = r

  last_within-high : (n : ℕ) → i < f (suc n) → i < f (suc (last_within f n i))
  unfolding last_within
  last_within-high zero h = h
  last_within-high (suc n) h = go (last_within-high n) (nat_le (f (suc n)) i) refl
    where
      go : (i < f (suc n) → i < f (suc (last_within f n i))) → (b : Bool) → nat_le (f (suc n)) i ≡ b → i < f (suc (if b then suc n else last_within f n i))
      go r true e = h
      go r false e = r (leb-false _ _ e)

  last_within-le : (n : ℕ) → last_within f n i ≤ n
  unfolding last_within
  last_within-le zero = omega arith
  last_within-le (suc n) = elim (nat_le (f (suc n)) i) as (λ b. (if b then suc n else last_within f n i) ≤ suc n) [ true ↦ omega arith | false ↦ omega (arith, last_within-le n) ]

  last_within-is : (mono : (m n : ℕ) → m ≤ n → f m ≤ f n) (x n : ℕ) → x ≤ n → f x ≤ i → i < f (suc x) → last_within f n i ≡ x
  unfolding last_within
  last_within-is mono x zero h low high = omega arith
  last_within-is mono x (suc n) h low high = elim (cases_lt x (suc n)) [
    | inl g ↦ rw (lt-leb (f (suc n)) i (omega (arith, mono (suc x) (suc n) (omega arith)))) (last_within-is mono x n (omega arith) low high)
    | inr g ↦ let e : x ≡ suc n = omega arith in let k : f (suc n) ≤ i = rw e at low in rw (le-leb (f (suc n)) i k) (sym e)
  ]

pub length-list_numbered : (k n i : ℕ) → length (list_numbered k n i) ≡ suc k
unfolding list_numbered
length-list_numbered zero n i = refl
length-list_numbered (suc k) n i = ap suc (length-list_numbered k _ _)

pub together-list_numbered : (k n i : ℕ) → together (list_numbered k n i) ≡ n
unfolding list_numbered
together-list_numbered zero n i = omega arith
together-list_numbered (suc k) n i =
    let x = last_within (lists_below (suc k)) n i in
    omega (arith, together-list_numbered k x (i - lists_below (suc k) x), last_within-le (lists_below (suc k)) i n)

pub list_number-list_numbered : (k n i : ℕ) → i < lists_below k (suc n) → list_number (list_numbered k n i) ≡ i
unfolding list_numbered list_number
list_number-list_numbered zero n i h = unfold lists_below in omega arith
list_number-list_numbered (suc k) n i h =
    let x = last_within (lists_below (suc k)) n i in
    let low : lists_below (suc k) x ≤ i = last_within-low (lists_below (suc k)) i n (rw below-zero (omega arith)) in
    let high : i < lists_below (suc k) (suc x) = last_within-high (lists_below (suc k)) i n h in
    let rest : list_number (list_numbered k x (i - lists_below (suc k) x)) ≡ i - lists_below (suc k) x = list_number-list_numbered k x (i - lists_below (suc k) x) (omega (arith, below-next k x)) in
    rw (length-list_numbered k x (i - lists_below (suc k) x), together-list_numbered k x (i - lists_below (suc k) x), rest) (omega arith)

-- one step of the list of a number, where the sum x of the rest and the number j of the rest are known
pub list_numbered-step : (k n i x j : ℕ) → x ≤ n → lists_below (suc k) x + j ≡ i → j < lists_below k (suc x) → list_numbered (suc k) n i ≡ (n - x) ∷ list_numbered k x j
unfolding list_numbered
list_numbered-step k n i x j h e s =
    let is : last_within (lists_below (suc k)) n i ≡ x = last_within-is (lists_below (suc k)) i (below-monotone k) x n h (omega arith) (omega (arith, below-next k x)) in
    let rest : i - lists_below (suc k) x ≡ j = omega arith in
    rw (is, rest) refl

pub list_numbered-last : (n i : ℕ) → list_numbered 0 n i ≡ n ∷ []
unfolding list_numbered
list_numbered-last n i = refl

pub list_numbered-list_number : (k n : ℕ) (ns : List ℕ) → length ns ≡ k → list_numbered k (n + together ns) (list_number (n ∷ ns)) ≡ (n ∷ ns)
list_numbered-list_number zero n [] e = let z : n + 0 ≡ n = omega arith in rw z (list_numbered-last n _)
list_numbered-list_number zero n (m ∷ ns) e = absurd (omega arith)
list_numbered-list_number (suc k) n [] e = absurd (omega arith)
list_numbered-list_number (suc k) n (m ∷ ns) e =
    let g : length ns ≡ k = omega arith in
    let x : ℕ = m + together ns in
    let v : lists_below (suc k) x + list_number (m ∷ ns) ≡ list_number (n ∷ m ∷ ns) = rw (← g) (sym (list_number-cons n (m ∷ ns))) in
    let small : list_number (m ∷ ns) < lists_below k (suc x) = rw g at (list_number-small m ns) in
    let front : (n + x) - x ≡ n = omega arith in
    list_numbered-step k (n + x) (list_number (n ∷ m ∷ ns)) x (list_number (m ∷ ns)) (omega arith) v small
    ∙ rw front (ap (λ r. n ∷ r) (list_numbered-list_number k m ns g))
