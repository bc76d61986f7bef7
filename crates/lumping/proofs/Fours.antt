-- The four counts of one group.
use Rattle.std.proofs.Common.{◌≡◌, ℕ, suc, ◌+◌, ◌-◌, ◌<◌, ◌≤◌, inl, inr, List, [], ◌∷◌, length, get_or, refl, sym, ap, ◌∙◌, arith, add-one}
use Rattle.std.proofs.lemmas.Bool.{cases_lt}
use Rattle.sil_model.specs.Sizes.{channel_states, shares_of}
use Rattle.sil_model.specs.Counts.{together, lists_below, list_number, list_numbered}
use Rattle.count_laws.proofs.Closed.{singles, shares}
use Rattle.count_laws.proofs.Lists.{below-monotone, below-next, list_numbered-step, list_numbered-last}

-- below 0 there is none
pub none_at_first : (k : ℕ) → lists_below k 0 ≡ 0
unfolding lists_below
none_at_first k = refl

-- the number of four counts, by the sums of the last ones
pub list_number-four : (cs : List ℕ) (t p r u f : ℕ) → length cs ≡ channel_states → r ≡ get_or cs 3 0 → u ≡ get_or cs 2 0 + r → f ≡ get_or cs 1 0 + u
    → t ≡ lists_below 3 f → p ≡ lists_below 2 u → t + p + r ≡ list_number cs
unfolding list_number
list_number-four (a ∷ b ∷ c ∷ d ∷ []) t p r u f n er eu ef et ep =
    let one : lists_below 1 (d + 0) ≡ r = singles (d + 0) ∙ omega arith in
    let two : lists_below 2 (c + (d + 0)) ≡ p = ap (lists_below 2) (omega arith) ∙ sym ep in
    let three : lists_below 3 (b + (c + (d + 0))) ≡ t = ap (lists_below 3) (omega arith) ∙ sym et in
    omega (arith, one, two, three, none_at_first 0)
list_number-four (a ∷ b ∷ c ∷ d ∷ e ∷ cs) t p r u f n er eu ef et ep = absurd (omega arith)
list_number-four (a ∷ b ∷ c ∷ []) t p r u f n er eu ef et ep = absurd (omega arith)
list_number-four (a ∷ b ∷ []) t p r u f n er eu ef et ep = absurd (omega arith)
list_number-four (a ∷ []) t p r u f n er eu ef et ep = absurd (omega arith)
list_number-four [] t p r u f n er eu ef et ep = absurd (omega arith)

-- the sum of four counts
pub together-four : (cs : List ℕ) → length cs ≡ channel_states → together cs ≡ get_or cs 0 0 + get_or cs 1 0 + get_or cs 2 0 + get_or cs 3 0
together-four (a ∷ b ∷ c ∷ d ∷ []) n = omega arith
together-four (a ∷ b ∷ c ∷ d ∷ e ∷ cs) n = absurd (omega arith)
together-four (a ∷ b ∷ c ∷ []) n = absurd (omega arith)
together-four (a ∷ b ∷ []) n = absurd (omega arith)
together-four (a ∷ []) n = absurd (omega arith)
together-four [] n = absurd (omega arith)

below-reflects : (k m n : ℕ) → lists_below (suc k) m < lists_below (suc k) n → m < n
below-reflects k m n h = elim (cases_lt m n) [
  | inl g ↦ g
  | inr g ↦ absurd (omega (arith, below-monotone k n m (omega arith)))
]

pub alike_at_first : 1 ≡ lists_below 2 1
unfolding lists_below
alike_at_first = refl

-- one sum more
pub triples-next : (n : ℕ) → lists_below 3 (n + 1) ≡ lists_below 3 n + lists_below 2 (n + 1)
triples-next n = rw (add-one) (below-next 2 n)

pub pairs-next : (n : ℕ) → lists_below 2 (n + 1) ≡ lists_below 2 n + (n + 1)
pairs-next n = rw (add-one) (omega (arith, below-next 1 n, singles (suc n)))

-- four counts of a group of n channels: x are not in Work, y in Deep or Repair, z in Repair
module _ (n i x j y z : ℕ) (small : i < shares_of n) (triples : lists_below 3 x + j ≡ i) (rest : j < lists_below 2 (x + 1)) (pairs : lists_below 2 y + z ≡ j) (last : z ≤ y) where
  pub few_failed : x ≤ n
  few_failed = omega (arith, below-reflects 2 x (suc n) (omega (arith, shares n)))

  pub few_deep : y ≤ x
  few_deep = omega (arith, below-reflects 1 y (x + 1) (omega arith))

  pub list_numbered-four : list_numbered (channel_states - 1) n i ≡ (n - x) ∷ (x - y) ∷ (y - z) ∷ z ∷ []
  list_numbered-four =
      let one : lists_below 2 (x + 1) ≡ lists_below 2 (suc x) = let e : x + 1 ≡ suc x = omega arith in ap (lists_below 2) e in
      list_numbered-step 2 n i x j few_failed triples (omega arith)
      ∙ ap (λ cs. (n - x) ∷ cs) (list_numbered-step 1 x j y z few_deep pairs (omega (arith, singles (suc y)))
      ∙ ap (λ cs. (x - y) ∷ cs) (list_numbered-step 0 y z z 0 last (omega (arith, singles z)) (unfold lists_below in omega arith)
      ∙ ap (λ cs. (y - z) ∷ cs) (list_numbered-last z 0)))
