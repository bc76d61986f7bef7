-- The tests of an hour by tables, one group more.
use Rattle.std.proofs.Common.{◌≡◌, ℕ, zero, suc, ◌+◌, ◌*◌, ◌<◌, ◌≤◌, List, [], ◌∷◌, ◌++◌, length, take, get_or, refl, sym, ap, ◌∙◌, arith}
use Rattle.std.specs.Prelude.{Bool}
use Rattle.std.proofs.lemmas.List.{take_more}
use mathlib.Core.Path.{fun_ext}
use Rattle.sil_fraction.specs.Fraction.{Fraction, ◌+ℚ◌, ◌-ℚ◌, ◌*ℚ◌, ◌≤ℚ◌, whole}
use Rattle.sil_fraction.proofs.Laws.{le_trans, mul-add, add_comm, sub-add, one-mul}
use Rattle.sil_fraction.proofs.Sums.{add-mul, add_swap}
use Rattle.sil_model.specs.Series.{Values}
use Rattle.test_calendar.specs.declared.groups.GroupTest.{GroupTest}
use Rattle.test_matrix.specs.Rows.{by_chance, IsBelow, LacksAtMost}
use Rattle.vector_laws.specs.Vectors.{weigh}
use Rattle.test_matrix.specs.Spread.{group_list}
use Rattle.test_matrix.specs.Hours.{table_list, table_list_at, hour_list, AreBelow, LackAtMost}
use Rattle.test_matrix.specs.declared.places.GroupTables.{GroupTables}

pub list_at : (r : Fraction) (full : Bool) (groups : List GroupTables) (g : ℕ) (d : GroupTables) (f : Values ℕ) → g < length groups
    → table_list_at r full groups g f ≡ table_list r full (get_or groups g d) f
list_at r full [] g d f h = absurd (omega arith)
list_at r full (t ∷ ts) zero d f h = refl
list_at r full (t ∷ ts) (suc g) d f h = list_at r full ts g d f (omega arith)

hour-append : (chance : ℕ → Fraction) (groups : List GroupTables) (ts us : List GroupTest) (f : Values ℕ)
    → hour_list chance groups (ts ++ us) f ≡ hour_list chance groups ts (hour_list chance groups us f)
unfolding hour_list
hour-append chance groups [] us f = refl
hour-append chance groups (t ∷ ts) us f = ap (table_list_at (chance t.group) t.full groups t.group) (hour-append chance groups ts us f)

hour_one : (chance : ℕ → Fraction) (groups : List GroupTables) (t : GroupTest) (f : Values ℕ)
    → hour_list chance groups (t ∷ []) f ≡ table_list_at (chance t.group) t.full groups t.group f
unfolding hour_list
hour_one chance groups t f = refl

-- one group more
module _ (groups : List GroupTables) (tests : List GroupTest) (i : ℕ) (e : GroupTest) (t : GroupTables) (inside : i < length tests)
    (exists : (get_or tests i e).group < length groups) (is : t ≡ get_or groups (get_or tests i e).group t) where
  pub hour_more : (start v w : List ℕ)
      → ((r : Fraction) → IsBelow t.rows r → (f : Values ℕ) → weigh w f ≤ℚ weigh v (table_list r (get_or tests i e).full t f))
      → (chance : ℕ → Fraction) → AreBelow chance groups
      → ((f : Values ℕ) → weigh v f ≤ℚ weigh start (hour_list chance groups (take i tests) f))
      → (f : Values ℕ) → weigh w f ≤ℚ weigh start (hour_list chance groups (take (i + 1) tests) f)
  hour_more start v w one chance below all f =
      let test : GroupTest = get_or tests i e in
      let b : IsBelow t.rows (chance test.group) = rw (← is) at (below test.group t exists) in
      let a : table_list_at (chance test.group) test.full groups test.group f ≡ table_list (chance test.group) test.full t f =
      rw (← is) at (list_at (chance test.group) test.full groups test.group t f exists) in
      let q : hour_list chance groups (take (i + 1) tests) f ≡ hour_list chance groups (take i tests) (table_list (chance test.group) test.full t f) =
      ap (λ ts. hour_list chance groups ts f) (take_more tests i e inside) ∙ hour-append chance groups (take i tests) (test ∷ []) f
      ∙ ap (hour_list chance groups (take i tests)) (hour_one chance groups test f ∙ a) in
      rw q (le_trans _ _ _ (one (chance test.group) b f) (all (table_list (chance test.group) test.full t f)))

  pub loss_more : (lack n m start v w : ℕ) → LackAtMost lack groups → n ≡ m → (LacksAtMost lack t.rows → v ≤ w + (lack + 2 * n))
      → start ≤ v + i * (lack + 2 * n) → start ≤ w + (i + 1) * (lack + 2 * m)
  loss_more lack n m start v w enough same one all =
      let a : v ≤ w + (lack + 2 * n) = one (rw (← is) at (enough (get_or tests i e).group t exists)) in
      rw (← same) (omega (arith, a, all))

chance-const : (r : Fraction) (n : ℕ) (x : Fraction) → r ≤ℚ whole 1 → by_chance r n (λ a b. x) ≡ x
unfolding by_chance
chance-const r zero x h = refl
chance-const r (suc n) x h =
    rw (chance-const r n x h) (sym (add-mul r (whole 1 -ℚ r) x) ∙ ap (λ y. y *ℚ x) (add_comm r (whole 1 -ℚ r) ∙ sub-add (whole 1) r h) ∙ one-mul x)

chance-add : (r : Fraction) (n : ℕ) (f g : ℕ → ℕ → Fraction) → by_chance r n (λ a b. f a b +ℚ g a b) ≡ by_chance r n f +ℚ by_chance r n g
unfolding by_chance
chance-add r zero f g = refl
chance-add r (suc n) f g =
    rw (chance-add r n (λ a b. f a (suc b)) (λ a b. g a (suc b)), chance-add r n (λ a b. f (suc a) b) (λ a b. g (suc a) b), mul-add, mul-add) (add_swap _ _ _ _)

module _ (chance : ℕ → Fraction) (likely : (g : ℕ) → chance g ≤ℚ whole 1) where
  list-const : (full : Bool) (groups : List GroupTables) (g n : ℕ) (x : Fraction) → table_list_at (chance g) full groups n (λ i. x) ≡ (λ i. x)
  unfolding group_list
  list-const full [] g n x = refl
  list-const full (t ∷ ts) g zero x = fun_ext (λ i. chance-const (chance g) (get_or t.works.items i 0) x (likely g))
  list-const full (t ∷ ts) g (suc n) x = list-const full ts g n x

  list-add : (full : Bool) (groups : List GroupTables) (g n : ℕ) (f h : ℕ → Fraction)
      → table_list_at (chance g) full groups n (λ i. f i +ℚ h i)
      ≡ (λ i. table_list_at (chance g) full groups n f i +ℚ table_list_at (chance g) full groups n h i)
  unfolding group_list
  list-add full [] g n f h = refl
  list-add full (t ∷ ts) g zero f h = fun_ext (λ i. chance-add (chance g) (get_or t.works.items i 0) _ _)
  list-add full (t ∷ ts) g (suc n) f h = list-add full ts g n f h

  pub hour-const : (groups : List GroupTables) (tests : List GroupTest) (x : Fraction) → hour_list chance groups tests (λ i. x) ≡ (λ i. x)
  unfolding hour_list
  hour-const groups [] x = refl
  hour-const groups (t ∷ ts) x = rw (hour-const groups ts x) (list-const t.full groups t.group t.group x)

  pub hour-add : (groups : List GroupTables) (tests : List GroupTest) (f h : ℕ → Fraction)
      → hour_list chance groups tests (λ i. f i +ℚ h i) ≡ (λ i. hour_list chance groups tests f i +ℚ hour_list chance groups tests h i)
  unfolding hour_list
  hour-add groups [] f h = refl
  hour-add groups (t ∷ ts) f h =
      rw (hour-add groups ts f h) (list-add t.full groups t.group t.group (hour_list chance groups ts f) (hour_list chance groups ts h))

pub none_yet : (chance : ℕ → Fraction) (groups : List GroupTables) (f : Values ℕ) → hour_list chance groups [] f ≡ f
unfolding hour_list
none_yet chance groups f = refl

pub count_more : (i n m start count next : ℕ) → n ≡ m → count ≤ start + i * (18 * n) → next ≤ count + 18 * n → next ≤ start + (i + 1) * (18 * m)
count_more i n m start count next same all one = rw (← same) (omega (arith, all, one))
