-- The entries of a list of tables, as a loop goes over them.
use Rattle.std.proofs.Common.{◌≡◌, ◌⊎◌, inl, inr, ℕ, suc, ◌+◌, ◌<◌, ◌≤◌, nat_le, ◌&&◌, if◌then◌else◌, List, [], ◌∷◌, ◌++◌, length, map, take, get_or, Bor, BTreeMap, String, Global, refl, ap, ◌∙◌, sym, arith}
use Rattle.std.proofs.lemmas.Bool.Decides.{nat_tests}
use Rattle.std.proofs.lemmas.List.{map-append, get_or-map, length-map}
use Rattle.std.proofs.Math.Numerals.{add-one}
use Rattle.std.proofs.Math.Seq.{take-suc}
use Rattle.toml.specs.Data.{Members, no_members}
use Rattle.toml.specs.View.{table_view, items_view}
use Rattle.toml.specs.declared.value.Value.{Value}
use Rattle.file_fault.specs.declared.FileFault.{FileFault}
use Rattle.loop_file.specs.LoopFile.{entry_of, items_len}
use Rattle.loop_file.specs.Walk.{Check, checks_below, Pass, IsRefusal}

abbrev pub TableRef : Type 0
TableRef = Bor (BTreeMap (String Global) Value)

-- the tables that references show
abbrev pub shown : List TableRef → List Members
shown = map (λ t. table_view t.now)

pub entry_at : (ts : List TableRef) (i : ℕ) (t : TableRef) → i < length ts → t ≡ get_or ts i t → entry_of (shown ts) i ≡ table_view t.now
entry_at ts i t h is = get_or-map (λ (x : TableRef). table_view x.now) ts i t no_members h ∙ ap (λ x. table_view x.now) (sym is)

pub within_shown : (ts : List TableRef) (i : ℕ) → i < length ts → i < length (shown ts)
within_shown ts i h = rw (length-map ts (λ t. table_view t.now)) h

-- one more entry, mapped
pub map_take : {A B : Type 0} (f : A → B) (xs : List A) (i : ℕ) (d : A) → i < length xs → map f (take (i + 1) xs) ≡ map f (take i xs) ++ f (get_or xs i d) ∷ []
map_take f xs i d h = rw (add-one i) (ap (map f) (take-suc xs i d h) ∙ map-append f (take i xs) (get_or xs i d ∷ []))

pub pass_equal : (xs ys : List Check) → xs ≡ ys → Pass ys → Pass xs
pass_equal xs ys e p = rw e p

pub refusal_equal : (xs ys : List Check) (e : FileFault) → xs ≡ ys → IsRefusal ys e → IsRefusal xs e
refusal_equal xs ys e same r = rw same r

-- checks of a table after others of these names
pub pass_moved : (P : List (List ℕ) → Members → List Check) (n m : List (List ℕ)) (s t : Members) → n ≡ m → s ≡ t → Pass (P n t) → Pass (P m s)
pass_moved P n m s t a b p = rw (← a, b) p

pub refusal_moved : (P : List (List ℕ) → Members → List Check) (n m : List (List ℕ)) (s t : Members) (e : FileFault) → n ≡ m → s ≡ t → IsRefusal (P n t) e → IsRefusal (P m s) e
refusal_moved P n m s t e a b p = rw (← a, b) p

pub pass_one_more : (f : ℕ → List Check) (i : ℕ) → Pass (checks_below f i ++ f i) → Pass (checks_below f (i + 1))
pass_one_more f i p = rw (add-one i) p

pub pass_whole : (f : ℕ → List Check) (i n : ℕ) → i ≡ n → Pass (checks_below f i) → Pass (checks_below f n)
pass_whole f i n e p = rw (← e) p

pub items_len-view : (vs : List Value) → items_len (items_view vs) ≡ length vs
items_len-view [] = refl
items_len-view (v ∷ vs) = ap suc (items_len-view vs)

pub out_of_range : (least greatest n : ℕ) (c d : Check) → (n < least) ⊎ (greatest < n) → (if nat_le least n && nat_le n greatest then c else d) ≡ d
out_of_range least greatest n c d (inl h) = grind (arith, nat_tests)
out_of_range least greatest n c d (inr h) = grind (arith, nat_tests)

pub in_range : (least greatest n : ℕ) (c d : Check) → least ≤ n → n ≤ greatest → (if nat_le least n && nat_le n greatest then c else d) ≡ c
in_range least greatest n c d a b = grind (arith, nat_tests)
