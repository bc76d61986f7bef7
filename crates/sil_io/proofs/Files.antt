-- The bytes under a name, by the place of the file.
use Rattle.std.proofs.Common.{◌≡◌, ◌≢◌, ℕ, ◌<◌, ◌++◌, Bool, true, false, cond, List, [], ◌∷◌, Option, Some, None, length, get_or, set, refl, sym, ◌∙◌, ap, arith, suc, zero, option_map, nat_lt}
use Rattle.std.specs.List.{find, position, position_or_len, slice_get}
use Rattle.std.specs.Option.{option_or}
use Rattle.std.proofs.lemmas.Slice.Eq.{bytes_eq-Decides}
use Rattle.std.proofs.lemmas.Bool.{ltb-true, ltb-false}
use Rattle.std.proofs.lemmas.Option.{slice_get_past}
use Rattle.std.proofs.lemmas.List.Folds.{find_at, find-set, find_past, find-append}
use Rattle.std.proofs.lemmas.List.Quantifiers.{position-Some}
use Rattle.sil_io.specs.ShelfState.{NamedBytes, bytes_under, name_at, bytes_at, has_name}

-- a test that holds, and one that does not
has_name-true : (name : List ℕ) (f : NamedBytes) → f.name ≡ name → has_name name f ≡ true
has_name-true name f e = (bytes_eq-Decides f.name name).1 e

has_name-is : (name : List ℕ) (f : NamedBytes) → has_name name f ≡ true → f.name ≡ name
has_name-is name f e = (bytes_eq-Decides f.name name).0 e

not_true : (b : Bool) → (b ≡ true → ⊥) → b ≡ false
not_true b fails = elim b as (λ v. (v ≡ true → ⊥) → v ≡ false) [ true ↦ λ h. absurd (h refl) | false ↦ λ h. refl ] fails

has_name-false : (name : List ℕ) (f : NamedBytes) → f.name ≢ name → has_name name f ≡ false
has_name-false name f ne = not_true (has_name name f) (λ e. ne (has_name-is name f e))

cond-Some : (b : Bool) (a i : ℕ) → cond b (Some a) None ≡ Some i → (b ≡ true) × (i ≡ a)
cond-Some true a i e = (refl, (cc))
cond-Some false a i e = cc

cond-None : (b : Bool) (a : ℕ) → cond b (Some a) None ≡ None → b ≡ false
cond-None true a e = cc
cond-None false a e = refl

-- what `position` found is where the first file of the name lies
position-is : (p : NamedBytes → Bool) (fs : List NamedBytes) (i : ℕ) → position p fs ≡ Some i → (i < length fs) × (i ≡ position_or_len p fs)
position-is p fs i e =
    let found = cond-Some (nat_lt (position_or_len p fs) (length fs)) (position_or_len p fs) i e in
    let below : position_or_len p fs < length fs = ltb-true _ _ found.0 in
    (omega (arith, found.1), found.1)

get-Some : (fs : List NamedBytes) (i : ℕ) → i < length fs → option_map (λ f. f.bytes) (slice_get fs i) ≡ Some (bytes_at fs i)
get-Some [] i h = absurd (omega arith)
get-Some (f ∷ fs) zero h = refl
get-Some (f ∷ fs) (suc i) h = get-Some fs i (omega arith)

pub bytes_under-place : (name : List ℕ) (fs : List NamedBytes) (i : ℕ) → position (has_name name) fs ≡ Some i → bytes_under fs name ≡ Some (bytes_at fs i)
bytes_under-place name fs i e =
    ap (option_map (λ f. f.bytes)) (find_at (has_name name) fs ∙ ap (slice_get fs) (sym (position-is (has_name name) fs i e).1))
    ∙ get-Some fs i (position-is (has_name name) fs i e).0

get-name : (fs : List NamedBytes) (f : NamedBytes) (i : ℕ) → i < length fs → name_at fs i ≡ (get_or fs i f).name
get-name [] f i h = absurd (omega arith)
get-name (g ∷ fs) f zero h = refl
get-name (g ∷ fs) f (suc i) h = get-name fs f i (omega arith)

-- the bytes of the file that an index gives
pub get-bytes : (fs : List NamedBytes) (f : NamedBytes) (i : ℕ) → i < length fs → (get_or fs i f).bytes ≡ bytes_at fs i
get-bytes [] f i h = absurd (omega arith)
get-bytes (g ∷ fs) f zero h = refl
get-bytes (g ∷ fs) f (suc i) h = get-bytes fs f i (omega arith)

-- the place that `position` found has the name
pub name_at-place : (name : List ℕ) (fs : List NamedBytes) (i : ℕ) → position (has_name name) fs ≡ Some i → name_at fs i ≡ name
name_at-place name fs i e =
    let f : NamedBytes = record { name = []; bytes = [] } in
    get-name fs f i (position-is (has_name name) fs i e).0
    ∙ has_name-is name (get_or fs i f) (position-Some (has_name name) fs i f e).1

find-None : (p : NamedBytes → Bool) (fs : List NamedBytes) → position p fs ≡ None → find p fs ≡ None
find-None p fs e =
    find_at p fs ∙ slice_get_past fs (position_or_len p fs) (ltb-false _ _ (cond-None (nat_lt (position_or_len p fs) (length fs)) (position_or_len p fs) e))

pub bytes_under-None : (name : List ℕ) (fs : List NamedBytes) → position (has_name name) fs ≡ None → bytes_under fs name ≡ None
bytes_under-None name fs e = ap (option_map (λ f. f.bytes)) (find-None (has_name name) fs e)

-- a file put in the place of the one of its name
pub bytes_under-set : (fs : List NamedBytes) (f : NamedBytes) (i : ℕ) → position (has_name f.name) fs ≡ Some i
    → bytes_under (set fs i f) f.name ≡ Some f.bytes
bytes_under-set fs f i e =
    let is = position-is (has_name f.name) fs i e in
    ap (option_map (λ f. f.bytes)) (find-set (has_name f.name) fs i f is.1 is.0 (has_name-true f.name f refl))

pub bytes_under-set_other : (fs : List NamedBytes) (f : NamedBytes) (i : ℕ) (other : List ℕ) → position (has_name f.name) fs ≡ Some i → other ≢ f.name
    → bytes_under (set fs i f) other ≡ bytes_under fs other
bytes_under-set_other fs f i other e ne =
    let there : (get_or fs i f).name ≡ f.name = has_name-is f.name (get_or fs i f) (position-Some (has_name f.name) fs i f e).1 in
    ap (option_map (λ f. f.bytes)) (find_past (has_name other) fs i f f
    (has_name-false other (get_or fs i f) (λ same. ne (sym same ∙ there)))
    (has_name-false other f (λ same. ne (sym same))))

option_or-None : (o : Option NamedBytes) → option_or o None ≡ o
option_or-None None = refl
option_or-None (Some f) = refl

-- a file put at the end, where none has its name
pub bytes_under-push : (fs : List NamedBytes) (f : NamedBytes) → position (has_name f.name) fs ≡ None
    → bytes_under (fs ++ f ∷ []) f.name ≡ Some f.bytes
bytes_under-push fs f e =
    ap (option_map (λ f. f.bytes))
    (find-append (has_name f.name) fs (f ∷ [])
    ∙ ap (λ o. option_or o (find (has_name f.name) (f ∷ []))) (find-None (has_name f.name) fs e)
    ∙ ap (λ b. cond b (Some f) None) (has_name-true f.name f refl))

pub bytes_under-push_other : (fs : List NamedBytes) (f : NamedBytes) (other : List ℕ) → other ≢ f.name
    → bytes_under (fs ++ f ∷ []) other ≡ bytes_under fs other
bytes_under-push_other fs f other ne =
    let missing : has_name other f ≡ false = has_name-false other f (λ same. ne (sym same)) in
    ap (option_map (λ f. f.bytes))
    (find-append (has_name other) fs (f ∷ [])
    ∙ ap (λ b. option_or (find (has_name other) fs) (cond b (Some f) None)) missing
    ∙ option_or-None (find (has_name other) fs))
