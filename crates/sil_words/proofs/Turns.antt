-- One word of a walk of `clap`, for any rules of which none takes several values: which fault it makes, and where the walk goes.
use Rattle.std.proofs.Common.{◌≡◌, refl, ap, ℕ, Bool, true, false, cond, ◌&&◌, List, [], ◌∷◌, Option, Some, None, is_some, codes, slice_get}
use Rattle.std.specs.Str.{bytes_eq, chars}
use Rattle.clap.specs.Lexer.{long_of, short_of}
use Rattle.clap.specs.Walk.{Text, Walk, Held, Row, Rule, idle, option, walked, bundle_met, arg_by_id, arg_by_index, arg_by_long, arg_by_short}
use Rattle.clap.specs.Walk.{settled_rows, settled, takes_values, used, most_values}
use Rattle.clap.specs.Simple.{Shape, new_shape}
use Rattle.clap.specs.Faults.{turn_fault, flags_fault, settle_fault, use_fault, long_fault, option_fault, react_fault}
use Rattle.clap.specs.Kinds.{Kinds, or_else}
use Rattle.clap.specs.Simple.{with_index, filled}
use Rattle.clap.specs.Walk.{is_pending, pushed}
use Rattle.clap.specs.declared.error.kind.ErrorKind.{ErrorKind}
use Rattle.sil_words.specs.Splitting.{position}
use Rattle.sil_words.specs.Splitting.{position_rule}
use Rattle.clap.specs.declared.error.kind.ErrorKind.TheVariants as kind

abbrev pub shape : List Rule → Shape
shape rules = record (new_shape (codes "sil"))
    { rules = rules; no_binary_name = true; disable_help_flag = true; disable_help_subcommand = true; is_built = true }

abbrev pub dashes : Text
dashes = 45 ∷ 45 ∷ []

abbrev pub Pending : Type 0
Pending = Option (Text × List Text)

abbrev pub holding : List Row → Pending → Held
holding rows p = record { rows = rows; pending = p; skip = 0 }

-- between two pieces, before the n-th positional
abbrev pub between : List Row → Pending → ℕ → Bool → Walk
between rows p n t = record { held = holding rows p; waiting = idle; position = n; is_trailing = t; stopped = None }

-- an option waits for its value
abbrev pub waits : Text → List Row → ℕ → Walk
waits name rows n = record { held = holding rows (Some (name, [])); waiting = option name; position = n; is_trailing = false; stopped = None }

-- an option waits in vain
abbrev pub starved : Text → List Row → ℕ → Walk
starved name rows n = record { held = holding rows (Some (name, [])); waiting = option name; position = n; is_trailing = true; stopped = None }

-- what the pending argument makes
abbrev pub fault_in : List Rule → List Row → Pending → Kinds
fault_in rules rows p = settle_fault rules false (holding rows p)

abbrev pub rows_in : List Rule → List Row → Pending → List Row
rows_in rules rows p = settled_rows rules p rows

-- the rule of the positional word
abbrev pub placed : Rule
placed = with_index 1 (filled position_rule)

settles : (b : Bool) (ks : Kinds) → cond {A = Kinds} (b && false) [] ks ≡ ks
settles true ks = refl
settles false ks = refl

-- where the walk stands after its positional word
abbrev placed_at : Bool → Held → Walk
placed_at t h = record { held = h; waiting = idle; position = 2; is_trailing = t; stopped = None }

settled_first : (rules : List Rule) (rows : List Row) (p : Pending) (x : Text) (b : Bool)
    → pushed position x (cond {A = Held} (b && false) (holding rows p) (settled rules (holding rows p))) ≡ holding (rows_in rules rows p)
    (Some (position, x ∷ []))
settled_first rules rows p x true = refl
settled_first rules rows p x false = refl

-- ---- between two pieces

pub dashes_turn : (rules : List Rule) (rows : List Row) (p : Pending) (n : ℕ) (x : Text) → bytes_eq x dashes ≡ true
    → turn_fault (shape rules) [] (between rows p n false) x ≡ []
dashes_turn rules rows p n x e = rw e refl

pub dashes_next : (rules : List Rule) (rows : List Row) (p : Pending) (n : ℕ) (x : Text) → bytes_eq x dashes ≡ true
    → walked rules [] (between rows p n false) x ≡ between rows p n true
unfolding walked
dashes_next rules rows p n x e = rw e refl

-- a flag
pub flag_turn : (rules : List Rule) (rows : List Row) (p : Pending) (n : ℕ) (x name : Text) (a : Rule) → bytes_eq x dashes ≡ false
    → long_of x ≡ Some (name, None) → arg_by_long rules name ≡ Some a → takes_values a ≡ false
    → turn_fault (shape rules) [] (between rows p n false) x
    ≡ or_else (or_else (fault_in rules rows p) (use_fault false a [] (rows_in rules rows p))) []
flag_turn rules rows p n x name a e l f t = rw (e, l, f, t) refl

pub flag_next : (rules : List Rule) (rows : List Row) (p : Pending) (n : ℕ) (x name : Text) (a : Rule) → bytes_eq x dashes ≡ false
    → long_of x ≡ Some (name, None) → arg_by_long rules name ≡ Some a → takes_values a ≡ false
    → walked rules [] (between rows p n false) x ≡ between (used a [] (rows_in rules rows p)) None n false
unfolding walked
flag_next rules rows p n x name a e l f t = rw (e, l, f, t) refl

-- an option with its value joined
pub joined_turn : (rules : List Rule) (rows : List Row) (p : Pending) (n : ℕ) (x name v : Text) (a : Rule) → bytes_eq x dashes ≡ false
    → long_of x ≡ Some (name, Some v) → arg_by_long rules name ≡ Some a → takes_values a ≡ true
    → turn_fault (shape rules) [] (between rows p n false) x
    ≡ or_else (or_else (fault_in rules rows p) (use_fault false a (v ∷ []) (rows_in rules rows p))) []
joined_turn rules rows p n x name v a e l f t = rw (e, l, f, t) refl

pub joined_next : (rules : List Rule) (rows : List Row) (p : Pending) (n : ℕ) (x name v : Text) (a : Rule) → bytes_eq x dashes ≡ false
    → long_of x ≡ Some (name, Some v) → arg_by_long rules name ≡ Some a → takes_values a ≡ true
    → walked rules [] (between rows p n false) x ≡ between (used a (v ∷ []) (rows_in rules rows p)) None n false
unfolding walked
joined_next rules rows p n x name v a e l f t = rw (e, l, f, t) refl

-- an option whose value is to come
pub apart_turn : (rules : List Rule) (rows : List Row) (p : Pending) (n : ℕ) (x name : Text) (a : Rule) → bytes_eq x dashes ≡ false
    → long_of x ≡ Some (name, None) → arg_by_long rules name ≡ Some a → takes_values a ≡ true
    → turn_fault (shape rules) [] (between rows p n false) x ≡ or_else (fault_in rules rows p) []
apart_turn rules rows p n x name a e l f t = rw (e, l, f, t) refl

pub apart_next : (rules : List Rule) (rows : List Row) (p : Pending) (n : ℕ) (x name : Text) (a : Rule) → bytes_eq x dashes ≡ false
    → long_of x ≡ Some (name, None) → arg_by_long rules name ≡ Some a → takes_values a ≡ true
    → walked rules [] (between rows p n false) x ≡ waits a.id (rows_in rules rows p) n
unfolding walked
apart_next rules rows p n x name a e l f t = rw (e, l, f, t) refl

-- a positional word, as the first
pub plain_turn : (rules : List Rule) (rows : List Row) (p : Pending) (x : Text) → bytes_eq x dashes ≡ false
    → long_of x ≡ None → short_of x ≡ None → arg_by_index rules 1 ≡ Some placed
    → turn_fault (shape rules) [] (between rows p 1 false) x ≡ fault_in rules rows p
plain_turn rules rows p x e l r i = rw (e, l, r, i) (settles (is_pending placed p) _)

pub plain_next : (rules : List Rule) (rows : List Row) (p : Pending) (x : Text) → bytes_eq x dashes ≡ false
    → long_of x ≡ None → short_of x ≡ None → arg_by_index rules 1 ≡ Some placed
    → walked rules [] (between rows p 1 false) x ≡ between (rows_in rules rows p) (Some (position, x ∷ [])) 2 false
unfolding walked
plain_next rules rows p x e l r i = rw (e, l, r, i) (ap (placed_at false) (settled_first rules rows p x (is_pending placed p)))

-- as a second
pub stray_turn : (rules : List Rule) (rows : List Row) (p : Pending) (x : Text) → bytes_eq x dashes ≡ false
    → long_of x ≡ None → short_of x ≡ None → arg_by_index rules 2 ≡ None
    → turn_fault (shape rules) [] (between rows p 2 false) x ≡ kind.UnknownArgument ∷ []
stray_turn rules rows p x e l r i = rw (e, l, r, i) refl

-- a name that no argument has
pub unknown_turn : (rules : List Rule) (rows : List Row) (p : Pending) (n : ℕ) (x name : Text) (v : Option Text) → bytes_eq x dashes ≡ false
    → long_of x ≡ Some (name, v) → arg_by_long rules name ≡ None
    → turn_fault (shape rules) [] (between rows p n false) x ≡ kind.UnknownArgument ∷ []
unknown_turn rules rows p n x name v e l f = rw (e, l, f) refl

-- a flag with a value
pub valued_flag_turn : (rules : List Rule) (rows : List Row) (p : Pending) (n : ℕ) (x name v : Text) (a : Rule) → bytes_eq x dashes ≡ false
    → long_of x ≡ Some (name, Some v) → arg_by_long rules name ≡ Some a → takes_values a ≡ false
    → turn_fault (shape rules) [] (between rows p n false) x ≡ kind.TooManyValues ∷ []
valued_flag_turn rules rows p n x name v a e l f t = rw (e, l, f, t) refl

-- a short flag
pub short_turn : (rules : List Rule) (rows : List Row) (p : Pending) (n : ℕ) (x : Text) (y : ℕ) (ys : Text) (c : ℕ) → bytes_eq x dashes ≡ false
    → long_of x ≡ None → short_of x ≡ Some (y ∷ ys) → slice_get (chars (y ∷ ys)) 0 ≡ Some c → arg_by_short rules c ≡ None
    → turn_fault (shape rules) [] (between rows p n false) x ≡ kind.UnknownArgument ∷ []
unfolding flags_fault bundle_met
short_turn rules rows p n x y ys c e l r q f = rw (e, l, r, q, f) refl

-- ---- where an option waits for its value

pub waits_dashes_turn : (rules : List Rule) (rows : List Row) (name : Text) (n : ℕ) (x : Text) → bytes_eq x dashes ≡ true
    → turn_fault (shape rules) [] (waits name rows n) x ≡ []
waits_dashes_turn rules rows name n x e = rw e refl

pub waits_dashes_next : (rules : List Rule) (rows : List Row) (name : Text) (n : ℕ) (x : Text) → bytes_eq x dashes ≡ true
    → walked rules [] (waits name rows n) x ≡ starved name rows n
unfolding walked
waits_dashes_next rules rows name n x e = rw e refl

pub waits_plain_turn : (rules : List Rule) (rows : List Row) (name : Text) (n : ℕ) (x : Text) → bytes_eq x dashes ≡ false
    → long_of x ≡ None → short_of x ≡ None → turn_fault (shape rules) [] (waits name rows n) x ≡ []
waits_plain_turn rules rows name n x e l r = rw (e, l, r) refl

pub waits_plain_next : (rules : List Rule) (rows : List Row) (name : Text) (n : ℕ) (x : Text) (a : Rule) → bytes_eq x dashes ≡ false
    → long_of x ≡ None → short_of x ≡ None → arg_by_id rules name ≡ Some a → bytes_eq name a.id ≡ true → most_values a ≡ 1
    → walked rules [] (waits name rows n) x ≡ between rows (Some (name, x ∷ [])) n false
unfolding walked
waits_plain_next rules rows name n x a e l r i same most = rw (e, l, r, i, same, most) refl

pub waits_short_turn : (rules : List Rule) (rows : List Row) (name : Text) (n : ℕ) (x : Text) (y : ℕ) (ys : Text) (c : ℕ) → bytes_eq x dashes ≡ false
    → long_of x ≡ None → short_of x ≡ Some (y ∷ ys) → slice_get (chars (y ∷ ys)) 0 ≡ Some c → arg_by_short rules c ≡ None
    → turn_fault (shape rules) [] (waits name rows n) x ≡ kind.UnknownArgument ∷ []
unfolding flags_fault bundle_met
waits_short_turn rules rows name n x y ys c e l r q f = rw (e, l, r, q, f) refl

pub or_else-first : (a b : Kinds) → or_else a b ≡ [] → a ≡ []
or_else-first [] b h = refl
or_else-first (k ∷ ks) b h = cc

pub or_else-second : (a b : Kinds) → or_else a b ≡ [] → b ≡ []
or_else-second [] b h = h
or_else-second (k ∷ ks) b h = cc

pub or_else-both : (a b : Kinds) → a ≡ [] → b ≡ [] → or_else a b ≡ []
or_else-both a b e f = rw e f

starts : (k : ErrorKind) (ks a : Kinds) → a ≡ k ∷ ks → a ≡ [] → ⊥
starts k ks a e h = cc

starves : (rules : List Rule) (o : Option Rule) (v : Option Text) (h : Held) (k : ErrorKind) (ks : Kinds) → settle_fault rules false h ≡ k ∷ ks
    → long_fault rules false o v h ≡ [] → ⊥
starves rules None v h k ks bad none = cc
starves rules (Some a) v h k ks bad none = by (takes_values a) v none
  where
    by : (b : Bool) (v : Option Text)
        → cond b (option_fault rules false a v h) (cond (is_some v) (kind.TooManyValues ∷ []) (react_fault rules false a [] h)) ≡ [] → ⊥
    by true None none = starts k ks _ bad none
    by true (Some v) none = starts k ks _ bad (or_else-first _ _ none)
    by false None none = starts k ks _ bad (or_else-first _ _ none)
    by false (Some v) none = cc

pub waits_long_turn : (rules : List Rule) (rows : List Row) (name : Text) (n : ℕ) (x other : Text) (v : Option Text) (k : ErrorKind) (ks : Kinds)
    → bytes_eq x dashes ≡ false → long_of x ≡ Some (other, v) → fault_in rules rows (Some (name, [])) ≡ k ∷ ks
    → turn_fault (shape rules) [] (waits name rows n) x ≡ [] → ⊥
waits_long_turn rules rows name n x other v k ks e l bad = rw (e, l) (λ h. starves rules (arg_by_long rules other) v _ k ks bad (or_else-first _ _ h))

-- ---- after `--`

pub trailing_turn : (rules : List Rule) (rows : List Row) (p : Pending) (x : Text) → arg_by_index rules 1 ≡ Some placed
    → turn_fault (shape rules) [] (between rows p 1 true) x ≡ fault_in rules rows p
trailing_turn rules rows p x i = rw i (settles (is_pending placed p) _)

pub trailing_next : (rules : List Rule) (rows : List Row) (p : Pending) (x : Text) → arg_by_index rules 1 ≡ Some placed
    → walked rules [] (between rows p 1 true) x ≡ between (rows_in rules rows p) (Some (position, x ∷ [])) 2 true
unfolding walked
trailing_next rules rows p x i = rw i (ap (placed_at true) (settled_first rules rows p x (is_pending placed p)))

pub trailing_stray : (rules : List Rule) (rows : List Row) (p : Pending) (x : Text) → arg_by_index rules 2 ≡ None
    → turn_fault (shape rules) [] (between rows p 2 true) x ≡ kind.UnknownArgument ∷ []
trailing_stray rules rows p x i = rw i refl

pub starved_turn : (rules : List Rule) (rows : List Row) (name : Text) (x : Text) → arg_by_index rules 1 ≡ Some placed
    → turn_fault (shape rules) [] (starved name rows 1) x ≡ fault_in rules rows (Some (name, []))
starved_turn rules rows name x i = rw i (settles (is_pending placed (Some (name, []))) _)

pub starved_stray : (rules : List Rule) (rows : List Row) (name : Text) (x : Text) → arg_by_index rules 2 ≡ None
    → turn_fault (shape rules) [] (starved name rows 2) x ≡ kind.UnknownArgument ∷ []
starved_stray rules rows name x i = rw i refl
