-- Pieces that are put one after another.
use Rattle.std.proofs.Common.{◌≡◌, ℕ, ◌+◌, ◌<◌, List, ◌++◌, length, map, take, get_or, sym, ap, ◌∙◌, arith}
use Rattle.std.specs.List.{flat_map}
use Rattle.std.proofs.lemmas.List.{flat_map_more, take_more, get_or-map, length-map}

-- one piece more
piece_more : {X : Type 0} (f : X → List ℕ) (xs : List X) (i : ℕ) (before now after : List ℕ) (d : X) → now ≡ before ++ flat_map f (take i xs)
    → i < length xs → after ≡ now ++ f (get_or xs i d) → after ≡ before ++ flat_map f (take (i + 1) xs)
piece_more {X = X} f xs i before now after d so_far within put =
    put ∙ ap (λ (text : List ℕ). text ++ f (get_or xs i d)) so_far ∙ flat_map_more f before (take i xs) (get_or xs i d)
    ∙ ap (λ (ys : List X). before ++ flat_map f ys) (sym (take_more xs i d within))

-- the same of what v reads of a list
pub piece_of : {B X : Type 0} (v : B → X) (f : X → List ℕ) (all : List B) (i : ℕ) (before now after : List ℕ) (d : B)
    → now ≡ before ++ flat_map f (take i (map v all)) → d ≡ get_or all i d → i < length all → after ≡ now ++ f (v d)
    → after ≡ before ++ flat_map f (take (i + 1) (map v all))
piece_of {X = X} v f all i before now after d so_far at within put =
    let is : get_or (map v all) i (v d) ≡ v d = get_or-map v all i d (v d) within ∙ ap v (sym at) in
    piece_more f (map v all) i before now after (v d) so_far (omega (arith, within, length-map all v)) (put ∙ ap (λ (x : X). now ++ f x) (sym is))
