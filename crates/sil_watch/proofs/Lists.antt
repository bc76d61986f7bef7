-- Watchers of a list that take in a record one after another.
use Rattle.std.proofs.Common.{◌≡◌, ℕ, ◌+◌, ◌<◌, List, [], ◌∷◌, ◌++◌, length, map, take, drop, get_or, set, sym, ap, ◌∙◌, arith}
use Rattle.std.specs.Prelude.{Result, Ok, Err, OnErr}
use Rattle.std.proofs.lemmas.List.{map-set, map_more, take_more, get_or-map, length-map}
use Rattle.std.proofs.lemmas.List.Edits.{map_over_more}
use Rattle.std.proofs.Math.Seq.{map-set_same}

-- values that v reads of a list, of which those before i were changed by f
module _ {X W : Type 0} (v : X → W) (f : W → W) (before xs : List X) (i : ℕ) (y d : X) (within : i < length before) (size : length xs ≡ length before)
    (so_far : map v xs ≡ map f (take i (map v before)) ++ drop i (map v before)) where
  pub one_more : v y ≡ f (v (get_or xs i d)) → map v (set xs i y) ≡ map f (take (i + 1) (map v before)) ++ drop (i + 1) (map v before)
  one_more e =
      let here : i < length (map v before) = omega (arith, within, length-map before v) in
      map-set v xs i y ∙ ap (set (map v xs) i) e
      ∙ map_over_more f (map v before) (map v xs) i (v (get_or xs i d)) here so_far (sym (get_or-map v xs i d (v (get_or xs i d)) (omega (arith, within, size))))

  pub none_more : v y ≡ v (get_or xs i d) → map v (set xs i y) ≡ map f (take i (map v before)) ++ drop i (map v before)
  none_more e = map-set_same v xs i y d e ∙ so_far

-- an element more that f leaves as it is
pub one_other : {X W : Type 0} (v : X → W) (f : W → W) (all : List X) (i : ℕ) (d : X) → d ≡ get_or all i d → i < length all
    → map f (take i (map v all)) ≡ take i (map v all) → f (v d) ≡ v d → map f (take (i + 1) (map v all)) ≡ take (i + 1) (map v all)
one_other {W = W} v f all i d at within so_far e =
    let x : W = v d in
    let here : i < length (map v all) = omega (arith, within, length-map all v) in
    let is : get_or (map v all) i x ≡ x = get_or-map v all i d x within ∙ ap v (sym at) in
    map_more f (map v all) i x here ∙ ap (λ (y : W). map f (take i (map v all)) ++ y ∷ []) (ap f is ∙ e ∙ sym is)
    ∙ ap (λ (ws : List W). ws ++ get_or (map v all) i x ∷ []) so_far ∙ sym (take_more (map v all) i x here)

-- what holds whatever the answer is
pub on_error : {T E P : Type 0} (r : Result T E) → P → OnErr r P
on_error (Ok x) p = tt
on_error (Err e) p = p
