-- Names that are kept as references, and the texts that they show.
use Rattle.std.proofs.Common.{◌≡◌, ◌<◌, ℕ, zero, suc, Bool, true, false, ◌||◌, List, [], ◌∷◌, length, map, get_or, Bor, Ok, Err, refl, arith}
use Rattle.std.specs.List.{list_any}
use Rattle.std.specs.Str.{bytes_eq}
use Rattle.loop_file.specs.declared.given.Given.{Given}
use Rattle.loop_file.specs.declared.fault.Flaw.TheVariants.{UnknownType}
use Rattle.loop_file.specs.LoopFile.{given_by}

pub any_shown : (p : List ℕ → Bool) (ks : List (Bor (List ℕ))) → list_any (λ k. p k.now) ks ≡ list_any p (map (λ k. k.now) ks)
any_shown p [] = refl
any_shown p (k ∷ ks) = rw (any_shown p ks) refl

pub given_found : (name : List ℕ) (keys : List (Bor (List ℕ))) (gs : List Given) (i : ℕ) (d : Given) (e : Bor (List ℕ)) → length keys ≡ length gs → i < length keys
    → bytes_eq name (get_or keys i e).now ≡ true → ((k : ℕ) → k < i → bytes_eq name (get_or keys k e).now ≡ false)
    → given_by (map (λ k. k.now) keys) gs name ≡ Ok (get_or gs i d)
given_found name [] gs i d e same within here before = absurd (omega arith)
given_found name (k ∷ keys) [] i d e same within here before = absurd (omega arith)
given_found name (k ∷ keys) (g ∷ gs) zero d e same within here before = rw here refl
given_found name (k ∷ keys) (g ∷ gs) (suc i) d e same within here before =
    rw (before 0 (omega arith)) (given_found name keys gs i d e (omega arith) (omega arith) here (λ j h. before (suc j) (omega arith)))

pub or_false : (a b : Bool) → (a || b) ≡ false → (a ≡ false) × (b ≡ false)
or_false true b h = cc
or_false false b h = (refl, h)

pub given_missing : (name : List ℕ) (keys : List (Bor (List ℕ))) (gs : List Given) → list_any (λ k. bytes_eq name k.now) keys ≡ false
    → given_by (map (λ k. k.now) keys) gs name ≡ Err UnknownType
given_missing name [] gs none = refl
given_missing name (k ∷ keys) [] none = refl
given_missing name (k ∷ keys) (g ∷ gs) none =
    let parts : (bytes_eq name k.now ≡ false) × (list_any (λ k. bytes_eq name k.now) keys ≡ false) = or_false _ _ none in
    rw parts.0 (given_missing name keys gs parts.1)
