-- What pieces of bytes come to, and what was offered piece by piece.
use Rattle.std.proofs.Common.{◌≡◌, ℕ, ◌<◌, ◌++◌, List, [], ◌∷◌, Option, Some, map, drop, length, suc, zero, refl, sym, ◌∙◌, ap, append_assoc, arith}
use Rattle.std.specs.List.{concat, last_or, All}
use Rattle.std.proofs.lemmas.List.{append-nil, map-append}
use Rattle.std.proofs.lemmas.List.Elements.{All-nil, All-cons, All-get_or, All-push, All-weaker}
use Rattle.std.proofs.lemmas.List.Folds.{concat-append}
use Rattle.std.proofs.lemmas.List.Quantifiers.{all_pairs_push}
use Rattle.sil_io.specs.Bytes.{OffersWhole}

-- one piece more
pub concat-push : (pieces : List (List ℕ)) (piece : List ℕ) → concat (pieces ++ piece ∷ []) ≡ concat pieces ++ piece
concat-push pieces piece = concat-append pieces (piece ∷ []) ∙ ap (λ xs. concat pieces ++ xs) (append-nil piece)

-- the last name is the one that came last
pub last_or-push : (first : Option (List ℕ)) (names : List (List ℕ)) (name : List ℕ) → last_or first (names ++ name ∷ []) ≡ Some name
last_or-push first [] name = refl
last_or-push first (x ∷ names) name = last_or-push (Some x) names name

-- the text was offered whole, and before each piece fewer bytes than these were taken
abbrev pub OffersBelow : ℕ → List ℕ → List (List ℕ) → List (List ℕ) → Type 0
OffersBelow done text before now = (whole : OffersWhole text before now) × All (λ front. front < done) (0 ∷ whole.fronts)

-- what is left of the text after so many bytes is offered
pub offers-more : (text piece : List ℕ) (done next : ℕ) (before now after : List (List ℕ)) → piece ≡ drop done text → done < length text → done < next
    → (done ≡ 0 → now ≡ before) → (0 < done → OffersBelow done text before now) → after ≡ now ++ piece ∷ [] → OffersBelow next text before after
offers-more text piece zero next before now after rest some more begun so_far pushed = (
  record {
    fronts = [];
    longer = λ i j d earlier within. absurd (omega arith);
    not_all = All-cons (λ front. front < length text) 0 [] some (All-nil (λ front. front < length text));
    offered = pushed ∙ ap (λ xs. xs ++ piece ∷ []) (begun refl) ∙ ap (λ p. before ++ p ∷ []) rest;
  },
  All-cons (λ front. front < next) 0 [] more (All-nil (λ front. front < next)),
)
offers-more text piece (suc d) next before now after rest some more begun so_far pushed =
    let held : OffersBelow (suc d) text before now = so_far (omega arith) in
    let w = held.0 in
    let pieces = map (λ front. drop front text) (0 ∷ w.fronts) in (
      record {
        fronts = w.fronts ++ suc d ∷ [];
        longer = all_pairs_push (λ front next. front < next) (0 ∷ w.fronts) (suc d) w.longer
            (λ k e within. All-get_or (λ front. front < suc d) (0 ∷ w.fronts) k e within held.1);
        not_all = All-push (λ front. front < length text) (0 ∷ w.fronts) (suc d) w.not_all some;
        offered = pushed ∙ ap (λ xs. xs ++ piece ∷ []) w.offered ∙ append_assoc before pieces (piece ∷ []) ∙ ap (λ p. before ++ (pieces ++ p ∷ [])) rest
            ∙ ap (λ xs. before ++ xs) (sym (map-append (λ front. drop front text) (0 ∷ w.fronts) (suc d ∷ [])));
      },
      All-push (λ front. front < next) (0 ∷ w.fronts) (suc d)
          (All-weaker (λ front. front < suc d) (λ front. front < next) (λ front below. omega (arith, below, more)) (0 ∷ w.fronts) held.1) more,
    )
