-- What was handed out, piece by piece.
use Rattle.std.proofs.Common.{◌≡◌, ℕ, ◌+◌, ◌-◌, ◌≤◌, ◌++◌, List, take, drop, length, min, sym, ◌∙◌, ap, append_assoc, arith}
use Rattle.std.proofs.Math.Seq.{take-add}
use Rattle.std.proofs.lemmas.List.{take-append-le, take-take, take_all, length-take-le, length-drop}
use Rattle.sil_io.specs.Handed.{Handed, handed_more}

-- two pieces are one
pub handed-more : (h : Handed) (xs ys : List ℕ) → handed_more (handed_more h xs) ys ≡ handed_more h (xs ++ ys)
handed-more h xs ys = ap (λ bytes. record { name = h.name; bytes = bytes }) (append_assoc h.bytes xs ys)

-- a piece after a piece
pub handed-more_is : (before : Handed) (xs ys : List ℕ) {now after : Handed} {all : List ℕ} → after ≡ handed_more now ys → now ≡ handed_more before xs → all ≡ xs ++ ys
    → after ≡ handed_more before all
handed-more_is before xs ys more so_far e =
    more ∙ ap (λ h. handed_more h ys) so_far ∙ handed-more before xs ys ∙ ap (handed_more before) (sym e)

-- the front of a file, and what is given of the rest, which is all from there on
pub front-given : (read n room : ℕ) (bytes whole after buf : List ℕ) → whole ≡ bytes
    → n ≡ min room (length (take (length whole - read) (drop read whole))) → buf ≡ take n (take (length whole - read) (drop read whole)) ++ after
    → take (read + n) bytes ≡ take read bytes ++ take n buf
front-given read n room bytes whole after buf same count e =
    let rest : List ℕ = drop read whole in
    let all : take (length whole - read) rest ≡ rest = take_all (length whole - read) rest (omega (arith, length-drop read whole)) in
    let fits : n ≤ length rest = omega (arith, count, ap length all) in
    let taken : length (take n rest) ≡ n = length-take-le n rest fits in
    let front : take n buf ≡ take n rest =
    ap (take n) (e ∙ ap (λ xs. take n xs ++ after) all) ∙ take-append-le n (take n rest) after (omega (arith, taken)) ∙ take-take n n rest (omega arith) in
    rw (← same) (take-add read n whole ∙ ap (λ xs. take read whole ++ xs) (sym front))
