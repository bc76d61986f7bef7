-- What lies in a buffer that is filled piece by piece.
use Rattle.std.proofs.Common.{◌≡◌, ℕ, ◌+◌, ◌≤◌, ◌++◌, List, take, drop, length, sym, ◌∙◌, ap, append_assoc}
use Rattle.std.proofs.Math.Seq.{take-add, take-append-add}
use Rattle.std.proofs.lemmas.List.{take-append-drop, take-append-le, take-take, length-take-le}

-- a piece after a front of f elements: the first f + n are the front and the piece's first n
pub take-front-piece : (f n : ℕ) (front piece rest : List ℕ) → length front ≡ f → n ≤ length piece
    → take (f + n) (front ++ (piece ++ rest)) ≡ front ++ take n piece
take-front-piece f n front piece rest e h =
    let joined : take (length front + n) (front ++ (piece ++ rest)) ≡ front ++ take n (piece ++ rest) = take-append-add front (piece ++ rest) n in
    let cut : take n (piece ++ rest) ≡ take n piece = take-append-le n piece rest h in
    rw (← e) (joined ∙ ap (λ xs. front ++ xs) cut)

-- the same in a buffer that keeps its size
pub take-filled : (f n size : ℕ) (buffer piece after rest : List ℕ) → f ≤ length buffer → n ≤ length piece → f + n ≤ size
    → take (f + n) (take size ((take f buffer ++ (piece ++ after)) ++ rest)) ≡ take f buffer ++ take n piece
take-filled f n size buffer piece after rest in_buffer in_piece in_size =
    take-take (f + n) size _ in_size
    ∙ ap (take (f + n)) (append_assoc (take f buffer) (piece ++ after) rest ∙ ap (λ xs. take f buffer ++ xs) (append_assoc piece after rest))
    ∙ take-front-piece f n (take f buffer) piece (after ++ rest) (length-take-le f buffer in_buffer) in_piece

-- what was left at first, after a read of n more
pub taken-more : (f n : ℕ) (all buffer left piece filled now : List ℕ) → all ≡ take f buffer ++ left
    → filled ≡ take f buffer ++ take n piece → take n piece ≡ take n left → now ≡ drop n left → all ≡ filled ++ now
taken-more f n all buffer left piece filled now before more given rest =
    before
    ∙ ap (λ xs. take f buffer ++ xs) (sym (take-append-drop n left))
    ∙ sym (append_assoc (take f buffer) (take n left) (drop n left))
    ∙ ap (λ xs. (take f buffer ++ xs) ++ drop n left) (sym given)
    ∙ ap (λ xs. xs ++ drop n left) (sym more)
    ∙ ap (λ xs. filled ++ xs) (sym rest)

-- what was sent, and the first n of what comes next
pub sent-more : (d n m : ℕ) (before text : List ℕ) → n ≤ m
    → (before ++ take d text) ++ take n (take m (drop d text)) ≡ before ++ take (d + n) text
sent-more d n m before text h =
    ap (λ xs. (before ++ take d text) ++ xs) (take-take n m (drop d text) h)
    ∙ append_assoc before (take d text) (take n (drop d text))
    ∙ ap (λ xs. before ++ xs) (sym (take-add d n text))
