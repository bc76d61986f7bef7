-- The texts as a format writes them, piece by piece.
use Rattle.std.proofs.Common.{◌≡◌, ℕ, List, ◌++◌, append_assoc}
use Rattle.std.specs.Prelude.{codes, decimal}
use Rattle.sil_report.specs.Texts.{counts_text, refusal}

pub counts_in_pieces : (mission phases states beats order : ℕ) →
    codes "mission " ++ (decimal mission ++ (codes "\nphases " ++ (decimal phases ++ (codes "\nstates " ++ (decimal states ++ (codes "\nbeats " ++ (decimal beats ++ (codes "\norder " ++ (decimal order ++ codes "\n")))))))))
    ≡ counts_text mission phases states beats order
unfolding counts_text
counts_in_pieces mission phases states beats order =
    regroup (codes "mission") (codes "phases") (codes "states") (codes "beats") (codes "order") (codes " ") (codes "\n") (decimal mission) (decimal phases) (decimal states) (decimal beats) (decimal order)
  where
    regroup : (m p s b o sp nl a c d e f : List ℕ) →
        (m ++ sp) ++ (a ++ ((nl ++ (p ++ sp)) ++ (c ++ ((nl ++ (s ++ sp)) ++ (d ++ ((nl ++ (b ++ sp)) ++ (e ++ ((nl ++ (o ++ sp)) ++ (f ++ nl)))))))))
        ≡ (((((m ++ sp) ++ a) ++ nl) ++ (((p ++ sp) ++ c) ++ nl)) ++ (((s ++ sp) ++ d) ++ nl)) ++ (((b ++ sp) ++ e) ++ nl) ++ (((o ++ sp) ++ f) ++ nl)
    regroup m p s b o sp nl a c d e f = simp append_assoc

pub refusal_of_one : (a : List ℕ) → codes "refused: " ++ (a ++ codes "\n") ≡ refusal a
refusal_of_one a = regroup (codes "refused: ") a (codes "\n")
  where
    regroup : (r a nl : List ℕ) → r ++ (a ++ nl) ≡ (r ++ a) ++ nl
    regroup r a nl = simp append_assoc

pub refusal_of_three : (a b c : List ℕ) → codes "refused: " ++ (a ++ (b ++ (c ++ codes "\n"))) ≡ refusal (a ++ b ++ c)
refusal_of_three a b c = regroup (codes "refused: ") a b c (codes "\n")
  where
    regroup : (r a b c nl : List ℕ) → r ++ (a ++ (b ++ (c ++ nl))) ≡ (r ++ (a ++ b ++ c)) ++ nl
    regroup r a b c nl = simp append_assoc

pub refusal_of_four : (a b c d : List ℕ) → (codes "refused: " ++ a) ++ (b ++ (c ++ (d ++ codes "\n"))) ≡ refusal (a ++ b ++ c ++ d)
refusal_of_four a b c d = regroup (codes "refused: ") a b c d (codes "\n")
  where
    regroup : (r a b c d nl : List ℕ) → (r ++ a) ++ (b ++ (c ++ (d ++ nl))) ≡ (r ++ (a ++ b ++ c ++ d)) ++ nl
    regroup r a b c d nl = simp append_assoc
