-- The place of an entry in the entries row by row.
use Rattle.std.proofs.Common.{◌≡◌, ℕ, ◌+◌, ◌*◌, ◌/◌, ◌%◌, ◌^◌, ◌<◌, slice_index, ap, ◌∙◌, refl}
use Rattle.std.proofs.lemmas.Nat.{div-add-mod', div_below, mod_below}
use Rattle.vector_laws.specs.Matrix.{Matrix, entry_of}

-- each place is that of an entry
pub entry_at : (m : Matrix) (n k : ℕ) → m.size ≡ n → entry_of m (k / n) (k % n) ≡ slice_index m.entries k
entry_at m n k e = ap (λ s. slice_index m.entries (k / n * s + k % n)) e ∙ ap (slice_index m.entries) (div-add-mod' k n)

-- two entries at one place have room in a sum where all entries have
pub room_at : (a b : Matrix) (k : ℕ) → b.size ≡ a.size → k < a.size * a.size → 0 < a.size
    → ((i j : ℕ) → i < a.size → j < a.size → entry_of a i j + entry_of b i j < 2 ^ 128) → slice_index a.entries k + slice_index b.entries k < 2 ^ 128
room_at a b k size h some room =
    let r : entry_of a (k / a.size) (k % a.size) + entry_of b (k / a.size) (k % a.size) < 2 ^ 128 =
    room (k / a.size) (k % a.size) (div_below k a.size a.size some h) (mod_below k a.size some) in
    rw (← entry_at a a.size k refl, ← entry_at b a.size k size) r
