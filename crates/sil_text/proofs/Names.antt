-- The test of a name decides it.
use Rattle.std.proofs.Common.{◌≡◌, ℕ, Bool, true, ◌&&◌, leb, List, length, All, Decides}
use Rattle.std.specs.List.{list_all}
use Rattle.std.proofs.lemmas.Bool.Decides.{Decides-and, Decides-like}
use Rattle.std.proofs.lemmas.List.Sums.{AllPass-from_list_all, list_all-from_AllPass}
use Rattle.std.proofs.lemmas.List.Elements.{All-weaker}
use Rattle.sil_model.specs.LoopValue.{IsName, IsWithin}
use Rattle.sil_text.specs.Name.{is_name_text}
use Rattle.sil_text.proofs.Decisions.{decides_le}

decides_plain : (bytes : List ℕ) → Decides (list_all (λ byte. leb 32 byte && leb byte 126) bytes) (All (IsWithin 32 126) bytes)
decides_plain bytes =
    let test : ℕ → Bool = λ byte. leb 32 byte && leb byte 126 in
    let Plain : ℕ → Type 0 = IsWithin 32 126 in (
      λ e. All-weaker (λ byte. test byte ≡ true) Plain (λ byte h. let p = (Decides-and _ _ (decides_le 32 byte) (decides_le byte 126)).0 h in record { above = p.0; below = p.1 }) bytes (AllPass-from_list_all test bytes e),
      λ h. list_all-from_AllPass test bytes (All-weaker Plain (λ byte. test byte ≡ true) (λ byte p. (Decides-and _ _ (decides_le 32 byte) (decides_le byte 126)).1 (p.above, p.below)) bytes h),
    )

pub decides_name : (bytes : List ℕ) → Decides (is_name_text bytes) (IsName bytes)
unfolding is_name_text
decides_name bytes =
    Decides-like _
    (λ h. record { size = record { above = h.0.0; below = h.0.1 }; printable = h.1 })
    (λ h. ((h.size.above, h.size.below), h.printable))
    (Decides-and _ _ (Decides-and _ _ (decides_le 1 (length bytes)) (decides_le (length bytes) 32)) (decides_plain bytes))
