-- The lines of a series are those of its records.
use Rattle.std.proofs.Common.{◌≡◌, ℕ, ◌<◌, List, [], ◌∷◌, ◌++◌, length, get_or, refl, ap, ◌∙◌, append_assoc}
use Rattle.std.specs.Prelude.{codes, decimal, map}
use Rattle.std.proofs.lemmas.List.{get_or-map, length-map}
use Rattle.sil_watch.specs.Lines.{interval_text, phase_line, line_of_record}
use Rattle.sil_watch.specs.Series.{series_lines, series_value}
use Rattle.sil_watch.specs.Records.{numbers_of, numbers_of_all}
use Rattle.sil_watch.specs.Watching.{fed_with, fold_of}
use Rattle.sil_watch.specs.declared.record.PhaseRecord.{PhaseRecord}

-- a record more
pub numbers_more : (rs : List PhaseRecord) (r : PhaseRecord) → numbers_of_all (rs ++ r ∷ []) ≡ numbers_of_all rs ++ numbers_of r
numbers_more [] r = refl
numbers_more (q ∷ rs) r = ap (λ (ns : List ℕ). numbers_of q ++ ns) (numbers_more rs r)

pub series-more : (rs : List PhaseRecord) (r : PhaseRecord) → series_value (rs ++ r ∷ []) ≡ fed_with (r ∷ []) (series_value rs)
unfolding fold_of
series-more rs r = cc (numbers_more rs r)

lines_of_records : (rs : List PhaseRecord) → series_lines (numbers_of_all rs) ≡ map line_of_record rs
lines_of_records [] = refl
lines_of_records (r ∷ rs) = ap (λ (ls : List (List ℕ)). line_of_record r ∷ ls) (lines_of_records rs)

-- as many lines as records
pub lines_count : (rs : List PhaseRecord) → length (series_lines (numbers_of_all rs)) ≡ length rs
lines_count rs = ap (λ (ls : List (List ℕ)). length ls) (lines_of_records rs) ∙ length-map rs line_of_record

pub line_at : (rs : List PhaseRecord) (i : ℕ) (r : PhaseRecord) → i < length rs → get_or rs i r ≡ r
    → get_or (series_lines (numbers_of_all rs)) i [] ≡ line_of_record r
line_at rs i r within is =
    ap (λ (ls : List (List ℕ)). get_or ls i []) (lines_of_records rs) ∙ get_or-map line_of_record rs i r [] within ∙ ap line_of_record is

-- the pieces of a line as they are put one after another
pub line_in_pieces : (index start hours mean_lo mean_hi end_lo end_hi : ℕ) (nl : List ℕ) →
    (((codes "phase " ++ (decimal index ++ (codes " start " ++ (decimal start ++ (codes " hours " ++ decimal hours)))))
    ++ (codes " mean " ++ interval_text mean_lo mean_hi)) ++ (codes " end " ++ interval_text end_lo end_hi)) ++ nl
    ≡ phase_line index start hours mean_lo mean_hi end_lo end_hi ++ nl
unfolding phase_line
line_in_pieces index start hours mean_lo mean_hi end_lo end_hi nl =
    regroup (codes "phase ") (decimal index) (codes " start ") (decimal start) (codes " hours ") (decimal hours)
    (codes " mean ") (interval_text mean_lo mean_hi) (codes " end ") (interval_text end_lo end_hi) nl
  where
    regroup : (p i s t h u m x e y nl : List ℕ) →
        (((p ++ (i ++ (s ++ (t ++ (h ++ u))))) ++ (m ++ x)) ++ (e ++ y)) ++ nl ≡ (p ++ (i ++ (s ++ (t ++ (h ++ (u ++ (m ++ (x ++ (e ++ y))))))))) ++ nl
    regroup p i s t h u m x e y nl = simp append_assoc
