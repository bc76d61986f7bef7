-- The numbers of a report are read back from its lines.
use Rattle.std.proofs.Common.{◌≡◌, inl, ℕ, Bool, true, false, List, [], ◌∷◌, ◌++◌, drop, refl, sym, ap, ◌∙◌, arith, append_assoc}
use Rattle.std.specs.Prelude.{codes, decimal, nat_eq, ◌&&◌, if◌then◌else◌}
use Rattle.std.proofs.lemmas.List.{append_cancel_left}
use Rattle.sil_model.specs.declared.answers.Band.{Band}
use Rattle.sil_model.specs.declared.answers.Band.TheVariants.{Beyond4, Sil4, Sil3, Sil2, Sil1, NoSil, Undecided}
use Rattle.sil_bands.specs.Texts.{band_text_of}
use Rattle.sil_text.specs.Figure.{decimal18}
use Rattle.sil_text.proofs.FixedBy.{texts_fix_numbers}
use Rattle.sil_report.specs.Texts.{count_line, counts_text}
use Rattle.sil_report.specs.FixedBy.{Interval, Counts, IsWritable, AreWritableCounts, AreWritableEnds, line_of_interval, lines_of_counts, LinesFixNumbers}

begins : List ℕ → List ℕ → Bool
begins [] text = true
begins (c ∷ cs) [] = false
begins (c ∷ cs) (d ∷ text) = nat_eq c d && begins cs text

-- the band that a text begins with, and what is behind its line
pub record Read : Type 0 where
  pub band : Band
  pub rest : List ℕ

abbrev read_band : List ℕ → Read
unfolding begins
read_band text =
    if begins (codes "beyond") text then record { band = Beyond4; rest = drop 13 text } else
    if begins (codes "SIL 4") text then record { band = Sil4; rest = drop 6 text } else
    if begins (codes "SIL 3") text then record { band = Sil3; rest = drop 6 text } else
    if begins (codes "SIL 2") text then record { band = Sil2; rest = drop 6 text } else
    if begins (codes "SIL 1") text then record { band = Sil1; rest = drop 6 text } else
    if begins (codes "no SIL") text then record { band = NoSil; rest = drop 7 text } else
    record { band = Undecided; rest = drop 10 text }

band_read : (band : Band) (rest : List ℕ) → read_band (band_text_of band ++ (codes "\n" ++ rest)) ≡ record { band = band; rest = rest }
unfolding begins
band_read Beyond4 rest = refl
band_read Sil4 rest = refl
band_read Sil3 rest = refl
band_read Sil2 rest = refl
band_read Sil1 rest = refl
band_read NoSil rest = refl
band_read Undecided rest = refl

band_fixed : (a b : Band) (rest_a rest_b : List ℕ) → band_text_of a ++ (codes "\n" ++ rest_a) ≡ band_text_of b ++ (codes "\n" ++ rest_b) → (a ≡ b) × (rest_a ≡ rest_b)
band_fixed a b rest_a rest_b e =
    let same = sym (band_read a rest_a) ∙ ap read_band e ∙ band_read b rest_b in
    (ap (λ (r : Read). r.band) same, ap (λ (r : Read). r.rest) same)

-- a line piece by piece
interval_regroup : (n sp l to h b nl rest : List ℕ) → (((((((n ++ sp) ++ l) ++ to) ++ h) ++ sp) ++ b) ++ nl) ++ rest ≡ n ++ (sp ++ (l ++ (to ++ (h ++ (sp ++ (b ++ (nl ++ rest)))))))
interval_regroup n sp l to h b nl rest = simp append_assoc

interval_fixed : (name : List ℕ) (i j : Interval) (rest_i rest_j : List ℕ) → AreWritableEnds i → AreWritableEnds j
    → line_of_interval name i ++ rest_i ≡ line_of_interval name j ++ rest_j → (i ≡ j) × (rest_i ≡ rest_j)
interval_fixed name i j rest_i rest_j small_i small_j e =
    let pieces : (k : Interval) (rest : List ℕ) → line_of_interval name k ++ rest ≡ name ++ (codes " " ++ (decimal18 k.lo ++ (codes " .. " ++ (decimal18 k.hi ++ (codes " " ++ (band_text_of k.band ++ (codes "\n" ++ rest)))))))
    = λ (k : Interval) (rest : List ℕ). interval_regroup name (codes " ") (decimal18 k.lo) (codes " .. ") (decimal18 k.hi) (band_text_of k.band) (codes "\n") rest in
    let from_lo = append_cancel_left (codes " ") _ _ (append_cancel_left name _ _ (sym (pieces i rest_i) ∙ e ∙ pieces j rest_j)) in
    let lo = texts_fix_numbers.figure i.lo j.lo _ _ small_i.lo small_j.lo from_lo in
    let hi = texts_fix_numbers.figure i.hi j.hi _ _ small_i.hi small_j.hi (append_cancel_left (codes " .. ") _ _ lo.1) in
    let band = band_fixed i.band j.band rest_i rest_j (append_cancel_left (codes " ") _ _ hi.1) in
    (λ x. record { lo = lo.0 x; hi = hi.0 x; band = band.0 x }, band.1)

count_regroup : (n sp d nl rest : List ℕ) → (((n ++ sp) ++ d) ++ nl) ++ rest ≡ n ++ (sp ++ (d ++ (nl ++ rest)))
count_regroup n sp d nl rest = simp append_assoc

count_fixed : (name : List ℕ) (m n : ℕ) (rest_m rest_n : List ℕ) → IsWritable m → IsWritable n → count_line name m ++ rest_m ≡ count_line name n ++ rest_n → (m ≡ n) × (rest_m ≡ rest_n)
count_fixed name m n rest_m rest_n small_m small_n e =
    let pieces : (k : ℕ) (rest : List ℕ) → count_line name k ++ rest ≡ name ++ (codes " " ++ (decimal k ++ (codes "\n" ++ rest))) = λ (k : ℕ) (rest : List ℕ). count_regroup name (codes " ") (decimal k) (codes "\n") rest in
    let number = append_cancel_left (codes " ") _ _ (append_cancel_left name _ _ (sym (pieces m rest_m) ∙ e ∙ pieces n rest_n)) in
    let read = texts_fix_numbers.whole m n (codes "\n" ++ rest_m) (codes "\n" ++ rest_n) small_m small_n (inl (omega arith)) (inl (omega arith)) number in
    (read.0, append_cancel_left (codes "\n") rest_m rest_n read.1)

counts_regroup : (m p s b o rest : List ℕ) → ((((m ++ p) ++ s) ++ b) ++ o) ++ rest ≡ m ++ (p ++ (s ++ (b ++ (o ++ rest))))
counts_regroup m p s b o rest = simp append_assoc

counts_fixed : (c d : Counts) (rest_c rest_d : List ℕ) → AreWritableCounts c → AreWritableCounts d → lines_of_counts c ++ rest_c ≡ lines_of_counts d ++ rest_d → (c ≡ d) × (rest_c ≡ rest_d)
unfolding counts_text
counts_fixed c d rest_c rest_d small_c small_d e =
    let pieces : (k : Counts) (rest : List ℕ) → lines_of_counts k ++ rest ≡ count_line (codes "mission") k.mission ++ (count_line (codes "phases") k.phases ++ (count_line (codes "states") k.states ++ (count_line (codes "beats") k.beats ++ (count_line (codes "order") k.order ++ rest))))
    = λ (k : Counts) (rest : List ℕ). counts_regroup (count_line (codes "mission") k.mission) (count_line (codes "phases") k.phases) (count_line (codes "states") k.states) (count_line (codes "beats") k.beats) (count_line (codes "order") k.order) rest in
    let mission = count_fixed (codes "mission") c.mission d.mission _ _ small_c.mission small_d.mission (sym (pieces c rest_c) ∙ e ∙ pieces d rest_d) in
    let phases = count_fixed (codes "phases") c.phases d.phases _ _ small_c.phases small_d.phases mission.1 in
    let states = count_fixed (codes "states") c.states d.states _ _ small_c.states small_d.states phases.1 in
    let beats = count_fixed (codes "beats") c.beats d.beats _ _ small_c.beats small_d.beats states.1 in
    let order = count_fixed (codes "order") c.order d.order _ _ small_c.order small_d.order beats.1 in
    (λ x. record { mission = mission.0 x; phases = phases.0 x; states = states.0 x; beats = beats.0 x; order = order.0 x }, order.1)

pub lines_fix_numbers : LinesFixNumbers
lines_fix_numbers = record { interval = interval_fixed; counts = counts_fixed }
