-- The numbers that watchers tell are read back from their lines.
use Rattle.std.proofs.Common.{◌≡◌, inl, ℕ, ◌<◌, ◌≤◌, ◌^◌, List, [], ◌∷◌, ◌++◌, length, map, refl, sym, ◌∙◌, arith, append_assoc, append-nil}
use Rattle.std.specs.Prelude.{codes, decimal, slice_index}
use Rattle.std.proofs.lemmas.List.{append_cancel_left}
use Rattle.sil_text.specs.Figure.{decimal18}
use Rattle.sil_text.proofs.FixedBy.{texts_fix_numbers}
use Rattle.sil_bands.specs.BandOf.{place_of}
use Rattle.sil_bands.specs.Texts.{band_text_of}
use Rattle.sil_model.specs.declared.answers.Band.{Band}
use Rattle.sil_model.specs.declared.answers.Band.TheVariants.{Beyond4, Sil4, Sil3, Sil2, Sil1, NoSil, Undecided}
use Rattle.sil_watch.specs.FixedBy.{LinesFixRecords, LinesFixPeaks, AreWritableHours, LinesFixHours}
use Rattle.sil_watch.specs.Lines.{phase_line, line_of_record, text_of_lines}
use Rattle.sil_watch.specs.Occupancy.{bands, hours_line}
use Rattle.sil_watch.specs.Peak.{end_of, peak_line, peak_lines}
use Rattle.sil_watch.specs.declared.record.PhaseRecord.{PhaseRecord}

-- a line and what is behind it, piece by piece
pieces : (index start hours mean_lo mean_hi end_lo end_hi : ℕ) (rest : List ℕ) → phase_line index start hours mean_lo mean_hi end_lo end_hi ++ rest
    ≡ codes "phase " ++ (decimal index ++ (codes " start " ++ (decimal start ++ (codes " hours " ++ (decimal hours ++ (codes " mean "
    ++ (decimal18 mean_lo ++ (codes " .. " ++ (decimal18 mean_hi ++ (codes " end " ++ (decimal18 end_lo ++ (codes " .. " ++ (decimal18 end_hi ++ rest)))))))))))))
unfolding phase_line
pieces index start hours mean_lo mean_hi end_lo end_hi rest =
    regroup (codes "phase ") (decimal index) (codes " start ") (decimal start) (codes " hours ") (decimal hours) (codes " mean ") (decimal18 mean_lo)
    (codes " .. ") (decimal18 mean_hi) (codes " end ") (decimal18 end_lo) (decimal18 end_hi) rest
  where
    regroup : (p i s t h u m a to b e c d r : List ℕ) →
        (p ++ (i ++ (s ++ (t ++ (h ++ (u ++ (m ++ ((a ++ (to ++ b)) ++ (e ++ (c ++ (to ++ d))))))))))) ++ r
        ≡ p ++ (i ++ (s ++ (t ++ (h ++ (u ++ (m ++ (a ++ (to ++ (b ++ (e ++ (c ++ (to ++ (d ++ r)))))))))))))
    regroup p i s t h u m a to b e c d r = simp append_assoc

-- a number behind a piece, and before a piece that begins with a blank
number : (m n : ℕ) (piece rest_m rest_n : List ℕ) → m < 10 ^ 64 → n < 10 ^ 64
    → piece ++ (decimal m ++ (32 ∷ rest_m)) ≡ piece ++ (decimal n ++ (32 ∷ rest_n)) → (m ≡ n) × (32 ∷ rest_m ≡ 32 ∷ rest_n)
number m n piece rest_m rest_n small_m small_n e =
    texts_fix_numbers.whole m n (32 ∷ rest_m) (32 ∷ rest_n) small_m small_n (inl (omega arith)) (inl (omega arith)) (append_cancel_left piece _ _ e)

-- an end of an interval behind a piece
figure : (v w : ℕ) (piece rest_v rest_w : List ℕ) → v < 10 ^ 82 → w < 10 ^ 82
    → piece ++ (decimal18 v ++ rest_v) ≡ piece ++ (decimal18 w ++ rest_w) → (v ≡ w) × (rest_v ≡ rest_w)
figure v w piece rest_v rest_w small_v small_w e = texts_fix_numbers.figure v w rest_v rest_w small_v small_w (append_cancel_left piece _ _ e)

upper : (hi : ℕ) → hi < 10 ^ 19 → hi < 10 ^ 82
upper hi h = omega (arith, h)

lower : (lo hi : ℕ) → lo ≤ hi → hi < 10 ^ 19 → lo < 10 ^ 82
lower lo hi o h = omega (arith, o, h)

pub line_fixed : LinesFixRecords
line_fixed q r rest_q rest_r small_q small_r e =
    let all : (s : PhaseRecord) (rest : List ℕ) → line_of_record s ++ rest
    ≡ codes "phase " ++ (decimal s.index ++ (codes " start " ++ (decimal s.start ++ (codes " hours " ++ (decimal s.hours ++ (codes " mean "
    ++ (decimal18 s.mean.lo ++ (codes " .. " ++ (decimal18 s.mean.hi ++ (codes " end " ++ (decimal18 s.at_end.lo ++ (codes " .. " ++ (decimal18 s.at_end.hi ++ rest)))))))))))))
    = λ (s : PhaseRecord) (rest : List ℕ). pieces s.index s.start s.hours s.mean.lo s.mean.hi s.at_end.lo s.at_end.hi rest in
    let index = number q.index r.index (codes "phase ") _ _ small_q.index small_r.index (sym (all q rest_q) ∙ e ∙ all r rest_r) in
    let start = number q.start r.start (codes " start ") _ _ small_q.start small_r.start index.1 in
    let hours = number q.hours r.hours (codes " hours ") _ _ small_q.hours small_r.hours start.1 in
    let mean_lo = figure q.mean.lo r.mean.lo (codes " mean ") _ _ (lower q.mean.lo q.mean.hi q.mean.ordered q.mean.printable) (lower r.mean.lo r.mean.hi r.mean.ordered r.mean.printable) hours.1 in
    let mean_hi = figure q.mean.hi r.mean.hi (codes " .. ") _ _ (upper q.mean.hi q.mean.printable) (upper r.mean.hi r.mean.printable) mean_lo.1 in
    let end_lo = figure q.at_end.lo r.at_end.lo (codes " end ") _ _ (lower q.at_end.lo q.at_end.hi q.at_end.ordered q.at_end.printable) (lower r.at_end.lo r.at_end.hi r.at_end.ordered r.at_end.printable) mean_hi.1 in
    let end_hi = figure q.at_end.hi r.at_end.hi (codes " .. ") _ _ (upper q.at_end.hi q.at_end.printable) (upper r.at_end.hi r.at_end.printable) end_lo.1 in
    (cc (index.0, start.0, hours.0, mean_lo.0, mean_hi.0, end_lo.0, end_hi.0), end_hi.1)

-- the line of a peak and what is behind it
peak_pieces : (index lo hi : ℕ) (rest : List ℕ) → text_of_lines (peak_line index lo hi ∷ []) ++ rest
    ≡ codes "peak phase " ++ (decimal index ++ (codes " end " ++ (decimal18 lo ++ (codes " .. " ++ (decimal18 hi ++ (codes "\n" ++ rest))))))
peak_pieces index lo hi rest = regroup (codes "peak phase ") (decimal index) (codes " end ") (decimal18 lo) (codes " .. ") (decimal18 hi) (codes "\n") rest
  where
    regroup : (p i e a to b nl r : List ℕ) → (((p ++ (i ++ (e ++ (a ++ (to ++ b))))) ++ nl) ++ []) ++ r ≡ p ++ (i ++ (e ++ (a ++ (to ++ (b ++ (nl ++ r))))))
    regroup p i e a to b nl r = simp (append-nil, append_assoc)

pub peak_fixed : LinesFixPeaks
peak_fixed q r rest_q rest_r small_q small_r e =
    let all : (s : PhaseRecord) (rest : List ℕ) → text_of_lines (peak_lines (end_of s)) ++ rest
    ≡ codes "peak phase " ++ (decimal s.index ++ (codes " end " ++ (decimal18 s.at_end.lo ++ (codes " .. " ++ (decimal18 s.at_end.hi ++ (codes "\n" ++ rest))))))
    = λ (s : PhaseRecord) (rest : List ℕ). peak_pieces s.index s.at_end.lo s.at_end.hi rest in
    let index = number q.index r.index (codes "peak phase ") _ _ small_q.index small_r.index (sym (all q rest_q) ∙ e ∙ all r rest_r) in
    let end_lo = figure q.at_end.lo r.at_end.lo (codes " end ") _ _ (lower q.at_end.lo q.at_end.hi q.at_end.ordered q.at_end.printable) (lower r.at_end.lo r.at_end.hi r.at_end.ordered r.at_end.printable) index.1 in
    let end_hi = figure q.at_end.hi r.at_end.hi (codes " .. ") _ _ (upper q.at_end.hi q.at_end.printable) (upper r.at_end.hi r.at_end.printable) end_lo.1 in
    (cc (index.0, end_lo.0, end_hi.0), append_cancel_left (codes "\n") rest_q rest_r end_hi.1)

-- the line of a band's hours
one_band : (band : Band) (g h : ℕ) (rest_g rest_h : List ℕ) → g < 10 ^ 64 → h < 10 ^ 64
    → hours_line band g ++ (codes "\n" ++ rest_g) ≡ hours_line band h ++ (codes "\n" ++ rest_h) → (g ≡ h) × (rest_g ≡ rest_h)
one_band band g h rest_g rest_h small_g small_h e =
    let all : (n : ℕ) (rest : List ℕ) → hours_line band n ++ (codes "\n" ++ rest) ≡ codes "hours " ++ (band_text_of band ++ (codes " " ++ (decimal n ++ (codes "\n" ++ rest))))
    = λ (n : ℕ) (rest : List ℕ). regroup (codes "hours ") (band_text_of band) (codes " ") (decimal n) (codes "\n" ++ rest) in
    let from_band = append_cancel_left (codes "hours ") _ _ (sym (all g rest_g) ∙ e ∙ all h rest_h) in
    let number = append_cancel_left (codes " ") _ _ (append_cancel_left (band_text_of band) _ _ from_band) in
    let read = texts_fix_numbers.whole g h (codes "\n" ++ rest_g) (codes "\n" ++ rest_h) small_g small_h (inl (omega arith)) (inl (omega arith)) number in
    (read.0, append_cancel_left (codes "\n") rest_g rest_h read.1)
  where
    regroup : (p b sp d r : List ℕ) → (p ++ (b ++ (sp ++ d))) ++ r ≡ p ++ (b ++ (sp ++ (d ++ r)))
    regroup p b sp d r = simp append_assoc

-- the hours of these bands are the same
abbrev AreSame : List ℕ → List ℕ → List Band → Type 0
AreSame g h [] = Unit {0}
AreSame g h (band ∷ bs) = (slice_index g (place_of band) ≡ slice_index h (place_of band)) × AreSame g h bs

abbrev lines_of_bands : List ℕ → List Band → List ℕ
lines_of_bands hours bs = text_of_lines (map (λ band. hours_line band (slice_index hours (place_of band))) bs)

place_within : (band : Band) → place_of band < 7
place_within Beyond4 = omega arith
place_within Sil4 = omega arith
place_within Sil3 = omega arith
place_within Sil2 = omega arith
place_within Sil1 = omega arith
place_within NoSil = omega arith
place_within Undecided = omega arith

each_band : (g h : List ℕ) → AreWritableHours g → AreWritableHours h → (bs : List Band) (rest_g rest_h : List ℕ)
    → lines_of_bands g bs ++ rest_g ≡ lines_of_bands h bs ++ rest_h → AreSame g h bs × (rest_g ≡ rest_h)
each_band g h small_g small_h [] rest_g rest_h e = (tt, e)
each_band g h small_g small_h (band ∷ bs) rest_g rest_h e =
    let here = place_within band in
    let all : (hours rest : List ℕ) → lines_of_bands hours (band ∷ bs) ++ rest ≡ hours_line band (slice_index hours (place_of band)) ++ (codes "\n" ++ (lines_of_bands hours bs ++ rest))
    = λ (hours rest : List ℕ). regroup (hours_line band (slice_index hours (place_of band))) (codes "\n") (lines_of_bands hours bs) rest in
    let first = one_band band (slice_index g (place_of band)) (slice_index h (place_of band)) _ _
    (small_g.small (place_of band) 0 (omega (arith, small_g.seven, here))) (small_h.small (place_of band) 0 (omega (arith, small_h.seven, here))) (sym (all g rest_g) ∙ e ∙ all h rest_h) in
    let further = each_band g h small_g small_h bs rest_g rest_h first.1 in
    ((first.0, further.0), further.1)
  where
    regroup : (l nl ls r : List ℕ) → ((l ++ nl) ++ ls) ++ r ≡ l ++ (nl ++ (ls ++ r))
    regroup l nl ls r = simp append_assoc

seven_of : (hours : List ℕ) → length hours ≡ 7 → hours ≡ map (λ band. slice_index hours (place_of band)) bands
seven_of [] e = let none : ⊥ = omega arith in absurd none
seven_of (a ∷ []) e = let none : ⊥ = omega arith in absurd none
seven_of (a ∷ b ∷ []) e = let none : ⊥ = omega arith in absurd none
seven_of (a ∷ b ∷ c ∷ []) e = let none : ⊥ = omega arith in absurd none
seven_of (a ∷ b ∷ c ∷ d ∷ []) e = let none : ⊥ = omega arith in absurd none
seven_of (a ∷ b ∷ c ∷ d ∷ f ∷ []) e = let none : ⊥ = omega arith in absurd none
seven_of (a ∷ b ∷ c ∷ d ∷ f ∷ g ∷ []) e = let none : ⊥ = omega arith in absurd none
seven_of (a ∷ b ∷ c ∷ d ∷ f ∷ g ∷ h ∷ []) e = refl
seven_of (a ∷ b ∷ c ∷ d ∷ f ∷ g ∷ h ∷ i ∷ more) e = let none : ⊥ = omega arith in absurd none

of_bands : (g h : List ℕ) → AreSame g h bands → ◌≡◌ {A = List ℕ} (map (λ band. slice_index g (place_of band)) bands) (map (λ band. slice_index h (place_of band)) bands)
of_bands g h same = cc

pub hours_fixed : LinesFixHours
hours_fixed g h rest_g rest_h small_g small_h e =
    let all = each_band g h small_g small_h bands rest_g rest_h e in
    (seven_of g small_g.seven ∙ of_bands g h all.0 ∙ sym (seven_of h small_h.seven), all.1)
