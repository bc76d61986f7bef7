-- A report has at most 1,024 bytes.
use Rattle.std.proofs.Common.{◌≡◌, ℕ, ◌+◌, ◌≤◌, ◌/◌, ◌^◌, List, ◌∷◌, ◌++◌, length, arith}
use Rattle.std.specs.Prelude.{codes, decimal, ◌-◌}
use Rattle.std.proofs.lemmas.List.{length-append}
use Rattle.std.proofs.lemmas.List.FromFn.{length-map-range_with_len}
use Rattle.sil_model.specs.declared.answers.Band.{Band}
use Rattle.sil_model.specs.declared.answers.Band.TheVariants.{Beyond4, Sil4, Sil3, Sil2, Sil1, NoSil, Undecided}
use Rattle.sil_text.specs.Figure.{decimal18, digits_behind, digit_at}
use Rattle.loop_print.proofs.Lengths.{length-decimal, two}
use Rattle.sil_report.specs.Texts.{count_line, counts_text}
use Rattle.sil_bands.specs.Texts.{band_text_of}
use Rattle.sil_report.specs.Intervals.{interval_line}
use Rattle.sil_report.specs.FixedBy.{Interval, Counts}
use Rattle.sil_report.specs.Reports.{report_lines}

length-decimal18 : (v : ℕ) → length (decimal18 v) ≤ 83
unfolding decimal18
length-decimal18 v =
    let whole = length-decimal (v / 10 ^ 18) in
    let behind : length (digits_behind v) ≡ 18 = length-map-range_with_len (λ k. digit_at v (17 - k)) 0 18 in
    omega (arith, whole, behind, length-append (decimal (v / 10 ^ 18)) (46 ∷ digits_behind v))

length-band : (band : Band) → length (band_text_of band) ≤ 12
length-band Beyond4 = omega arith
length-band Sil4 = omega arith
length-band Sil3 = omega arith
length-band Sil2 = omega arith
length-band Sil1 = omega arith
length-band NoSil = omega arith
length-band Undecided = omega arith

same : (s : List ℕ) → length s ≤ length s
same s = omega arith

length-count : (name : List ℕ) (n : ℕ) → length (count_line name n) ≤ length name + 66
length-count name n =
    let all : length (((name ++ codes " ") ++ decimal n) ++ codes "\n") ≤ ((length name + 1) + 64) + 1
    = two _ _ _ _ (two _ _ _ _ (two _ _ _ _ (same name) (same (codes " "))) (length-decimal n)) (same (codes "\n")) in omega (arith, all)

five : (p q r s t : List ℕ) → length ((((p ++ q) ++ r) ++ s) ++ t) ≡ length p + length q + length r + length s + length t
five p q r s t =
    let last = length-append (((p ++ q) ++ r) ++ s) t in
    let fourth = length-append ((p ++ q) ++ r) s in
    let third = length-append (p ++ q) r in
    let first = length-append p q in omega (arith, last, fourth, third, first)

length-counts : (c : Counts) → length (counts_text c.mission c.phases c.states c.beats c.order) ≤ 359
unfolding counts_text
length-counts c =
    let all = five (count_line (codes "mission") c.mission) (count_line (codes "phases") c.phases) (count_line (codes "states") c.states)
    (count_line (codes "beats") c.beats) (count_line (codes "order") c.order) in
    let mission : length (count_line (codes "mission") c.mission) ≤ 73 = length-count (codes "mission") c.mission in
    let phases : length (count_line (codes "phases") c.phases) ≤ 72 = length-count (codes "phases") c.phases in
    let states : length (count_line (codes "states") c.states) ≤ 72 = length-count (codes "states") c.states in
    let beats : length (count_line (codes "beats") c.beats) ≤ 71 = length-count (codes "beats") c.beats in
    let order : length (count_line (codes "order") c.order) ≤ 71 = length-count (codes "order") c.order in
    omega (arith, all, mission, phases, states, beats, order)

length-interval : (name : List ℕ) (i : Interval) → length (interval_line name i.lo i.hi i.band) ≤ length name + 185
length-interval name i =
    let front : length (((name ++ codes " ") ++ decimal18 i.lo) ++ codes " .. ") ≤ ((length name + 1) + 83) + 4
    = two _ _ _ _ (two _ _ _ _ (two _ _ _ _ (same name) (same (codes " "))) (length-decimal18 i.lo)) (same (codes " .. ")) in
    let all : length (((((((name ++ codes " ") ++ decimal18 i.lo) ++ codes " .. ") ++ decimal18 i.hi) ++ codes " ") ++ band_text_of i.band) ++ codes "\n")
    ≤ ((((((length name + 1) + 83) + 4) + 83) + 1) + 12) + 1
    = two _ _ _ _ (two _ _ _ _ (two _ _ _ _ (two _ _ _ _ front (length-decimal18 i.hi)) (same (codes " "))) (length-band i.band)) (same (codes "\n")) in
    omega (arith, all)

pub length-report : (c : Counts) (pfd pfh : Interval) → length (report_lines c pfd pfh) ≤ 1024
unfolding report_lines
length-report c pfd pfh =
    let front = counts_text c.mission c.phases c.states c.beats c.order in
    let first = interval_line (codes "pfd") pfd.lo pfd.hi pfd.band in
    let second = interval_line (codes "pfh") pfh.lo pfh.hi pfh.band in
    let all = length-append front (first ++ second) in
    let last = length-append first second in
    let counts : length front ≤ 359 = length-counts c in
    let one : length first ≤ 188 = length-interval (codes "pfd") pfd in
    let other : length second ≤ 188 = length-interval (codes "pfh") pfh in
    omega (arith, all, last, counts, one, other)
