-- The canonical file of a valid loop has at most as many bytes as a loop file may have.
use Rattle.std.proofs.Common.{codes, ℕ, zero, suc, ◌+◌, ◌*◌, ◌/◌, ◌<◌, ◌≤◌, Bool, true, false, List, [], ◌∷◌, ◌++◌, length, get_or, Option, Some, None, arith, length-append}
use Rattle.std.specs.Prelude.{◌%◌, ◌==◌, if◌then◌else◌}
use Rattle.std.specs.Fmt.{decimal, digits, digits_onto, digit_glyph}
use Rattle.std.specs.List.{concat, flat_map}
use Rattle.toml_writer.specs.Text.{Encoding, basic, literal, multi_basic, multi_literal, escape_letter, escape_text, needs_escape, quotes_after, escaped, opening_newline, encoded, encoding_of, string_text, has}
use Rattle.sil_model.specs.LoopValue.{LoopValue, IsValid}
use Rattle.sil_model.specs.Sizes.{most_file_bytes}
use Rattle.sil_model.specs.declared.parts.InRepair.{InRepair}
use Rattle.sil_model.specs.declared.parts.InRepair.TheVariants.{Lost, Tripped}
use Rattle.sil_model.specs.declared.parts.Subsystem.{Subsystem}
use Rattle.sil_model.specs.declared.parts.TestPlan.{TestPlan}
use Rattle.loop_print.specs.Canonical.{choice_bytes}
use Rattle.loop_print.specs.CanonicalText.{line, number_line, text_line, test_lines, subsystem_lines, subsystem_text, canonical_text}

-- Numbers: a decimal has at most so many digits as are written.

length-digits_onto : (k base : ℕ) (upper : Bool) (n : ℕ) (acc : List ℕ) → length (digits_onto k base upper n acc) ≤ k + length acc
length-digits_onto zero base upper n acc = omega arith
length-digits_onto (suc k) base upper n acc = elim (n / base == 0) as (λ b. length (if b then digit_glyph upper (n % base) ∷ acc else digits_onto k base upper (n / base) (digit_glyph upper (n % base) ∷ acc)) ≤ suc k + length acc) [
  | true ↦ omega arith
  | false ↦ let more = length-digits_onto k base upper (n / base) (digit_glyph upper (n % base) ∷ acc) in omega (arith, more)
]

pub length-decimal : (n : ℕ) → length (decimal n) ≤ 64
unfolding digits
length-decimal n = let most = length-digits_onto 64 10 false n [] in omega (arith, most)

-- Two texts, one behind the other.
pub two : (s t : List ℕ) (a b : ℕ) → length s ≤ a → length t ≤ b → length (s ++ t) ≤ a + b
two s t a b some more = let all = length-append s t in omega (arith, all, some, more)

-- Texts in quotes: each byte is written by six at most.

length-escape : (c : ℕ) → length (escape_text c) ≤ 6
length-escape c = elim (escape_letter c == 0) as (λ b. length (if b then codes "\\u00" ++ digit_glyph true (c / 16) ∷ digit_glyph true (c % 16) ∷ [] else 92 ∷ escape_letter c ∷ []) ≤ 6) [
  | true ↦ omega arith
  | false ↦ omega arith
]

length-piece : (b : Bool) (c : ℕ) → length (if b then escape_text c else c ∷ []) ≤ 6
length-piece true c = length-escape c
length-piece false c = omega arith

length-escaped : (multi : Bool) (quotes : ℕ) (s : List ℕ) → length (escaped multi quotes s) ≤ 6 * length s
unfolding escaped
length-escaped multi quotes [] = let none : 0 ≤ 0 = omega arith in none
length-escaped multi quotes (c ∷ cs) =
    let rest = length-escaped multi (quotes_after multi quotes c) cs in
    let all : length (escaped multi quotes (c ∷ cs)) ≤ 6 + 6 * length cs = two (if needs_escape multi quotes c then escape_text c else c ∷ [])
    (escaped multi (quotes_after multi quotes c) cs) 6 (6 * length cs) (length-piece (needs_escape multi quotes c) c) rest in
    omega (arith, all)

length-opening : (b : Bool) → length {A = ℕ} (if b then 10 ∷ [] else []) ≤ 1
length-opening true = omega arith
length-opening false = omega arith

-- a text between delimiters
between : (front s end : List ℕ) (a b c : ℕ) → length front ≤ a → length s ≤ b → length end ≤ c → length (front ++ (s ++ end)) ≤ a + (b + c)
between front s end a b c one middle last = two front (s ++ end) a (b + c) one (two s end b c middle last)

length-encoded : (e : Encoding) (s : List ℕ) → length (encoded e s) ≤ 6 * length s + 7
length-encoded basic s =
    let all : length (encoded basic s) ≤ 1 + (6 * length s + 1) = between (34 ∷ []) (escaped false 0 s) (34 ∷ []) 1 (6 * length s) 1 (omega arith) (length-escaped false 0 s) (omega arith) in
    omega (arith, all)
length-encoded literal s =
    let all : length (encoded literal s) ≤ 1 + (length s + 1) = between (39 ∷ []) s (39 ∷ []) 1 (length s) 1 (omega arith) (omega arith) (omega arith) in
    omega (arith, all)
length-encoded multi_basic s =
    let all : length (encoded multi_basic s) ≤ 3 + (1 + (6 * length s + 3)) =
    two (codes "\"\"\"") (opening_newline s ++ (escaped true 0 s ++ codes "\"\"\"")) 3 (1 + (6 * length s + 3)) (omega arith)
    (between (opening_newline s) (escaped true 0 s) (codes "\"\"\"") 1 (6 * length s) 3 (length-opening (has 10 s)) (length-escaped true 0 s) (omega arith)) in
    omega (arith, all)
length-encoded multi_literal s =
    let all : length (encoded multi_literal s) ≤ 3 + (1 + (length s + 3)) =
    two (codes "'''") (opening_newline s ++ (s ++ codes "'''")) 3 (1 + (length s + 3)) (omega arith)
    (between (opening_newline s) s (codes "'''") 1 (length s) 3 (length-opening (has 10 s)) (omega arith) (omega arith)) in
    omega (arith, all)

length-quoted : (s : List ℕ) (a : ℕ) → length s ≤ a → length (string_text s) ≤ 6 * a + 7
unfolding string_text
length-quoted s a short =
    let all : length (string_text s) ≤ 6 * length s + 7 = length-encoded (encoding_of s) s in
    omega (arith, all, short)

-- Lines.

length-line : (key value : List ℕ) (a : ℕ) → length value ≤ a → length (line key value) ≤ length key + (3 + (a + 1))
length-line key value a short =
    two key (codes " = " ++ (value ++ codes "\n")) (length key) (3 + (a + 1)) (omega arith)
    (between (codes " = ") value (codes "\n") 3 a 1 (omega arith) short (omega arith))

length-number : (key : List ℕ) (n : ℕ) → length (number_line key n) ≤ length key + 68
length-number key n = length-line key (decimal n) 64 (length-decimal n)

length-text : (key text : List ℕ) (a : ℕ) → length text ≤ a → length (text_line key text) ≤ length key + (6 * a + 11)
length-text key text a short =
    let all : length (text_line key text) ≤ length key + (3 + ((6 * a + 7) + 1)) = length-line key (string_text text) (6 * a + 7) (length-quoted text a short) in
    omega (arith, all)

-- a decimal with an exponent of four bytes at most
length-figure : (key : List ℕ) (n : ℕ) (exponent : List ℕ) → length exponent ≤ 4 → length (text_line key (decimal n ++ exponent)) ≤ length key + 419
length-figure key n exponent short = length-text key (decimal n ++ exponent) 68 (two (decimal n) exponent 64 4 (length-decimal n) short)

length-choice : (choice : InRepair) → length (choice_bytes choice) ≤ 7
length-choice Lost = omega arith
length-choice Tripped = omega arith

-- each of these lines has at most so many bytes
abbrev Fit : List (List ℕ) → List ℕ → Type 0
Fit [] [] = Unit {0}
Fit [] (a ∷ most) = ⊥
Fit (x ∷ lines) [] = ⊥
Fit (x ∷ lines) (a ∷ most) = (length x ≤ a) × Fit lines most

abbrev added : List ℕ → ℕ
added [] = 0
added (a ∷ most) = a + added most

-- and so all of them together, and some more behind them
length-lines : (lines : List (List ℕ)) (most : List ℕ) (others : List (List ℕ)) (b : ℕ) → Fit lines most → length (concat others) ≤ b
    → length (concat (lines ++ others)) ≤ added most + b
length-lines [] [] others b fit rest = let h : length (concat others) ≤ 0 + b = omega (arith, rest) in h
length-lines [] (a ∷ most) others b fit rest = absurd fit
length-lines (x ∷ lines) [] others b fit rest = absurd fit
length-lines (x ∷ lines) (a ∷ most) others b fit rest =
    let all = two x (concat (lines ++ others)) a (added most + b) fit.0 (length-lines lines most others b fit.1 rest) in
    let h : length (x ++ concat (lines ++ others)) ≤ (a + added most) + b = omega (arith, all) in h

none : length (concat []) ≤ 0
none = let h : 0 ≤ 0 = omega arith in h

length-tests : (test : Option TestPlan) → length (concat (test_lines test)) ≤ 400
length-tests None = let h : 0 ≤ 400 = omega arith in h
length-tests (Some p) =
    let header : length (codes "\n[subsystem.test]\n") ≤ 18 = omega arith in
    let every : length (number_line (codes "every") p.every) ≤ 73 = length-number (codes "every") p.every in
    let first : length (number_line (codes "first") p.first) ≤ 73 = length-number (codes "first") p.first in
    let full : length (number_line (codes "full_each") p.full_each) ≤ 77 = length-number (codes "full_each") p.full_each in
    let stagger : length (number_line (codes "stagger") p.stagger) ≤ 75 = length-number (codes "stagger") p.stagger in
    let all : length (concat (test_lines (Some p))) ≤ 316
    = length-lines (test_lines (Some p)) (18 ∷ 73 ∷ 73 ∷ 77 ∷ 75 ∷ []) [] 0 (header, (every, (first, (full, (stagger, tt))))) none in
    omega (arith, all)

length-subsystem : (u : Subsystem) → length u.name ≤ 32 → length (subsystem_text u) ≤ 5000
unfolding subsystem_text
length-subsystem u short =
    let f = u.figures in
    let beta : length (text_line (codes "beta") (decimal f.beta ++ codes "E-3")) ≤ 423 = length-figure (codes "beta") f.beta (codes "E-3") (omega arith) in
    let beta_d : length (text_line (codes "beta_d") (decimal f.beta_d ++ codes "E-3")) ≤ 425 = length-figure (codes "beta_d") f.beta_d (codes "E-3") (omega arith) in
    let coverage : length (text_line (codes "coverage") (decimal f.coverage ++ codes "E-3")) ≤ 427 = length-figure (codes "coverage") f.coverage (codes "E-3") (omega arith) in
    let dd : length (text_line (codes "dd") (decimal f.dd ++ codes "E-12")) ≤ 421 = length-figure (codes "dd") f.dd (codes "E-12") (omega arith) in
    let du : length (text_line (codes "du") (decimal f.du ++ codes "E-12")) ≤ 421 = length-figure (codes "du") f.du (codes "E-12") (omega arith) in
    let in_repair : length (text_line (codes "in_repair") (choice_bytes u.in_repair)) ≤ 62 = length-text (codes "in_repair") (choice_bytes u.in_repair) 7 (length-choice u.in_repair) in
    let name : length (text_line (codes "name") u.name) ≤ 207 = length-text (codes "name") u.name 32 short in
    let repair : length (number_line (codes "repair") f.repair) ≤ 74 = length-number (codes "repair") f.repair in
    let fault : length (text_line (codes "restart_fault") (decimal f.restart_fault ++ codes "E-6")) ≤ 432 = length-figure (codes "restart_fault") f.restart_fault (codes "E-6") (omega arith) in
    let channels : length (decimal u.vote.m ++ (codes "oo" ++ decimal u.vote.n)) ≤ 64 + (2 + 64)
    = two (decimal u.vote.m) (codes "oo" ++ decimal u.vote.n) 64 (2 + 64) (length-decimal u.vote.m) (two (codes "oo") (decimal u.vote.n) 2 64 (omega arith) (length-decimal u.vote.n)) in
    let vote : length (text_line (codes "vote") (decimal u.vote.m ++ (codes "oo" ++ decimal u.vote.n))) ≤ 795 = length-text (codes "vote") (decimal u.vote.m ++ (codes "oo" ++ decimal u.vote.n)) 130 channels in
    let header : length (codes "\n[[subsystem]]\n") ≤ 15 = omega arith in
    let all : length (subsystem_text u) ≤ 3702 + 400
    = length-lines (subsystem_lines u) (15 ∷ 423 ∷ 425 ∷ 427 ∷ 421 ∷ 421 ∷ 62 ∷ 207 ∷ 74 ∷ 432 ∷ 795 ∷ []) (test_lines u.test) 400
    (header, (beta, (beta_d, (coverage, (dd, (du, (in_repair, (name, (repair, (fault, (vote, tt))))))))))) (length-tests u.test) in
    omega (arith, all)

length-subsystems : (us : List Subsystem) → ((k : ℕ) (d : Subsystem) → k < length us → length (get_or us k d).name ≤ 32)
    → length (flat_map subsystem_text us) ≤ 5000 * length us
length-subsystems [] short = let h : 0 ≤ 0 = omega arith in h
length-subsystems (u ∷ us) short =
    let rest = length-subsystems us (λ k d h. short (suc k) d (omega (arith, h))) in
    let all : length (flat_map subsystem_text (u ∷ us)) ≤ 5000 + 5000 * length us
    = two (subsystem_text u) (flat_map subsystem_text us) 5000 (5000 * length us) (length-subsystem u (short 0 u (omega arith))) rest in
    omega (arith, all)

pub length-canonical : (l : LoopValue) → IsValid l → length (canonical_text l) ≤ most_file_bytes
unfolding canonical_text
length-canonical l v =
    let us = l.subsystems in
    let few : length us ≤ 6 = v.few.below in
    let mission : length (number_line (codes "mission") l.mission) ≤ 75 = length-number (codes "mission") l.mission in
    let order : length (number_line (codes "order") l.order) ≤ 73 = length-number (codes "order") l.order in
    let version : length (number_line (codes "version") 1) ≤ 75 = length-number (codes "version") 1 in
    let rest = length-subsystems us (λ k d h. (v.subsystems k d h).name.size.below) in
    let third = number_line (codes "version") 1 ++ flat_map subsystem_text us in
    let second = number_line (codes "order") l.order ++ third in
    let all : length (canonical_text l) ≤ 75 + (73 + (75 + 5000 * length us)) =
    two (number_line (codes "mission") l.mission) second 75 (73 + (75 + 5000 * length us)) mission
    (two (number_line (codes "order") l.order) third 73 (75 + 5000 * length us) order
    (two (number_line (codes "version") 1) (flat_map subsystem_text us) 75 (5000 * length us) version rest)) in
    let enough : length (canonical_text l) ≤ 65_536 = omega (arith, all, few) in
    enough
