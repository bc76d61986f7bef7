-- A text that writes the canonical table of a loop is the canonical file of this loop.
use Rattle.std.proofs.Common.{codes, ◌≡◌, ◌∙◌, ℕ, ◌≤◌, Bool, true, false, List, [], ◌∷◌, ◌++◌, length, map, Option, Some, None, refl, sym, ap, subst, arith, append_assoc, append-nil}
use Rattle.std.specs.Fmt.{decimal, signed_decimal}
use Rattle.std.specs.List.{concat, flat_map}
use Rattle.toml_parser.specs.Strings.{Key}
use Rattle.toml_writer.specs.Text.{string_text, key_text, dotted_text}
use Rattle.toml.specs.Data.{Data, string, integer, float, boolean, datetime, array, table, Items, Members, no_members, member}
use Rattle.toml.specs.Tables.{Definition, key_value, std_table, array_table, Expression}
use Rattle.toml.specs.Text.{IsValueText, IsLineText, IsLinesText, IsDocumentText, has_items, are_tables, pairs, sections, elements, expressions, gap, header_open, header_close}
use Rattle.toml.specs.View.{items_of}
use Rattle.sil_model.specs.LoopValue.{LoopValue}
use Rattle.sil_model.specs.declared.parts.ChannelFigures.{ChannelFigures}
use Rattle.sil_model.specs.declared.parts.Subsystem.{Subsystem}
use Rattle.sil_model.specs.declared.parts.TestPlan.{TestPlan}
use Rattle.sil_model.specs.declared.parts.Vote.{Vote}
use Rattle.loop_print.specs.Canonical.{whole_number, rate_text, thousandths_text, millionths_text, choice_bytes, last_members, subsystem_table, canonical_of}
use Rattle.loop_print.specs.CanonicalText.{number_line, text_line, test_lines, subsystem_text, canonical_text}

-- Texts and whole numbers are written in one way, and so are lines of these.

abbrev IsPlain : Data → Type 0
IsPlain (string s) = Unit {0}
IsPlain (integer z) = Unit {0}
IsPlain (float x) = ⊥
IsPlain (boolean b) = ⊥
IsPlain (datetime t) = ⊥
IsPlain (array ds) = ⊥
IsPlain (table ms) = ⊥

abbrev value_text : Data → List ℕ
value_text (string s) = string_text s
value_text (integer z) = signed_decimal z
value_text (float x) = []
value_text (boolean b) = []
value_text (datetime t) = []
value_text (array ds) = []
value_text (table ms) = []

one_value : (d : Data) (text : List ℕ) → IsPlain d → IsValueText false d text → text ≡ value_text d
one_value (string s) text plain h = h
one_value (integer z) text plain h = h.0
one_value (float x) text plain h = absurd plain
one_value (boolean b) text plain h = absurd plain
one_value (datetime t) text plain h = absurd plain
one_value (array ds) text plain h = absurd plain
one_value (table ms) text plain h = absurd plain

abbrev IsPlainLine : Definition → Type 0
IsPlainLine (key_value d) = IsPlain d
IsPlainLine std_table = Unit {0}
IsPlainLine array_table = Unit {0}

abbrev ArePlain : List Expression → Type 0
ArePlain [] = Unit {0}
ArePlain (e ∷ es) = IsPlainLine e.1 × ArePlain es

abbrev one_line_text : Bool → Key → Definition → List ℕ
one_line_text started key (key_value d) = dotted_text key ++ (codes " = " ++ (value_text d ++ 10 ∷ []))
one_line_text started key std_table = gap started ++ (header_open false ++ (dotted_text key ++ header_close false))
one_line_text started key array_table = gap started ++ (header_open true ++ (dotted_text key ++ header_close true))

abbrev lines_text : Bool → List Expression → List ℕ
lines_text started [] = []
lines_text started (e ∷ es) = one_line_text started e.0 e.1 ++ lines_text true es

one_line : (started : Bool) (key : Key) (def : Definition) (text : List ℕ) → IsPlainLine def → IsLineText false started key def text
    → text ≡ one_line_text started key def
one_line started key (key_value d) text plain h =
    let (this, whole, value) = h in
    whole ∙ ap (λ (v : List ℕ). dotted_text key ++ (codes " = " ++ (v ++ 10 ∷ []))) (one_value d this plain value)
one_line started key std_table text plain h = h
one_line started key array_table text plain h = h

one_text : (started : Bool) (es : List Expression) (text : List ℕ) → ArePlain es → IsLinesText false started es text → text ≡ lines_text started es
one_text started [] text plain h = h
one_text started (e ∷ es) text plain h =
    let (this, rest, whole, line_is, more) = h in
    whole ∙ ap (λ (xs : List ℕ). xs ++ rest) (one_line started e.0 e.1 this plain.0 line_is)
    ∙ ap (λ (xs : List ℕ). one_line_text started e.0 e.1 ++ xs) (one_text true es rest plain.1 more)

lines-append : (es fs : List Expression) → lines_text true (es ++ fs) ≡ lines_text true es ++ lines_text true fs
lines-append [] fs = refl
lines-append (e ∷ es) fs =
    ap (λ (xs : List ℕ). one_line_text true e.0 e.1 ++ xs) (lines-append es fs)
    ∙ sym (append_assoc (one_line_text true e.0 e.1) (lines_text true es) (lines_text true fs))

plain-append : (es fs : List Expression) → ArePlain es → ArePlain fs → ArePlain (es ++ fs)
plain-append [] fs p q = q
plain-append (e ∷ es) fs p q = (p.0, plain-append es fs p.1 q)

-- Subsystems.

abbrev key_of_subsystems : Key
key_of_subsystems = ([], codes "subsystem")

abbrev lines_under : Members → List Expression
lines_under ms = (key_of_subsystems, array_table) ∷ (pairs ms ++ sections (codes "subsystem" ∷ []) ms)

-- the table of a subsystem, by its parts
abbrev members_of_parts : ChannelFigures → List ℕ → List ℕ → Option TestPlan → Vote → Members
members_of_parts f choice name test v =
    member (codes "beta") (thousandths_text f.beta) (member (codes "beta_d") (thousandths_text f.beta_d)
    (member (codes "coverage") (thousandths_text f.coverage) (member (codes "dd") (rate_text f.dd)
    (member (codes "du") (rate_text f.du) (member (codes "in_repair") (string choice)
    (member (codes "name") (string name) (member (codes "repair") (whole_number f.repair)
    (member (codes "restart_fault") (millionths_text f.restart_fault) (last_members test v)))))))))

-- its text
abbrev text_of_parts : ChannelFigures → List ℕ → List ℕ → Option TestPlan → Vote → List ℕ
text_of_parts f choice name test v =
    concat (codes "\n[[subsystem]]\n" ∷ text_line (codes "beta") (decimal f.beta ++ codes "E-3")
    ∷ text_line (codes "beta_d") (decimal f.beta_d ++ codes "E-3") ∷ text_line (codes "coverage") (decimal f.coverage ++ codes "E-3")
    ∷ text_line (codes "dd") (decimal f.dd ++ codes "E-12") ∷ text_line (codes "du") (decimal f.du ++ codes "E-12")
    ∷ text_line (codes "in_repair") choice ∷ text_line (codes "name") name
    ∷ number_line (codes "repair") f.repair ∷ text_line (codes "restart_fault") (decimal f.restart_fault ++ codes "E-6")
    ∷ text_line (codes "vote") (decimal v.m ++ (codes "oo" ++ decimal v.n)) ∷ test_lines test)

parts_plain : (f : ChannelFigures) (choice name : List ℕ) (test : Option TestPlan) (v : Vote) → ArePlain (lines_under (members_of_parts f choice name test v))
parts_plain f choice name None v = (tt, (tt, (tt, (tt, (tt, (tt, (tt, (tt, (tt, (tt, (tt, tt)))))))))))
parts_plain f choice name (Some p) v = (tt, (tt, (tt, (tt, (tt, (tt, (tt, (tt, (tt, (tt, (tt, (tt, (tt, (tt, (tt, (tt, tt))))))))))))))))

parts_text : (f : ChannelFigures) (choice name : List ℕ) (test : Option TestPlan) (v : Vote)
    → lines_text true (lines_under (members_of_parts f choice name test v)) ≡ text_of_parts f choice name test v
unfolding key_text
parts_text f choice name None v = refl
parts_text f choice name (Some p) v = refl

plain_subsystem : (u : Subsystem) → ArePlain (lines_under (subsystem_table u))
unfolding subsystem_table
plain_subsystem u = parts_plain u.figures (choice_bytes u.in_repair) u.name u.test u.vote

text_subsystem : (u : Subsystem) → lines_text true (lines_under (subsystem_table u)) ≡ subsystem_text u
unfolding subsystem_table subsystem_text
text_subsystem u = parts_text u.figures (choice_bytes u.in_repair) u.name u.test u.vote

abbrev tables : List Subsystem → Items
tables us = items_of (map (λ u. table (subsystem_table u)) us)

plain_subsystems : (us : List Subsystem) → ArePlain (elements key_of_subsystems (tables us))
plain_subsystems [] = tt
plain_subsystems (u ∷ us) = plain-append (lines_under (subsystem_table u)) (elements key_of_subsystems (tables us)) (plain_subsystem u) (plain_subsystems us)

text_subsystems : (us : List Subsystem) → lines_text true (elements key_of_subsystems (tables us)) ≡ flat_map subsystem_text us
text_subsystems [] = refl
text_subsystems (u ∷ us) =
    lines-append (lines_under (subsystem_table u)) (elements key_of_subsystems (tables us))
    ∙ ap (λ (xs : List ℕ). xs ++ lines_text true (elements key_of_subsystems (tables us))) (text_subsystem u)
    ∙ ap (λ (xs : List ℕ). subsystem_text u ++ xs) (text_subsystems us)

-- The whole file.

are_tables_all : (us : List Subsystem) → are_tables (tables us) ≡ true
are_tables_all [] = refl
are_tables_all (u ∷ us) = are_tables_all us

has_some : (us : List Subsystem) → 1 ≤ length us → has_items (tables us) ≡ true
has_some [] h = let none : ⊥ = omega (arith, h) in absurd none
has_some (u ∷ us) h = refl

abbrev top_lines : ℕ → ℕ → List Expression → List Expression
top_lines mission order more =
    (([], codes "mission"), key_value (whole_number mission)) ∷ (([], codes "order"), key_value (whole_number order))
    ∷ (([], codes "version"), key_value (whole_number 1)) ∷ more

top : (mission order : ℕ) (ds : Items) → has_items ds ≡ true → are_tables ds ≡ true
    → expressions (member (codes "mission") (whole_number mission) (member (codes "order") (whole_number order)
    (member (codes "subsystem") (array ds) (member (codes "version") (whole_number 1) no_members))))
    ≡ top_lines mission order (elements key_of_subsystems ds ++ [])
top mission order ds some all = rw (some, all) refl

pub canonical_bytes : (l : LoopValue) (text : List ℕ) → 1 ≤ length l.subsystems → IsDocumentText false (canonical_of l) text → text ≡ canonical_text l
unfolding canonical_of canonical_text key_text
canonical_bytes l text some h =
    let us = l.subsystems in
    let es : List Expression = elements key_of_subsystems (tables us) in
    let lines_are = top l.mission l.order (tables us) (has_some us some) (are_tables_all us) ∙ ap (top_lines l.mission l.order) (append-nil es) in
    one_text false (top_lines l.mission l.order es) text (tt, (tt, (tt, plain_subsystems us))) (subst (λ (xs : List Expression). IsLinesText false false xs text) lines_are h)
    ∙ ap (λ (xs : List ℕ). number_line (codes "mission") l.mission ++ (number_line (codes "order") l.order ++ (number_line (codes "version") 1 ++ xs)))
    (text_subsystems us)
