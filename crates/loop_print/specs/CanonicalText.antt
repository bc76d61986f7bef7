-- The canonical file of a loop, byte by byte.
use Rattle.std.specs.Prelude.{codes, List, ℕ, [], ◌∷◌, ◌++◌, Option, Some, None}
use Rattle.std.specs.List.{concat, flat_map}
use Rattle.std.specs.Fmt.{decimal}
use Rattle.toml_writer.specs.Text.{string_text}
use Rattle.sil_model.specs.LoopValue.{LoopValue}
use Rattle.sil_model.specs.declared.parts.Subsystem.{Subsystem}
use Rattle.sil_model.specs.declared.parts.TestPlan.{TestPlan}
use Rattle.loop_print.specs.Canonical.{choice_bytes}

-- a line: a key, and its value as it is written
abbrev pub line : List ℕ → List ℕ → List ℕ
line key value = key ++ (codes " = " ++ (value ++ codes "\n"))

-- of a whole number, and of a text, which stands in quotes
abbrev pub number_line : List ℕ → ℕ → List ℕ
number_line key n = line key (decimal n)

abbrev pub text_line : List ℕ → List ℕ → List ℕ
text_line key text = line key (string_text text)

-- the test plan, where there is one
abbrev pub test_lines : Option TestPlan → List (List ℕ)
test_lines None = []
test_lines (Some p) =
    codes "\n[subsystem.test]\n" ∷ number_line (codes "every") p.every ∷ number_line (codes "first") p.first
    ∷ number_line (codes "full_each") p.full_each ∷ number_line (codes "stagger") p.stagger ∷ []

-- a subsystem, but for its test plan
abbrev pub subsystem_lines : Subsystem → List (List ℕ)
subsystem_lines u =
    codes "\n[[subsystem]]\n" ∷ text_line (codes "beta") (decimal u.figures.beta ++ codes "E-3")
    ∷ text_line (codes "beta_d") (decimal u.figures.beta_d ++ codes "E-3") ∷ text_line (codes "coverage") (decimal u.figures.coverage ++ codes "E-3")
    ∷ text_line (codes "dd") (decimal u.figures.dd ++ codes "E-12") ∷ text_line (codes "du") (decimal u.figures.du ++ codes "E-12")
    ∷ text_line (codes "in_repair") (choice_bytes u.in_repair) ∷ text_line (codes "name") u.name
    ∷ number_line (codes "repair") u.figures.repair ∷ text_line (codes "restart_fault") (decimal u.figures.restart_fault ++ codes "E-6")
    ∷ text_line (codes "vote") (decimal u.vote.m ++ (codes "oo" ++ decimal u.vote.n)) ∷ []

unfoldable pub subsystem_text : Subsystem → List ℕ
subsystem_text u = concat (subsystem_lines u ++ test_lines u.test)

unfoldable pub canonical_text : LoopValue → List ℕ
canonical_text l =
    number_line (codes "mission") l.mission ++ (number_line (codes "order") l.order ++ (number_line (codes "version") 1
    ++ flat_map subsystem_text l.subsystems))
