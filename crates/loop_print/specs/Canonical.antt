-- The canonical table of a loop: each key that a loop file may have, and no types.
use Rattle.std.specs.Prelude.{codes, ℕ, pos, List, ◌++◌, map, Option, Some, None}
use Rattle.std.specs.Fmt.{decimal}
use Rattle.toml.specs.Data.{Data, string, integer, array, table, Members, no_members, member}
use Rattle.toml.specs.View.{items_of}
use Rattle.sil_model.specs.LoopValue.{LoopValue}
use Rattle.sil_model.specs.declared.parts.InRepair.{InRepair}
use Rattle.sil_model.specs.declared.parts.InRepair.TheVariants.{Lost, Tripped}
use Rattle.sil_model.specs.declared.parts.Subsystem.{Subsystem}
use Rattle.sil_model.specs.declared.parts.TestPlan.{TestPlan}
use Rattle.sil_model.specs.declared.parts.Vote.{Vote}

abbrev pub whole_number : ℕ → Data
whole_number n = integer (pos n)

-- a number of units of 10^-12, of 10^-3 and of 10^-6
abbrev pub rate_text : ℕ → Data
rate_text n = string (decimal n ++ codes "E-12")

abbrev pub thousandths_text : ℕ → Data
thousandths_text n = string (decimal n ++ codes "E-3")

abbrev pub millionths_text : ℕ → Data
millionths_text n = string (decimal n ++ codes "E-6")

abbrev pub vote_text : Vote → Data
vote_text v = string (decimal v.m ++ (codes "oo" ++ decimal v.n))

abbrev pub choice_bytes : InRepair → List ℕ
choice_bytes Lost = codes "lost"
choice_bytes Tripped = codes "tripped"

-- a table's members come in the order of their keys' bytes

abbrev pub test_table : TestPlan → Members
test_table p =
    member (codes "every") (whole_number p.every) (member (codes "first") (whole_number p.first)
    (member (codes "full_each") (whole_number p.full_each) (member (codes "stagger") (whole_number p.stagger) no_members)))

-- the last members: `test`, where there are tests, and `vote`
abbrev pub last_members : Option TestPlan → Vote → Members
last_members None v = member (codes "vote") (vote_text v) no_members
last_members (Some p) v = member (codes "test") (table (test_table p)) (member (codes "vote") (vote_text v) no_members)

unfoldable pub subsystem_table : Subsystem → Members
subsystem_table u =
    member (codes "beta") (thousandths_text u.figures.beta) (member (codes "beta_d") (thousandths_text u.figures.beta_d)
    (member (codes "coverage") (thousandths_text u.figures.coverage) (member (codes "dd") (rate_text u.figures.dd)
    (member (codes "du") (rate_text u.figures.du) (member (codes "in_repair") (string (choice_bytes u.in_repair))
    (member (codes "name") (string u.name) (member (codes "repair") (whole_number u.figures.repair)
    (member (codes "restart_fault") (millionths_text u.figures.restart_fault) (last_members u.test u.vote)))))))))

unfoldable pub canonical_of : LoopValue → Members
canonical_of l =
    member (codes "mission") (whole_number l.mission) (member (codes "order") (whole_number l.order)
    (member (codes "subsystem") (array (items_of (map (λ u. table (subsystem_table u)) l.subsystems)))
    (member (codes "version") (whole_number 1) no_members)))
