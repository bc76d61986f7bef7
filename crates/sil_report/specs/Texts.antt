-- The texts that the program prints of sizes and refusals.
use Rattle.std.specs.Prelude.{ℕ, List, ◌++◌, codes, decimal}
use Rattle.sil_model.specs.LoopValue.{LoopValue}
use Rattle.sil_model.specs.Sizes.{most_tests, most_states, most_beats, most_work, most_file_bytes}
use Rattle.sil_model.specs.declared.answers.Sizes.{Sizes}
use Rattle.sil_model.specs.declared.answers.LimitFault.{LimitFault}
use Rattle.sil_model.specs.declared.answers.LimitFault.TheVariants.{TooManyTests, TooManyStates, TooManyBeats, TooMuchWork}
use Rattle.file_fault.specs.Fault.{fault_of}
use Rattle.file_fault.specs.declared.FileFault.{FileFault}

-- a line is ended by a line feed
abbrev pub line : List ℕ → List ℕ
line text = text ++ codes "\n"

-- a count with its name before it
abbrev pub count_line : List ℕ → ℕ → List ℕ
count_line name n = line (name ++ codes " " ++ decimal n)

-- the five counts of a loop
unfoldable pub counts_text : ℕ → ℕ → ℕ → ℕ → ℕ → List ℕ
counts_text mission phases states beats order =
    count_line (codes "mission") mission
    ++ count_line (codes "phases") phases
    ++ count_line (codes "states") states
    ++ count_line (codes "beats") beats
    ++ count_line (codes "order") order

-- the six lines of `size`; mission time and order are those of the loop
unfoldable pub size_text_of : LoopValue → Sizes → List ℕ
size_text_of l s = counts_text l.mission s.phases s.states s.beats l.order ++ count_line (codes "work") s.work

-- what is refused
abbrev pub refusal : List ℕ → List ℕ
refusal cause = line (codes "refused: " ++ cause)

abbrev pub too_long_line : List ℕ
too_long_line = refusal (codes "file longer than " ++ decimal most_file_bytes ++ codes " bytes")

-- a count above its limit
abbrev pub limit_of : LimitFault → List ℕ
limit_of (TooManyTests n) = decimal n ++ codes " channel tests, limit " ++ decimal most_tests
limit_of (TooManyStates n) = decimal n ++ codes " states, limit " ++ decimal most_states
limit_of (TooManyBeats n) = decimal n ++ codes " beats, limit " ++ decimal most_beats
limit_of (TooMuchWork n) = codes "work " ++ decimal n ++ codes ", limit " ++ decimal most_work

unfoldable pub limit_fault_line_of : LimitFault → List ℕ
limit_fault_line_of f = refusal (limit_of f)

-- what is wrong with a loop file
unfoldable pub file_fault_line_of : FileFault → List ℕ
file_fault_line_of f = refusal (fault_of f)
