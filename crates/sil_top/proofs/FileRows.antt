-- The table of verbs, as the program looks through it.
use Rattle.std.proofs.Common.{◌≡◌, refl, ℕ, ◌+◌, ◌<◌, Bool, List, map, get_or, drop, length, add-one, Result, sym, subst}
use Rattle.std.specs.Prelude.{◌&&◌, ◌||◌, IfOk}
use Rattle.std.specs.declared.alloc.AllocError.{AllocError}
use Rattle.sil_model.specs.LoopValue.{LoopValue}
use Rattle.sil_watch.specs.Watching.{WatcherValue}
use Rattle.sil_words.specs.declared.ask.Ask.{Ask}
use Rattle.std.specs.List.{list_any}
use Rattle.std.proofs.Math.Seq.{drop-cons}
use Rattle.verb_table.specs.Rows.{seen_row}
use Rattle.verb_table.specs.contracts.verb.PositionalPartialEq.TheImpl as positional_equality
use Rattle.verb_table.specs.contracts.verb.VerbPartialEq.TheImpl as verb_equality
use Rattle.verb_table.specs.declared.rows.VerbRow.{VerbRow}
use Rattle.verb_table.specs.declared.verb.Positional.TheVariants.{Name}
use Rattle.verb_table.specs.declared.verb.Verb.{Verb}
use Rattle.sil_top.specs.Causes.{outcome_of}
use Rattle.sil_top.specs.Run.{reads_file, loop_calls, IsCalledBy}
use Rattle.sil_top.specs.declared.answer.Answer.{Answer}

-- one of the rows from the i-th on is of this verb, with a name
abbrev pub reads_from : List VerbRow → Verb → ℕ → Bool
reads_from rows verb i = list_any (λ row. (verb_equality.ghosts).eq row.verb verb && (positional_equality.ghosts).eq row.positional Name) (map seen_row (drop i rows))

pub next_row : (rows : List VerbRow) (verb : Verb) (i : ℕ) (d : VerbRow) → i < length rows
    → (let row = get_or rows i d in reads_from rows verb i ≡ (((verb_equality.ghosts).eq row.verb verb && (positional_equality.ghosts).eq row.positional Name) || reads_from rows verb (i + 1)))
next_row rows verb i d h = rw (add-one, drop-cons rows i d) refl

-- what holds at a verb holds at the verb that is asked for, if it is this one
pub at_verb : (r : Result Answer AllocError) (before : List WatcherValue) (a : Ask) (l : LoopValue) (v : Verb) (of_file : Bool) → a.verb ≡ v → reads_file v ≡ of_file
    → IfOk r (λ x. IsCalledBy of_file (loop_calls before a l v) (outcome_of x)) → IfOk r (λ x. IsCalledBy (reads_file a.verb) (loop_calls before a l a.verb) (outcome_of x))
at_verb r before a l v of_file is reads h =
    subst (λ (u : Verb). IfOk r (λ x. IsCalledBy (reads_file u) (loop_calls before a l u) (outcome_of x))) (sym is)
    (subst (λ (b : Bool). IfOk r (λ x. IsCalledBy b (loop_calls before a l v) (outcome_of x))) (sym reads) h)
