use Rattle.std.proofs.Common.{◌≡◌, None, IfSome, subst, false, ◌∙◌, sym, ap, map, string_bytes}
use Rattle.std.specs.Option.{option_map_or}
use Rattle.verb_table.specs.Rows.{seen_row}
use Rattle.sil_words.specs.Language.{IsLevel, bare_ask, is_positional, name_asked, number_asked, with_choices}
use Rattle.sil_words.specs.Splitting.{position, told_by}
use Rattle.sil_words.specs.declared.ask.Mode.TheVariants.{Low}
use Rattle.sil_words.proofs.Accepts.{reading_splits}
use Rattle.sil_words.proofs.Asked.{level_asked}
use Rattle.sil_words.specs.declared.ask.Ask.{Ask}
use Rattle.sil_words.proofs.Answering.{answered, each_err, same_err, value_refused, word_refused}
use Rattle.sil_words.proofs.Sound.{sound}
use Rattle.sil_words.proofs.read.read_after.Goals as goal

pub returns-in_err-matches-clause-usage : goal.returns-in_err-matches-clause-usage
returns-in_err-matches-clause-usage c =
    let row = seen_row c.args.row.now in
    same_err c.from_residual.result _ _ c.from_residual.ensures.1
    (λ u r h. c.in_err-matches.ensures.fault u r (reading_splits row (sound row c.requires).table (map string_bytes c.args.words.now) r h))

pub returns-then-not-are_options_taken-clause-usage : goal.returns-then-not-are_options_taken-clause-usage
returns-then-not-are_options_taken-clause-usage c u =
    value_refused (seen_row c.args.row.now) c.requires (map string_bytes c.args.words.now) c.in_ok-matches.matches c.in_ok-matches.ensures.ok
    (let h = c.are_options_taken.ensures in cc)

pub returns-in_err-name-clause-usage : goal.returns-in_err-name-clause-usage
returns-in_err-name-clause-usage c =
    let row = seen_row c.args.row.now in
    let told = ap (λ o. option_map_or (is_positional row.positional) o false) (sym c.told.ensures) ∙ c.in_err-name.ensures.fault in
    each_err c.from_residual-in_err-name.result _
    (λ e u. word_refused row c.requires (map string_bytes c.args.words.now) c.in_ok-matches.matches c.in_ok-matches.ensures.ok told)

pub returns-clause-ok : goal.returns-clause-ok
returns-clause-ok c =
    let row = seen_row c.args.row.now in
    let word_told = ap (λ o. option_map_or (is_positional row.positional) o false) (sym c.told.ensures) ∙ c.in_ok-name.ensures.ok in
    let name = c.in-Ok.ensures.keeps_bytes ∙ c.in_ok-name.ensures.name ∙ ap (name_asked row.positional) c.told.ensures in
    let number = c.in_ok-name.ensures.number ∙ ap (number_asked row.positional) c.told.ensures in
    let bare : _ ≡ bare_ask row (told_by c.in_ok-matches.matches position) =
    λ j. record { verb = row.verb; name = name j; number = number j; need = None; mode = Low; watch = c.empty.ensures j } in
    answered row c.requires (map string_bytes c.args.words.now) c.in_ok-matches.matches c.in_ok-matches.ensures.ok
    (let h = c.are_options_taken.ensures in cc) word_told _
    (c.take_choices.ensures ∙ ap (λ a. with_choices (told_by c.in_ok-matches.matches) a row.choices) bare)

pub returns-clause-need : goal.returns-clause-need
returns-clause-need c =
    subst (λ (a : Ask). IfSome a.need IsLevel) (sym c.take_choices.ensures)
    (level_asked (told_by c.in_ok-matches.matches) (seen_row c.args.row.now).choices _ tt)
