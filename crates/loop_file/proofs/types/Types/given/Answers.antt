use Rattle.std.proofs.Common.{◌≡◌, ◌∙◌, ◌<◌, sym, false, rules, is_some, ap, arith, Ok, ℕ}
use Rattle.std.specs.List.{list_any}
use Rattle.std.specs.Str.{bytes_eq}
use Rattle.std.proofs.lemmas.List.Quantifiers.{position-Some}
use Rattle.loop_file.proofs.ShownNames.{given_found, given_missing}
use Rattle.loop_file.proofs.types.Types.given.Goals as goal

within_both : (i keys items len : ℕ) → i < keys → keys ≡ items → len ≡ items → i < len
within_both i keys items len h e f = omega arith

pub returns-in-Some : goal.returns-in-Some
returns-in-Some c =
    let at = position-Some (λ k. bytes_eq c.args.name.now k.now) c.args.self.now.names.keys c.in-Some.i c.args.name (sym c.get_index_of.ensures.index ∙ c.in-Some.is) in
    rw (given_found c.args.name.now c.args.self.now.names.keys c.args.self.now.given.items c.in-Some.i c.index.result.now c.args.name c.args.self.now.as_many at.0 at.1 at.2) (ap Ok c.index.ensures)

pub returns-in-None : goal.returns-in-None
returns-in-None c =
    let none : list_any (λ k. bytes_eq c.args.name.now k.now) c.args.self.now.names.keys ≡ false = sym c.get_index_of.ensures.found ∙ ap is_some c.in-None.is in
    sym (given_missing c.args.name.now c.args.self.now.names.keys c.args.self.now.given.items none)

pub index-requires : goal.index-requires
index-requires c =
    let at = position-Some (λ k. bytes_eq c.args.name.now k.now) c.args.self.now.names.keys c.in-Some.i c.args.name (sym c.get_index_of.ensures.index ∙ c.in-Some.is) in
    within_both c.in-Some.i _ _ _ at.0 c.args.self.now.as_many c.args.self.now.given.ok.0
