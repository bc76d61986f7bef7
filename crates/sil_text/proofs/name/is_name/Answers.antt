use Rattle.std.proofs.Common.{false, Decides, rules}
use Rattle.std.proofs.lemmas.Bool.Decides.{same_from_decides}
use Rattle.sil_model.specs.LoopValue.{IsName}
use Rattle.sil_text.specs.Name.{is_name_text}
use Rattle.sil_text.proofs.Names.{decides_name}
use Rattle.sil_text.proofs.name.is_name.Goals as goal

pub returns-then-is_empty-clause-answer : goal.returns-then-is_empty-clause-answer
returns-then-is_empty-clause-answer c =
    let exactly : Decides false (IsName c.args.s.now) = search rules in
    same_from_decides false (is_name_text c.args.s.now) exactly (decides_name c.args.s.now)

pub returns-clause-answer : goal.returns-clause-answer
returns-clause-answer c =
    let exactly : Decides c.all.result (IsName c.args.s.now) = search rules in
    same_from_decides c.all.result (is_name_text c.args.s.now) exactly (decides_name c.args.s.now)
