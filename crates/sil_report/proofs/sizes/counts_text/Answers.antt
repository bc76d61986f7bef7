use Rattle.std.proofs.Common.{◌∙◌}
use Rattle.std.proofs.lemmas.Result.{IfOk-weaker}
use Rattle.sil_report.proofs.Pieces.{counts_in_pieces}
use Rattle.sil_report.proofs.sizes.counts_text.Goals as goal

pub returns : goal.returns
returns c = IfOk-weaker c.format.result _ _ (λ text e. e ∙ counts_in_pieces c.args.mission c.args.phases c.args.states c.args.beats c.args.order) c.format.ensures.ok
