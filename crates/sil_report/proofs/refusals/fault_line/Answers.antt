use Rattle.std.proofs.Common.{◌∙◌}
use Rattle.std.proofs.lemmas.Result.{IfOk-weaker}
use Rattle.file_fault.specs.Fault.{fault_of}
use Rattle.sil_report.specs.Texts.{file_fault_line_of}
use Rattle.sil_report.proofs.Pieces.{refusal_of_one}
use Rattle.sil_report.proofs.refusals.fault_line.Goals as goal

pub returns : goal.returns
unfolding file_fault_line_of
returns c = IfOk-weaker c.format.result _ _ (λ text e. e ∙ refusal_of_one (fault_of c.args.f.now)) c.format.ensures.ok
