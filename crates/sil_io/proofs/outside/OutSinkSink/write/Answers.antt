use Rattle.std.proofs.Common.{◌++◌, take, ◌∙◌, ap}
use Rattle.std.specs.List.{concat}
use Rattle.sil_io.proofs.Logs.{concat-push}
use Rattle.sil_io.proofs.outside.OutSinkSink.write.Goals as goal

pub returns-after-count-eq0-clause-taken : goal.returns-after-count-eq0-clause-taken
returns-after-count-eq0-clause-taken g c =
    let piece = take c.in-Ok.count c.args.bytes.now in
    ap concat c.push-in-Ok.ensures ∙ concat-push c.self.inside.taken.value piece ∙ ap (λ s. s.taken ++ piece) c.self.view_is
