use Rattle.std.proofs.Common.{◌≡◌, ◌++◌, None, true, take, ◌∙◌, ap, sym}
use Rattle.std.specs.Prelude.{is_some}
use Rattle.std.specs.List.{concat, last_or}
use Rattle.sil_io.specs.Handed.{handed_more}
use Rattle.sil_io.specs.Outside.{handed_by}
use Rattle.sil_io.proofs.Logs.{concat-push}
use Rattle.sil_io.proofs.outside.FileShelfShelf.read.Goals as goal

pub returns-in-Ok-clause-handed : goal.returns-in-Ok-clause-handed
returns-in-Ok-clause-handed g c =
    let tried = c.self.inside.tried.value in
    let pieces = c.self.inside.pieces.value in
    let piece = take c.in-Ok.count c.read.new.buf in
    let before : c.args.self.now.handed ≡ handed_by true tried pieces =
    ap (λ s. s.handed) (sym c.self.view_is) ∙ ap (λ f. handed_by (is_some f) tried pieces) c.in-Some.is in
    let more : concat c.push.new.self.value ≡ concat pieces ++ piece = ap concat c.push.ensures ∙ concat-push pieces piece in
    ap (λ xs. record { name = last_or None tried; bytes = xs }) more ∙ ap (λ h. handed_more h piece) (sym before)
