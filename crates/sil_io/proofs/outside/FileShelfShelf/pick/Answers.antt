use Rattle.std.proofs.Common.{◌≡◌, Some, None, ◌∙◌, ap}
use Rattle.std.specs.List.{concat, last_or}
use Rattle.sil_io.proofs.Logs.{last_or-push}
use Rattle.sil_io.proofs.outside.FileShelfShelf.pick.Goals as goal

pub returns-in-Ok-clause-anew : goal.returns-in-Ok-clause-anew
returns-in-Ok-clause-anew g c =
    let named : last_or None c.push.new.self.value ≡ Some c.args.name.now =
    ap (last_or None) c.push.ensures ∙ last_or-push None c.self.inside.tried.value c.as_bytes.result.now ∙ ap Some c.as_bytes.ensures.value in
    ap (λ name. record { name = name; bytes = concat c.new-self-inside.result.value }) named
    ∙ ap (λ pieces. record { name = Some c.args.name.now; bytes = concat pieces }) c.new-self-inside.ensures
