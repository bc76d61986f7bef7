use Rattle.std.proofs.Common.{◌∙◌}
use Rattle.std.specs.Str.{bytes_eq}
use Rattle.loop_file.proofs.ShownNames.{any_shown}
use Rattle.loop_file.proofs.entry.is_known.Goals as goal

pub returns : goal.returns
returns c = c.contains.ensures.value ∙ any_shown (λ k. bytes_eq k c.args.key.now) c.args.known.now
