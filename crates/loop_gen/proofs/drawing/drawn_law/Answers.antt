use Rattle.loop_gen.proofs.Limits.{drawn_suitable}
use Rattle.loop_gen.proofs.drawing.drawn_law.Goals as goal

pub returns : goal.returns
returns c = drawn_suitable
