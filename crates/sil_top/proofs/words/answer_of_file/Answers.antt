use Rattle.sil_top.proofs.Loading.{made_after, memory_after}
use Rattle.sil_top.proofs.words.answer_of_file.Goals as goal

pub returns-in-Ok : goal.returns-in-Ok
returns-in-Ok g c =
    let load = rw c.as_str.ensures at c.in_ok-l.ensures in
    made_after _ _ _ _ _ _ _ _ load (c.in_ok-l.l, load.read, rw c.requires.of_file at c.in-Ok.ensures)

-- no memory after the file was read
pub returns : goal.returns
returns g c =
    let load = rw c.as_str.ensures at c.in_ok-l.ensures in
    memory_after _ _ _ _ _ _ _ _ _ load load.read.whole
