use Rattle.phase_powers.proofs.matrices.Matrices.are_of.Goals as goal

pub returns-in-Some : goal.returns-in-Some
returns-in-Some c = λ t. rw c.in-Some.is (c.has.ensures.hours t, c.has.ensures.beats t, c.has.ensures.order t)
