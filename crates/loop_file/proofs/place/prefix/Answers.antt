use Rattle.loop_file.proofs.place.prefix.Goals as goal

pub returns-in-OfType : goal.returns-in-OfType
returns-in-OfType c = rw c.in-OfType.is c.format.ensures.ok

pub returns-in-OfSubsystem : goal.returns-in-OfSubsystem
returns-in-OfSubsystem c = rw c.in-OfSubsystem.is c.format-in-OfSubsystem.ensures.ok

pub returns-in-OfTest : goal.returns-in-OfTest
returns-in-OfTest c = rw c.in-OfTest.is c.format-in-OfTest.ensures.ok
