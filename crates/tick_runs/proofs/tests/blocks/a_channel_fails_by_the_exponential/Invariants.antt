use Rattle.tick_runs.proofs.tests.blocks.a_channel_fails_by_the_exponential.Given as goal

abbrev pub ghosts-pass : goal.ghosts-pass
ghosts-pass g a = record { name = a.blank.name; parts = a.blank.parts }
