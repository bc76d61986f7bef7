use Rattle.record_runs.proofs.tests.told.Given as goal

abbrev pub ghosts-computed : goal.ghosts-computed
ghosts-computed g a = record { name = a.blank.name; parts = a.blank.parts }
