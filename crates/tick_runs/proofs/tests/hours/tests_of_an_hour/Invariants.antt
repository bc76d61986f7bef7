use Rattle.tick_runs.proofs.tests.hours.tests_of_an_hour.Given as goal

abbrev pub ghosts-run_all : goal.ghosts-run_all
ghosts-run_all g a = record { name = a.blank.name; parts = a.blank.parts }
