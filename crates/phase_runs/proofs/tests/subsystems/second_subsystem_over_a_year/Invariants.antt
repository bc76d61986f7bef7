use Rattle.phase_runs.proofs.tests.subsystems.second_subsystem_over_a_year.Given as goal

abbrev pub ghosts-run_second : goal.ghosts-run_second
ghosts-run_second g a = record { name = a.blank.name; parts = a.blank.parts }
