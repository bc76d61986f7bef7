use Rattle.tick_runs.proofs.tests.powers.products_and_powers_of_matrices.Given as goal

abbrev pub ghosts-run_all : goal.ghosts-run_all
ghosts-run_all g a = record { name = a.blank.name; parts = a.blank.parts }
