use Rattle.tick_runs.proofs.tests.lines.products_along_lines.Given as goal

abbrev pub ghosts-run_all : goal.ghosts-run_all
ghosts-run_all g a = record { name = a.blank.name; parts = a.blank.parts }
