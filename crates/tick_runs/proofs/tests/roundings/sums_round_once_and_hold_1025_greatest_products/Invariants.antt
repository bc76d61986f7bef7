use Rattle.tick_runs.proofs.tests.roundings.sums_round_once_and_hold_1025_greatest_products.Given as goal

abbrev pub ghosts-sums : goal.ghosts-sums
ghosts-sums g a = record { name = a.blank.name; parts = a.blank.parts }
