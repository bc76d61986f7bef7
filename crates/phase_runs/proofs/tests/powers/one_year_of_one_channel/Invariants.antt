use Rattle.phase_runs.proofs.tests.powers.one_year_of_one_channel.Given as goal

abbrev pub ghosts-one_year : goal.ghosts-one_year
ghosts-one_year g a = record { name = a.blank.name; parts = a.blank.parts }
