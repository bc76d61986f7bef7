use Rattle.sil_top.proofs.figures.report_of.Given as goal

abbrev pub ghosts-evaluate : goal.ghosts-evaluate
ghosts-evaluate g a = record { name = a.blank.name; parts = a.blank.parts }
