use Rattle.tick_runs.proofs.tests.beats.one_beat_of_one_channel.Given as goal

abbrev pub ghosts-one_beat : goal.ghosts-one_beat
ghosts-one_beat g a = record { name = a.blank.name; parts = a.blank.parts }
