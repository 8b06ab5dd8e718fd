use Rattle.tests_layers.proofs.names.told.Given as goal

abbrev pub ghosts-elaborated : goal.ghosts-elaborated
ghosts-elaborated a = record { name = a.blank.name; parts = a.blank.parts }
