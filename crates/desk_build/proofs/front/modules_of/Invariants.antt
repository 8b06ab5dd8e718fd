use Rattle.desk_build.proofs.front.modules_of.Given as goal

abbrev pub ghosts-count_modules : goal.ghosts-count_modules
ghosts-count_modules a = record { name = a.blank.name; parts = a.blank.parts }
