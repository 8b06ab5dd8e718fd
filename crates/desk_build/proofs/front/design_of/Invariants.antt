use Rattle.desk_build.proofs.front.design_of.Given as goal

abbrev pub ghosts-count_design : goal.ghosts-count_design
ghosts-count_design a = record { name = a.blank.name; parts = a.blank.parts }
