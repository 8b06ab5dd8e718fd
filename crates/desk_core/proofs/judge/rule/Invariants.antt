use Rattle.desk_core.proofs.judge.rule.Given as goal

abbrev pub ghosts-count_ruling : goal.ghosts-count_ruling
ghosts-count_ruling a = record { name = a.blank.name; parts = a.blank.parts }
