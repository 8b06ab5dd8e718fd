use Rattle.desk_answers.proofs.Agreeing.{still_fresh}
use Rattle.desk_answers.proofs.law.still_fresh.Goals as goal

pub returns : goal.returns
returns g c =
    still_fresh (record { design = c.same_design.ensures; files = c.same_files.ensures }) c.one_asked.ensures
