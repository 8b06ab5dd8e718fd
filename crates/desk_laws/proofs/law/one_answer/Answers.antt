use Rattle.desk_laws.proofs.OneAnswer.{one_answer}
use Rattle.desk_laws.proofs.law.one_answer.Goals as goal

pub returns : goal.returns
returns c = one_answer c.one_line.ensures
