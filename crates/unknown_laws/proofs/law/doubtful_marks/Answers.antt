use Rattle.unknown_laws.proofs.Marks.{doubtful_marks}
use Rattle.unknown_laws.proofs.law.doubtful_marks.Goals as goal

pub returns : goal.returns
returns c = doubtful_marks
