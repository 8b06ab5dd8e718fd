use Rattle.unknown_laws.proofs.Marks.{marked_marks}
use Rattle.unknown_laws.proofs.law.marked_marks.Goals as goal

pub returns : goal.returns
returns c = marked_marks
