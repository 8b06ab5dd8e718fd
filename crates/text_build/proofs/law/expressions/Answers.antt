use Rattle.text_build.proofs.Exprs.{expressions}
use Rattle.text_build.proofs.law.expressions.Goals as goal

pub returns : goal.returns
returns c = expressions
