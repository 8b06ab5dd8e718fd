use Rattle.rtl_text.proofs.Unique.{one_answer}
use Rattle.rtl_text.proofs.law.one_answer.Goals as goal

pub returns : goal.returns
returns c = one_answer
