use Rattle.desk_memo.proofs.Found.{all_refused}
use Rattle.desk_memo.proofs.reading_law.all_refused.Goals as goal

pub returns : goal.returns
returns g c = all_refused
