use Rattle.desk_memo.proofs.Found.{all_asked}
use Rattle.desk_memo.proofs.reading_law.all_asked.Goals as goal

pub returns : goal.returns
returns g c = all_asked
