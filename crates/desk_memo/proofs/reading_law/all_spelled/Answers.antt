use Rattle.desk_memo.proofs.Found.{all_spelled}
use Rattle.desk_memo.proofs.reading_law.all_spelled.Goals as goal

pub returns : goal.returns
returns g c = all_spelled
