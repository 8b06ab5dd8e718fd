use Rattle.desk_memo.proofs.Found.{one_list}
use Rattle.desk_memo.proofs.reading_law.one_list.Goals as goal

pub returns : goal.returns
returns g c = one_list c.never_both.ensures c.one_asked.ensures
