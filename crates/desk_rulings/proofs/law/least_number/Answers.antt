use Rattle.desk_rulings.proofs.Least.{least_number}
use Rattle.desk_rulings.proofs.law.least_number.Goals as goal

pub returns : goal.returns
returns c = least_number
