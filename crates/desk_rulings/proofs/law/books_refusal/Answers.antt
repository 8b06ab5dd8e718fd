use Rattle.desk_rulings.proofs.Least.{books_refusal}
use Rattle.desk_rulings.proofs.law.books_refusal.Goals as goal

pub returns : goal.returns
returns c = books_refusal
