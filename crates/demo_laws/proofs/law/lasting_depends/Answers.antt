use Rattle.demo_laws.proofs.Laws.{lasting_depends}
use Rattle.demo_laws.proofs.law.lasting_depends.Goals as goal

-- src/law.rt:7:1
pub returns : goal.returns
returns c = lasting_depends
