use Rattle.std.proofs.Common.{refl}
use Rattle.desk_command.proofs.ending.deliver.Goals as goal

pub returns-in-Ok-clause-delivers : goal.returns-in-Ok-clause-delivers
returns-in-Ok-clause-delivers g c =
    λ own. record {
      exact = λ _. refl;
      whole = λ _. c.in-Ok.ensures.whole;
      front = c.in-Ok.ensures.front;
      some_bytes = λ unwritten. absurd (own unwritten);
    }
