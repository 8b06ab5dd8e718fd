use Rattle.desk_steps.proofs.Cutting.{less_left}
use Rattle.desk_steps.proofs.line.read_settings.Goals as goal

pub loop-rest-smaller : goal.loop-rest-smaller
loop-rest-smaller c = less_left c.loop-rest.rest c.next_part.result.1 c.in-Some.text c.in-Some.is c.next_part.ensures.shorter
