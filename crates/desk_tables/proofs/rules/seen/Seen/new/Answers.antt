use Rattle.std.proofs.Common.{ap}
use Rattle.std.specs.Prelude.{is_some}
use Rattle.desk_tables.proofs.rules.seen.Seen.new.Goals as goal

pub returns : goal.returns
returns c = ap (λ values text. is_some (values text)) c.new.ensures
