use Rattle.desk_http.proofs.Cuts.{before_cases}
use Rattle.desk_http.proofs.route.before.Goals as goal

pub returns : goal.returns
returns c = before_cases c.args.end.now c.args.text.now c.strip_suffix.result c.strip_suffix.ensures.cases
