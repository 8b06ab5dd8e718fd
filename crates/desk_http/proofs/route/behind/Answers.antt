use Rattle.desk_http.proofs.Cuts.{behind_cases}
use Rattle.desk_http.proofs.route.behind.Goals as goal

pub returns : goal.returns
returns c = behind_cases c.args.front.now c.args.text.now c.strip_prefix.result c.strip_prefix.ensures.cases
