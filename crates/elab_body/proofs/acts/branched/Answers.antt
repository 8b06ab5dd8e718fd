use Rattle.elab_body.proofs.Making.{if_made}
use Rattle.elab_body.proofs.acts.branched.Goals as goal

pub returns : goal.returns
returns c = if_made c.args.test c.args.yes c.args.no c.args.spot
