use Rattle.elab_lawful.proofs.Designs.{lawful as law}
use Rattle.elab_lawful.proofs.law.lawful.Goals as goal

pub returns : goal.returns
returns c = law
