use Rattle.text_build.proofs.Shallow.{all_shallow}
use Rattle.text_build.proofs.law.shallow.Goals as goal

pub returns : goal.returns
returns c = all_shallow
