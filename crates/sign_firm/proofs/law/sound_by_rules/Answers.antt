use Rattle.sign_firm.proofs.Firm.{sound_by_rules}
use Rattle.sign_firm.proofs.law.sound_by_rules.Goals as goal

pub returns : goal.returns
returns c d = sound_by_rules d (c.fulfilled.ensures d)
