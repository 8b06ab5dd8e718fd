use Rattle.net_clean.proofs.Netlist.{hardware}
use Rattle.net_clean.proofs.law.hardware.Goals as goal

pub returns : goal.returns
returns c = hardware
