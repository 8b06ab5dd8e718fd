use Rattle.rtl_flat.proofs.Paths.{decided}
use Rattle.rtl_scan.proofs.law.path_sets.Goals as goal

pub returns : goal.returns
returns c = decided
