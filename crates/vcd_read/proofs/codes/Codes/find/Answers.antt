use Rattle.std.proofs.Common.{rules}
use Rattle.vcd_read.specs.Codes.{codes_of}
use Rattle.vcd_read.proofs.codes.Codes.find.Goals as goal

pub returns : goal.returns
unfolding codes_of
returns c = search rules
