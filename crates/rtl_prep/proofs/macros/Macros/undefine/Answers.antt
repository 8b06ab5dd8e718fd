use Rattle.std.proofs.Common.{None}
use Rattle.rtl_prep.proofs.Tables.{written}
use Rattle.rtl_prep.proofs.macros.Macros.undefine.Goals as goal

pub returns : goal.returns
returns c = written c.args.self.now.all c.remove.new.self c.args.name.now None c.remove.ensures.updates
