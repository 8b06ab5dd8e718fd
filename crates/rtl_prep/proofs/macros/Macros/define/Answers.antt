use Rattle.std.proofs.Common.{false, Some}
use Rattle.rtl_prep.proofs.Tables.{written}
use Rattle.rtl_prep.proofs.macros.Macros.define.Goals as goal

pub returns-clause-ok : goal.returns-clause-ok
returns-clause-ok c =
    written c.args.self.now.all c.insert.new.self c.args.name.now (Some (record { body = c.args.body; busy = false })) c.in_ok-insert.ensures.updates
