use Rattle.std.proofs.Common.{◌∙◌, ap}
use Rattle.desk_steps.proofs.Written.{written}
use Rattle.desk_steps.specs.Names.{named, names_of}
use Rattle.desk_steps.proofs.names.Names.put.Goals as goal

pub returns : goal.returns
returns c =
    written c.args.self.now.inputs c.insert.new.self c.in_ok-key.key.items c.args.input c.in_ok-insert.ensures.updates
    ∙ ap (λ name. named (names_of c.args.self.now) name c.args.input) c.in_ok-key.ensures.items
