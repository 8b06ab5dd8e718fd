use Rattle.std.proofs.Common.{◌∙◌, ap}
use Rattle.vcd_read.proofs.Written.{written}
use Rattle.vcd_read.specs.Codes.{named, codes_of}
use Rattle.vcd_read.proofs.codes.Codes.put.Goals as goal

pub returns : goal.returns
unfolding codes_of
returns c =
    written c.args.self.now.known c.insert.new.self c.in_ok-key.key.items c.args.code c.in_ok-insert.ensures.updates
    ∙ ap (λ name. named (codes_of c.args.self.now) name c.args.code) c.in_ok-key.ensures.items
