use Rattle.std.proofs.Common.{◌∙◌, ap}
use Rattle.rtl_prep.specs.Passes.{has}
use Rattle.rtl_prep.proofs.Named.{has_now}
use Rattle.rtl_prep.proofs.names.Names.contains.Goals as goal

pub returns : goal.returns
returns c = c.contains.ensures ∙ has_now c.args.name.now c.self.inside.all.keys ∙ ap (λ names. has names c.args.name.now) c.self.view_is
