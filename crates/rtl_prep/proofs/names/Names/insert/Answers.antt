use Rattle.std.proofs.Common.{◌∙◌, ap}
use Rattle.rtl_prep.specs.Conditions.{with_name}
use Rattle.rtl_prep.proofs.Named.{now, with_now}
use Rattle.rtl_prep.proofs.names.Names.insert.Goals as goal

pub returns : goal.returns
returns c =
    ap now c.in_ok-insert.ensures.keys ∙ with_now c.args.name c.self.inside.all.keys ∙ ap (λ names. with_name names c.args.name.now) c.self.view_is
