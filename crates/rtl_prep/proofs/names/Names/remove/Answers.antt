use Rattle.std.proofs.Common.{◌∙◌, ap}
use Rattle.rtl_prep.specs.Conditions.{without_name}
use Rattle.rtl_prep.proofs.Named.{now, without_now}
use Rattle.rtl_prep.proofs.names.Names.remove.Goals as goal

pub returns : goal.returns
returns c =
    ap now c.remove.ensures.keys ∙ without_now c.args.name.now c.self.inside.all.keys ∙ ap (λ names. without_name names c.args.name.now) c.self.view_is
