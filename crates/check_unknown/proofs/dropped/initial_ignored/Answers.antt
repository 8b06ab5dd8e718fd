use Rattle.std.proofs.lemmas.Result.{IfOk-weaker}
use Rattle.text_ground.specs.declared.dropped.DropKind.TheVariants.{Initial}
use Rattle.rtl_rule.specs.declared.rule.Rule.TheVariants as rule
use Rattle.check_unknown.proofs.Regions.{regions_found}
use Rattle.check_unknown.proofs.dropped.initial_ignored.Goals as goal

pub returns : goal.returns
returns c =
    IfOk-weaker c.regions.result _ _
    (λ found is. regions_found rule.InitialIgnored Initial c.args.design.now.dropped.items c.deref.result.now found.items c.deref.ensures.value is)
    c.regions.ensures
