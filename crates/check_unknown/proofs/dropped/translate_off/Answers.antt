use Rattle.std.proofs.lemmas.Result.{IfOk-weaker}
use Rattle.text_ground.specs.declared.dropped.DropKind.TheVariants.{TranslateOff}
use Rattle.rtl_rule.specs.declared.rule.Rule.TheVariants as rule
use Rattle.check_unknown.proofs.Regions.{regions_found}
use Rattle.check_unknown.proofs.dropped.translate_off.Goals as goal

pub returns : goal.returns
returns c =
    IfOk-weaker c.regions.result _ _
    (λ found is. regions_found rule.TranslateOff TranslateOff c.args.design.now.dropped.items c.deref.result.now found.items c.deref.ensures.value is)
    c.regions.ensures
