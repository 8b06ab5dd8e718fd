use Rattle.std.proofs.Common.{◌∙◌, ap}
use Rattle.name_map.specs.Values.{values_of, with_value}
use Rattle.check_conditions.specs.Kept.{joined}
use Rattle.check_conditions.proofs.Providing.{macro_more}
use Rattle.check_conditions.proofs.providers.push_macros.Goals as goal

pub loop-name-preserved : goal.loop-name-preserved
loop-name-preserved c = λ number name.
    let old = values_of c.loop-name.providers in
    let macro = c.name-item.result in
    macro_more old (values_of c.put.new.self) c.args.file c.args.macros.now c.loop-name.name-index macro c.loop-name-test.true c.name-item.is
    (c.in_ok-put.ensures.ok
    ∙ ap (λ p. with_value (values_of c.loop-name.providers) c.name-item.result p) (c.joined.ensures ∙ ap (λ had. joined had c.args.file) c.find-had.ensures))
    number name _ (c.loop-name.invariant number name)
