use Rattle.rtl_flat.specs.Expression.{tree}
use Rattle.rtl_flat.proofs.Stored.{sized_for_values}
use Rattle.net_body.proofs.choices.evaluate.Goals as goal

pub number-requires : goal.number-requires
number-requires c =
    sized_for_values c.args.design.now.signals.items c.args.numbers.now (tree c.args.e.now) c.requires.stored.stored c.requires.stored.each c.requires.expression
