use Rattle.std.proofs.Common.{get_or, sym}
use Rattle.rtl_flat.specs.Expression.{tree}
use Rattle.rtl_flat.proofs.Stored.{sized_for_values}
use Rattle.net_body.proofs.choices.item_meets.Goals as goal

pub some_meet-requires-clause-sized : goal.some_meet-requires-clause-sized
some_meet-requires-clause-sized c = λ k label within.
    sized_for_values c.args.design.now.signals.items c.args.numbers.now (tree (get_or c.args.labels.now k label)) c.requires.stored.stored c.requires.stored.each (c.requires.expressions k label within)

pub some_meet-requires-clause-widths : goal.some_meet-requires-clause-widths
some_meet-requires-clause-widths c = λ k label within. sym (c.requires.widths k label within)
