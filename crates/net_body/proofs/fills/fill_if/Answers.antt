use Rattle.std.proofs.Common.{◌∙◌, cond, sym, ap}
use Rattle.rtl_flat.specs.Signs.{width_in}
use Rattle.rtl_scan.specs.Bodies.{branches_of}
use Rattle.net_model.specs.Block.{filled_case}
use Rattle.net_body.specs.Bodies.{items_late, items_now}
use Rattle.net_body.specs.Marks.{maps}
use Rattle.net_body.proofs.fills.fill_if.Goals as goal

pub returns-then-full-clause-maps : goal.returns-then-full-clause-maps
returns-then-full-clause-maps c =
    let m = maps c.args.numbers.now c.args.marks.now in
    let ws = width_in c.args.design.now.signals.items in
    let branches = branches_of c.args.items.now in
    c.fill_items.ensures.maps
    ∙ sym (ap (λ b. cond b (filled_case c.args.fill (items_now ws branches) (items_late ws branches) m) m) c.if-full.true)
