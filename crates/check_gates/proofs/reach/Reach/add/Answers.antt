use Rattle.std.proofs.Common.{◌≡◌, ◌∙◌, ◌<◌, false, length, get_or, refl, sym, arith}
use Rattle.std.proofs.lemmas.List.{get_or_read}
use Rattle.check_gates.proofs.Reached.{finds_new}
use Rattle.check_gates.proofs.reach.Reach.add.Goals as goal

pub returns : goal.returns
returns c =
    let reach = c.args.self.now in
    let inside : c.args.node < length reach.seen.items = omega arith in
    let fresh : get_or reach.seen.items c.args.node false ≡ false = sym (get_or_read reach.seen.items c.args.node c.index.result.now inside c.index.ensures false) ∙ c.if-index.false in
    finds_new c.args.node reach _ inside fresh refl c.in_ok-push.ensures.items
