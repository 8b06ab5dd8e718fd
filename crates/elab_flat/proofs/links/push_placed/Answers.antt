use Rattle.std.proofs.Common.{◌∙◌, map}
use Rattle.std.specs.Option.{option_map}
use Rattle.std.proofs.lemmas.Result.{on_ok_weaker}
use Rattle.rtl_flat.specs.Process.{task}
use Rattle.rtl_tree.specs.TreeExpr.{formula}
use Rattle.elab_walk.specs.elab_links.Ports.{sockets}
use Rattle.elab_flat.specs.Links.{sides}
use Rattle.elab_flat.proofs.Rows.{placed_none, placed_some}
use Rattle.elab_flat.proofs.links.push_placed.Goals as goal

pub returns-in-None : goal.returns-in-None
returns-in-None c =
    placed_none (map task c.args.made.now.items) (sockets c.args.ports.now) (sides c.args.ends) c.args.argument.now.at (option_map formula c.args.argument.now.value) c.deref.result.now c.args.ports.now.order.items c.args.place c.deref.ensures.value c.in-None.ensures.lookup.3

pub returns-in-Some : goal.returns-in-Some
returns-in-Some c =
    on_ok_weaker c.push_value.result (λ d. d ∙ placed_some (map task c.args.made.now.items) (sockets c.args.ports.now) (sides c.args.ends) c.args.argument.now.at (option_map formula c.args.argument.now.value) c.deref.result.now c.args.ports.now.order.items c.args.place c.in-Some.port.now c.deref.ensures.value c.in-Some.ensures.lookup.3.0 c.in-Some.ensures.lookup.1) c.push_value.ensures
