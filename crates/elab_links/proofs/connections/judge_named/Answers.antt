use Rattle.std.proofs.Common.{◌∙◌, ap, sym, map, drop, ◌+◌}
use Rattle.std.specs.Option.{option_map}
use Rattle.rtl_tree.specs.TreeExpr.{formula}
use Rattle.rtl_tree.specs.TreeItem.{associated}
use Rattle.elab_items.specs.elab_scope.Faults.{Port, after, refusal}
use Rattle.elab_items.specs.elab_scope.Names.{meanings}
use Rattle.elab_links.specs.Connections.{connection_faults, named_link_faults}
use Rattle.elab_links.specs.Marks.{Marks, marks_of, with_mark}
use Rattle.elab_links.specs.Parameters.{name_faults}
use Rattle.elab_links.specs.Ports.{sockets}
use Rattle.elab_links.proofs.Steps.{left_at, two_told}
use Rattle.elab_links.proofs.connections.judge_named.Goals as goal

pub loop-argument-preserved : goal.loop-argument-preserved
loop-argument-preserved c =
    ap
    (λ taken. after (option_map refusal c.in_ok-best.best) (named_link_faults (sockets c.args.ports.now) (meanings c.args.names.now) taken (map associated (drop (c.loop-argument.argument-index + 1) c.args.arguments.now))))
    c.in_ok-add.ensures
    ∙ (two_told
    (option_map refusal c.loop-argument.best)
    (option_map refusal c.judge_name-best.result)
    (option_map refusal c.in_ok-best.best)
    (name_faults ((sockets c.args.ports.now).listed c.argument-item.result.name.text) (marks_of c.loop-argument.taken c.argument-item.result.name.text) c.argument-item.result.name.at (Port c.argument-item.result.name.text))
    (connection_faults (meanings c.args.names.now) ((sockets c.args.ports.now).direction c.argument-item.result.name.text) c.argument-item.result.name.at c.argument-item.result.name.text (option_map formula c.argument-item.result.value))
    (named_link_faults (sockets c.args.ports.now) (meanings c.args.names.now) (with_mark (marks_of c.loop-argument.taken) c.argument-item.result.name.text) (map associated (drop (c.loop-argument.argument-index + 1) c.args.arguments.now)))
    (c.judge_name-best.ensures
    ∙ (ap (λ known. after (option_map refusal c.loop-argument.best) (name_faults known c.has-in-loop-argument.result c.argument-item.result.name.at (Port c.argument-item.result.name.text))) (c.has.ensures ∙ ap (λ (marks : Marks). marks c.argument-item.result.name.text) c.in_ok-listed.ensures)
    ∙ ap (λ taken. after (option_map refusal c.loop-argument.best) (name_faults ((sockets c.args.ports.now).listed c.argument-item.result.name.text) taken c.argument-item.result.name.at (Port c.argument-item.result.name.text))) c.has-in-loop-argument.ensures))
    (c.in_ok-best.ensures
    ∙ ap (λ direction. after (option_map refusal c.judge_name-best.result) (connection_faults (meanings c.args.names.now) direction c.argument-item.result.name.at c.argument-item.result.name.text (option_map formula c.argument-item.result.value))) c.direction-direction.ensures)
    ∙ (ap
    (λ arguments. after (option_map refusal c.loop-argument.best) (named_link_faults (sockets c.args.ports.now) (meanings c.args.names.now) (marks_of c.loop-argument.taken) (map associated arguments)))
    (sym (left_at c.args.arguments.now c.loop-argument.argument-index c.argument-item.result c.loop-argument-test.true c.argument-item.is))
    ∙ c.loop-argument.invariant))
