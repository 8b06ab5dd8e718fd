use Rattle.std.proofs.Common.{◌≡◌, map, drop}
use Rattle.std.specs.Option.{option_map}
use Rattle.rtl_tree.specs.TreeItem.{associated}
use Rattle.elab_items.specs.elab_scope.Faults.{after, refusal}
use Rattle.elab_items.specs.elab_scope.Names.{meanings}
use Rattle.elab_links.specs.Connections.{named_link_faults}
use Rattle.elab_links.specs.Marks.{marks_of, no_marks}
use Rattle.elab_links.specs.Ports.{sockets}
use Rattle.elab_links.proofs.connections.judge_named.Given as goal

abbrev pub invariant-loop-argument : goal.invariant-loop-argument
invariant-loop-argument l =
    after (option_map refusal l.best) (named_link_faults (sockets l.ports) (meanings l.names) (marks_of l.taken) (map associated (drop l.argument-index l.arguments)))
    ≡ after (option_map refusal l.initial.best) (named_link_faults (sockets l.ports) (meanings l.names) no_marks (map associated l.arguments))
