use Rattle.std.proofs.Common.{◌≡◌, ◌++◌, map, drop}
use Rattle.rtl_tree.specs.TreeItem.{net}
use Rattle.elab_standard.specs.Scopes.{scopes}
use Rattle.elab_uses.specs.Bodies.{notes_in}
use Rattle.elab_uses.specs.Items.{net_uses}
use Rattle.elab_uses.proofs.items.push_nets.Given as goal

abbrev pub invariant-loop-wire : goal.invariant-loop-wire
invariant-loop-wire l =
    l.made.items ++ notes_in l.home (net_uses (scopes l.scopes) (map net (drop l.wire-index l.wires)))
    ≡ l.initial.made.items ++ notes_in l.home (net_uses (scopes l.scopes) (map net l.wires))
