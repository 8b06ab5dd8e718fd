use Rattle.std.proofs.Common.{◌≡◌, map, drop}
use Rattle.std.specs.Option.{option_map}
use Rattle.rtl_tree.specs.TreeItem.{gate_drive}
use Rattle.elab_body.specs.elab_scope.Faults.{after, refusal}
use Rattle.elab_body.specs.elab_scope.Names.{meanings}
use Rattle.elab_parts.specs.Gates.{terminal_faults}
use Rattle.elab_parts.proofs.terminals.judge_terminals.Given as goal

abbrev pub invariant-loop-drive : goal.invariant-loop-drive
invariant-loop-drive l =
    after (option_map refusal l.best) (terminal_faults (meanings l.names) (map gate_drive (drop l.drive-index l.drives)))
    ≡ after (option_map refusal l.initial.best) (terminal_faults (meanings l.names) (map gate_drive l.drives))
