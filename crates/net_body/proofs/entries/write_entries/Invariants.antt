use Rattle.std.proofs.Common.{◌≡◌, drop}
use Rattle.std.specs.List.{All}
use Rattle.net_model.specs.Block.{write_each}
use Rattle.net_body.specs.Entries.{IsInside, all_writes}
use Rattle.net_body.specs.Marks.{AreKept, maps}
use Rattle.net_body.proofs.entries.write_entries.Given as goal

abbrev pub invariant-loop-entry : goal.invariant-loop-entry
invariant-loop-entry l =
    AreKept l.signals l.numbers l.marks
    × All (IsInside l.signals) (all_writes (drop l.entry-index l.entries))
    × (write_each l.delayed (maps l.numbers l.marks) (all_writes (drop l.entry-index l.entries)) ≡ write_each l.delayed (maps l.initial.numbers l.initial.marks) (all_writes l.entries))
