use Rattle.std.proofs.Common.{◌≡◌, drop}
use Rattle.std.specs.List.{All}
use Rattle.rtl_flat.specs.Value.{store}
use Rattle.event_model.specs.Writes.{all_written}
use Rattle.net_body.specs.Entries.{IsInside, all_writes}
use Rattle.net_body.specs.Marks.{AreStored}
use Rattle.net_body.proofs.drives.store_entries.Given as goal

abbrev pub invariant-loop-entry : goal.invariant-loop-entry
invariant-loop-entry l =
    AreStored l.signals l.numbers
    × All (IsInside l.signals) (all_writes (drop l.entry-index l.entries))
    × (all_written (store l.numbers) (all_writes (drop l.entry-index l.entries)) ≡ all_written (store l.initial.numbers) (all_writes l.entries))
