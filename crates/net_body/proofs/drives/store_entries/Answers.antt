use Rattle.std.proofs.Common.{◌+◌, ◌∙◌, ap, drop, subst, sym}
use Rattle.std.specs.List.{All}
use Rattle.rtl_scan.proofs.Labels.{left_at}
use Rattle.net_body.specs.Entries.{IsInside, all_writes, entry_writes}
use Rattle.rtl_flat.specs.Value.{store}
use Rattle.event_model.specs.Writes.{Values, all_written}
use Rattle.net_body.proofs.Targets.{left_all, right_all, written_append}
use Rattle.net_body.proofs.drives.store_entries.Goals as goal

pub store_entry-requires-clause-inside : goal.store_entry-requires-clause-inside
store_entry-requires-clause-inside c =
    let signals = c.args.signals.now in
    let left = left_at c.args.entries.now c.loop-entry.entry-index c.entry-item.result c.loop-entry-test.true c.entry-item.is in
    left_all (IsInside signals) (entry_writes c.entry-item.result) (all_writes (drop (c.loop-entry.entry-index + 1) c.args.entries.now))
    (subst (λ es. All (IsInside signals) (all_writes es)) left c.loop-entry.invariant.1)

pub store_entry-requires-clause-stored : goal.store_entry-requires-clause-stored
store_entry-requires-clause-stored c = c.loop-entry.invariant.0

pub loop-entry-preserved : goal.loop-entry-preserved
loop-entry-preserved c =
    let signals = c.args.signals.now in
    let e = c.entry-item.result in
    let others = all_writes (drop (c.loop-entry.entry-index + 1) c.args.entries.now) in
    let v = store c.loop-entry.numbers in
    let left = left_at c.args.entries.now c.loop-entry.entry-index e c.loop-entry-test.true c.entry-item.is in (
      c.store_entry.ensures.stored,
      right_all (IsInside signals) (entry_writes e) others (subst (λ es. All (IsInside signals) (all_writes es)) left c.loop-entry.invariant.1),
      ap (λ (n : Values). all_written n others) c.store_entry.ensures.numbers
          ∙ sym (written_append v (entry_writes e) others)
          ∙ ap (λ es. all_written v (all_writes es)) (sym left)
          ∙ c.loop-entry.invariant.2,
    )
