use Rattle.std.proofs.Common.{◌+◌, ◌∙◌, ap, drop, subst, sym}
use Rattle.std.specs.List.{All}
use Rattle.rtl_scan.proofs.Labels.{left_at}
use Rattle.net_body.specs.Entries.{IsInside, all_writes, entry_writes}
use Rattle.net_model.specs.Block.{Maps, write_each}
use Rattle.net_body.specs.Marks.{maps}
use Rattle.net_body.proofs.Targets.{each_append, left_all, right_all}
use Rattle.net_body.proofs.entries.write_entries.Goals as goal

pub write_entry-requires-clause-inside : goal.write_entry-requires-clause-inside
write_entry-requires-clause-inside c =
    let signals = c.args.signals.now in
    let left = left_at c.args.entries.now c.loop-entry.entry-index c.entry-item.result c.loop-entry-test.true c.entry-item.is in
    left_all (IsInside signals) (entry_writes c.entry-item.result) (all_writes (drop (c.loop-entry.entry-index + 1) c.args.entries.now))
    (subst (λ es. All (IsInside signals) (all_writes es)) left c.loop-entry.invariant.1)

pub write_entry-requires-clause-kept : goal.write_entry-requires-clause-kept
write_entry-requires-clause-kept c = c.loop-entry.invariant.0

pub loop-entry-preserved : goal.loop-entry-preserved
loop-entry-preserved c =
    let signals = c.args.signals.now in
    let d = c.args.delayed in
    let e = c.entry-item.result in
    let others = all_writes (drop (c.loop-entry.entry-index + 1) c.args.entries.now) in
    let m = maps c.loop-entry.numbers c.loop-entry.marks in
    let left = left_at c.args.entries.now c.loop-entry.entry-index e c.loop-entry-test.true c.entry-item.is in (
      c.write_entry.ensures.kept,
      right_all (IsInside signals) (entry_writes e) others (subst (λ es. All (IsInside signals) (all_writes es)) left c.loop-entry.invariant.1),
      ap (λ (n : Maps). write_each d n others) c.write_entry.ensures.maps
          ∙ sym (each_append d m (entry_writes e) others)
          ∙ ap (λ es. write_each d m (all_writes es)) (sym left)
          ∙ c.loop-entry.invariant.2,
    )
