use Rattle.std.proofs.Common.{◌∙◌}
use Rattle.rtl_flat.specs.Signs.{width_in}
use Rattle.rtl_flat.specs.Process.{task}
use Rattle.rtl_scan.proofs.Users.{noted_all, same_rows}
use Rattle.rtl_scan.proofs.usages.note.Goals as goal

pub returns-clause-noted : goal.returns-clause-noted
returns-clause-noted c =
    let p = c.args.number in
    let found = c.in_ok-found.found in
    noted_all (width_in c.args.widths.signals.now) (task c.args.process.now) p found c.in_ok-written.written.rows.items c.in_ok-outside.outside.rows.items c.in_ok-watched.watched.rows.items
    c.in_ok-found.ensures.writes c.in_ok-found.ensures.late c.in_ok-found.ensures.reads
    c.in_ok-written.ensures.order c.in_ok-outside.ensures.order c.in_ok-watched.ensures.order
    (λ s k. c.in_ok-written.ensures.bits s k ∙ c.in_ok-found.ensures.writes s k)
    (λ s k. c.in_ok-outside.ensures.bits s k ∙ c.in_ok-found.ensures.reads s k)
    (λ s k. c.in_ok-watched.ensures.bits s k ∙ c.in_ok-listed.ensures s k)
    c.args.usages.now c.note_rows.new.usages c.note_rows-2.new.usages c.note_rows-3.new.usages
    (same_rows c.deref.result.now c.in_ok-written.written.rows.items c.deref.ensures.value p found c.args.usages.now c.note_rows.new.usages c.note_rows.ensures)
    (same_rows c.deref-2.result.now c.in_ok-outside.outside.rows.items c.deref-2.ensures.value p found c.note_rows.new.usages c.note_rows-2.new.usages c.note_rows-2.ensures)
    (same_rows c.deref-3.result.now c.in_ok-watched.watched.rows.items c.deref-3.ensures.value p found c.note_rows-2.new.usages c.note_rows-3.new.usages c.note_rows-3.ensures)

pub returns-clause-access : goal.returns-clause-access
returns-clause-access c =
    record {
      reads = record { same = λ s k. c.in_ok-outside.ensures.bits s k ∙ c.in_ok-found.ensures.reads s k; order = c.in_ok-outside.ensures.order };
      writes = record { same = λ s k. c.in_ok-written.ensures.bits s k ∙ c.in_ok-found.ensures.writes s k; order = c.in_ok-written.ensures.order };
      lists = record { same = λ s k. c.in_ok-watched.ensures.bits s k ∙ c.in_ok-listed.ensures s k; order = c.in_ok-watched.ensures.order };
    }
