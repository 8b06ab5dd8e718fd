use Rattle.std.proofs.Common.{◌≡◌, ◌∙◌, List, ap, sym, cond}
use Rattle.std.specs.Prelude.{Vec}
use Rattle.std.specs.declared.alloc.Global.{Global}
use Rattle.std.specs.List.{slice_get}
use Rattle.rtl_flat.specs.declared.expr.SigId.{SigId}
use Rattle.rtl_flat.specs.declared.signal.Signal.{Signal}
use Rattle.rtl_flat.specs.Signs.{width_in}
use Rattle.rtl_flat.specs.Value.{store}
use Rattle.vcd_signals.specs.Recording.{has, row, value_after}
use Rattle.vcd_signals.proofs.Setting.{set_those}
use Rattle.vcd_signals.proofs.Tables.{row_get, row_past}
use Rattle.vcd_signals.proofs.recorder.apply.Goals as goal

pub returns-then-place-table : goal.returns-then-place-table
returns-then-place-table c = λ i.
    let table = c.args.table.now in
    let codes = c.args.codes.now in
    let signals = c.args.design.now.signals.items in
    let k = c.args.code in
    let old = store c.args.values.now i in
    let followers : c.deref-then-place-table.result.now ≡ row table k =
    c.deref-then-place-table.ensures.value
    ∙ ap (λ (v : Vec SigId Global). v.items) c.index-table-place.is
    ∙ row_get table k c.index-table-place.result c.if-place-table.true in
    c.set_all.ensures i
    ∙ ap (λ (l : List Signal). cond (has c.deref-then-place-table.result.now i) (value_after (slice_get codes i) (width_in l i) (record { code = k; bits = c.args.bits.now }) old) old) c.deref.ensures.value
    ∙ ap (λ (l : List SigId). cond (has l i) (value_after (slice_get codes i) (width_in signals i) (record { code = k; bits = c.args.bits.now }) old) old) followers
    ∙ set_those table codes (width_in signals i) (record { code = k; bits = c.args.bits.now }) old i c.requires.followed

pub returns-else-place-table : goal.returns-else-place-table
returns-else-place-table c = λ i.
    let table = c.args.table.now in
    let codes = c.args.codes.now in
    let signals = c.args.design.now.signals.items in
    let k = c.args.code in
    let old = store c.args.values.now i in
    sym (ap (λ (l : List SigId). cond (has l i) (value_after (slice_get codes i) (width_in signals i) (record { code = k; bits = c.args.bits.now }) old) old) (row_past table k c.if-place-table.false))
    ∙ set_those table codes (width_in signals i) (record { code = k; bits = c.args.bits.now }) old i c.requires.followed
