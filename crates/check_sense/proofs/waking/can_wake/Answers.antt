use Rattle.std.proofs.Common.{◌∙◌, ap, List}
use Rattle.std.specs.List.{list_any}
use Rattle.rtl_flat.specs.declared.signal.Signal.{Signal}
use Rattle.rtl_flat.specs.Flats.{flat}
use Rattle.check_found.specs.rtl_scan.declared.bits.Row.{Row}
use Rattle.check_found.specs.rtl_scan.Sets.{has_rows}
use Rattle.check_sense.specs.Telling.{row_wakes}
use Rattle.check_sense.proofs.Woken.{can_wake_is}
use Rattle.check_sense.proofs.waking.can_wake.Goals as goal

pub returns : goal.returns
returns c = λ t at.
    let d = flat c.args.scans.now.design.now in
    let writers = c.args.writers.now in
    let own = c.in_ok-own.own.masks in
    let rows = c.listed-listed.result.now.rows.items in
    c.wake_some.ensures
    ∙ ap (λ (signals : List Signal). list_any (row_wakes signals writers own) c.deref-3.result.now) c.deref-2.ensures.value
    ∙ ap (λ (rows : List Row). list_any (row_wakes d.signals writers own) rows) c.deref-3.ensures.value
    ∙ can_wake_is d c.args.p.0 t at writers own c.requires.writers
    (λ s k. c.in_ok-own.ensures s k ∙ ap (λ (rows : List Row). has_rows rows s k) c.deref.ensures.value ∙ c.written.ensures.bits t at s k)
    rows (c.listed-listed.ensures.bits t at)
