use Rattle.std.proofs.Common.{◌∙◌, ap, sym, ◌++◌, List}
use Rattle.std.proofs.lemmas.Result.{on_ok_weaker}
use Rattle.rtl_flat.specs.Process.{Task, task}
use Rattle.rtl_flat.specs.Flats.{flat}
use Rattle.check_found.specs.rtl_scan.declared.bits.Row.{Row}
use Rattle.check_found.specs.rtl_scan.Sets.{has_rows}
use Rattle.check_sense.specs.Telling.{has_items, lacking_in}
use Rattle.check_sense.proofs.Findings.{task_is}
use Rattle.check_sense.proofs.Left.{gets_missing, gets_no_missing}
use Rattle.check_sense.proofs.missing.push_missing.Goals as goal

pub returns-then-not-has_items : goal.returns-then-not-has_items
returns-then-not-has_items c = λ t at.
    let same = task_is c.args.scans.now.design.now c.args.p.0 c.index-process.result.now c.requires.there c.index-process.ensures t at in
    gets_no_missing (flat c.args.scans.now.design.now) c.args.p.0 t (sym (ap (λ (t : Task). has_items t.does) same) ∙ sym c.has_items.ensures ∙ c.if-not-has_items.true) c.args.found.now.items

pub returns : goal.returns
returns c =
    on_ok_weaker c.push_lacking.result
    (λ added t at.
    let old = c.args.found.now.items in
    let process = c.index-process.result.now in
    let read = c.read_outside-read.result.now.rows.items in
    let masks = c.in_ok-masks.masks.masks in
    let same = task_is c.args.scans.now.design.now c.args.p.0 process c.requires.there c.index-process.ensures t at in
    gets_missing (flat c.args.scans.now.design.now) c.args.p.0 t read masks (sym (ap (λ (t : Task). has_items t.does) same) ∙ sym c.has_items.ensures ∙ c.if-not-has_items.false)
    c.read_outside-read.ensures.order (c.read_outside-read.ensures.bits t at) (λ s k. c.in_ok-masks.ensures s k ∙ ap (λ (rows : List Row). has_rows rows s k) c.deref.ensures.value ∙ c.listed.ensures.bits t at s k) old c.push_lacking.new.found.items
    (added ∙ ap (λ (rows : List Row). old ++ lacking_in (task process) masks rows) c.deref-2.ensures.value ∙ ap (λ (t : Task). old ++ lacking_in t masks read) same))
    c.push_lacking.ensures
