use Rattle.std.proofs.Common.{◌++◌, ◌∙◌, map, sym, ap, append-nil}
use Rattle.rtl_flat.specs.Flats.{flat_in}
use Rattle.check_conditions.specs.Foreign.{foreign_in}
use Rattle.check_conditions.specs.Kept.{shown}
use Rattle.check_conditions.specs.ToolNotes.{tool_notes}
use Rattle.check_conditions.proofs.Noting.{bare_notes, quiet_notes, with_notes}
use Rattle.check_conditions.proofs.notes.add_tool_notes.Goals as goal

pub returns-then-are_quiet-clause-ok : goal.returns-then-are_quiet-clause-ok
returns-then-are_quiet-clause-ok c =
    let design = c.args.design.now in
    let of = foreign_in c.args.all.now in
    with_notes (flat_in design) (map of c.args.numbers.now) c.args.design.now.notes.items
    (sym (append-nil c.args.design.now.notes.items)
    ∙ ap (λ more. c.args.design.now.notes.items ++ more) (sym (quiet_notes c.args.all.now c.args.numbers.now (sym c.are_quiet.ensures ∙ c.if-are_quiet.true) 0 c.args.design.now.instances.items)))

pub returns-clause-ok : goal.returns-clause-ok
returns-clause-ok c =
    let design = c.args.design.now in
    let of = foreign_in c.args.all.now in
    with_notes (flat_in design) (map of c.args.numbers.now) c.extend_from_slice.new.self.items
    (c.in_ok-extend_from_slice.ensures.items ∙ ap (λ notes. c.args.design.now.notes.items ++ notes)
    (c.deref-3.ensures.value
    ∙ c.in_ok-notes.ensures
    ∙ ap (λ files. tool_notes (map shown files) c.deref-2.result.now) c.deref.ensures.value
    ∙ ap (λ instances. tool_notes (map shown c.in_ok-files.files.items) instances) c.deref-2.ensures.value
    ∙ ap (λ files. tool_notes files c.args.design.now.instances.items) c.in_ok-files.ensures
    ∙ bare_notes of c.args.numbers.now 0 c.args.design.now.instances.items))
