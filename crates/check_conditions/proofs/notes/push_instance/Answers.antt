use Rattle.std.proofs.Common.{◌++◌, ◌∙◌, sym, ap, append-nil}
use Rattle.std.proofs.lemmas.Option.{slice_get_past}
use Rattle.check_conditions.specs.ToolNotes.{asked_notes}
use Rattle.check_conditions.proofs.Noting.{no_file}
use Rattle.check_conditions.proofs.notes.push_instance.Goals as goal

pub returns-in-None : goal.returns-in-None
returns-in-None c =
    sym (append-nil c.args.notes.now.items)
    ∙ ap (λ file. c.args.notes.now.items ++ asked_notes file c.args.number c.args.instance.now) (sym (no_file c.args.files.now c.args.instance.now.file (slice_get_past c.args.files.now c.args.instance.now.file c.in-None.ensures.lookup.3)))
