use Rattle.std.specs.Prelude.{List, ◌++◌}
use Rattle.std.proofs.Common.{◌≡◌, ◌∙◌, ap, sym}
use Rattle.std.proofs.lemmas.List.{append-nil}
use Rattle.rtl_tree.specs.TreeExpr.{formula}
use Rattle.rtl_flat.specs.declared.note.Note.{Note}
use Rattle.elab_standard.specs.Scopes.{scopes}
use Rattle.elab_standard.proofs.Likeness.{alike_format}
use Rattle.elab_standard.proofs.nested.push_format.Goals as goal

pub returns-then-reads_alike : goal.returns-then-reads_alike
returns-then-reads_alike c =
    let none = alike_format c.args.home (scopes c.args.kept.now) (formula c.args.e.now) c.args.wanted (sym c.reads_alike.ensures ∙ c.if-reads_alike.true) in
    sym (ap (λ (notes : List Note). c.args.made.now.items ++ notes) none ∙ append-nil c.args.made.now.items)
