use Rattle.std.proofs.Common.{◌≡◌, ◌∙◌, ◌++◌, ◌∷◌, [], List, OnOk, ap, subst}
use Rattle.rtl_flat.specs.declared.note.Note.{Note}
use Rattle.rtl_tree.specs.TreeExpr.{formula}
use Rattle.rtl_tree.specs.TreeStmt.{target}
use Rattle.elab_body.specs.elab_scope.Targets.{target_breadth}
use Rattle.elab_body.specs.elab_scope.Widths.{bits}
use Rattle.elab_standard.specs.Scopes.{scopes}
use Rattle.elab_standard.specs.Uses.{Value}
use Rattle.elab_uses.specs.Bodies.{notes_in, target_uses}
use Rattle.elab_uses.proofs.Rows.{then_noted}
use Rattle.elab_uses.proofs.targets.push_assignment.Goals as goal

pub returns : goal.returns
returns c =
    let s = scopes c.args.scopes.now in
    let written = target c.args.written.now in
    let value = formula c.args.value.now in
    let middle = c.push_target.new.made.items in
    let P : List Note → Type 0 = λ zs. OnOk c.push_value.result (c.push_value.new.made.items ≡ zs) in
    subst P
    (ap (λ n. middle ++ notes_in c.args.home ((s, Value value n) ∷ [])) c.target_width-wanted.ensures
    ∙ then_noted c.args.home c.args.made.now.items middle (target_uses s written) ((s, Value value (bits (target_breadth s.scope written))) ∷ []) c.in_ok-push_target.ensures)
    c.push_value.ensures
