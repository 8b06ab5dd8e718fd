use Rattle.std.proofs.Common.{◌≡◌, ◌∙◌, ◌++◌, ◌∷◌, [], List, OnOk, ap, map, subst}
use Rattle.rtl_flat.specs.declared.note.Note.{Note}
use Rattle.rtl_tree.specs.TreeExpr.{formula}
use Rattle.rtl_tree.specs.TreeStmt.{target}
use Rattle.elab_standard.specs.Scopes.{scopes}
use Rattle.elab_standard.specs.Uses.{Value}
use Rattle.elab_uses.specs.Bodies.{notes_in}
use Rattle.elab_uses.specs.Items.{output_uses}
use Rattle.elab_uses.proofs.Rows.{then_noted}
use Rattle.elab_uses.proofs.items.push_gate.Goals as goal

pub returns : goal.returns
returns c =
    let s = scopes c.args.scopes.now in
    let drive = c.args.drive.now in
    let before = c.args.made.now.items in
    let middle = c.push_outputs.new.made.items in
    let P : List Note → Type 0 = λ zs. OnOk c.push_value.result (c.push_value.new.made.items ≡ zs) in
    let outputs : middle ≡ before ++ notes_in c.args.home (output_uses s (map target drive.outputs.items)) =
    c.in_ok-push_outputs.ensures
    ∙ ap (λ all. before ++ notes_in c.args.home (output_uses s (map target all))) c.deref.ensures.value in
    subst P
    (then_noted c.args.home before middle (output_uses s (map target drive.outputs.items)) ((s, Value (formula drive.value) 1) ∷ []) outputs)
    c.push_value.ensures
