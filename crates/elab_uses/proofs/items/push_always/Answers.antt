use Rattle.std.proofs.Common.{◌≡◌, List, OnOk, subst}
use Rattle.rtl_flat.specs.declared.note.Note.{Note}
use Rattle.rtl_tree.specs.TreeItem.{sensitivity}
use Rattle.rtl_tree.specs.TreeStmt.{action}
use Rattle.elab_standard.specs.Scopes.{scopes}
use Rattle.elab_uses.specs.Bodies.{body_uses}
use Rattle.elab_uses.specs.Items.{sensitivity_uses}
use Rattle.elab_uses.proofs.Rows.{then_noted}
use Rattle.elab_uses.proofs.items.push_always.Goals as goal

pub returns-clause-made : goal.returns-clause-made
returns-clause-made c =
    let s = scopes c.args.scopes.now in
    let P : List Note → Type 0 = λ zs. OnOk c.push_body.result (c.push_body.new.made.items ≡ zs) in
    subst P
    (then_noted c.args.home c.args.made.now.items c.push_control.new.made.items (sensitivity_uses s (sensitivity c.args.control.now)) (body_uses (action c.args.body.now) s) c.in_ok-push_control.ensures)
    c.push_body.ensures.made
