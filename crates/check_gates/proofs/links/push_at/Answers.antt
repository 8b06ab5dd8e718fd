use Rattle.std.proofs.Common.{◌∙◌, ◌∷◌, [], ◌++◌, ap, sym}
use Rattle.check_gates.proofs.Linked.{put_into}
use Rattle.check_gates.proofs.Reached.{row_read}
use Rattle.check_gates.proofs.links.push_at.Goals as goal

pub returns : goal.returns
returns c =
    let rows = c.args.rows.now.items in
    put_into rows c.args.place c.args.value c.push.new.self c.requires
    (c.in_ok-push.ensures.items ∙ ap (λ v. v.items ++ c.args.value ∷ []) c.index_mut.ensures.value ∙ ap (λ l. l ++ c.args.value ∷ []) (sym (row_read rows c.args.place _ c.requires)))
