use Rattle.std.proofs.Common.{◌∙◌, ◌<◌, [], ◌∷◌, ◌++◌, length, ap, arith}
use Rattle.check_found.proofs.rtl_scan_proofs.Advances.{row_get}
use Rattle.check_loops.proofs.Turning.{put_puts}
use Rattle.check_loops.proofs.turned.put.Goals as goal

pub returns : goal.returns
returns c =
    let table = c.args.table.now.items in
    let inside : c.args.node < length table = omega arith in
    put_puts table c.args.node c.args.from c.push.new.self inside
    (c.in_ok-push.ensures.items ∙ (ap (λ v. v.items ++ c.args.from ∷ []) c.index_mut.ensures.value ∙ ap (λ xs. xs ++ c.args.from ∷ []) (row_get table c.args.node _ inside)))
