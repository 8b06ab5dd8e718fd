use Rattle.std.proofs.Common.{◌∙◌, ◌<◌, [], ◌∷◌, ◌++◌, length, ap, arith}
use Rattle.rtl_scan.proofs.Tables.{bucket_get, put_grows}
use Rattle.rtl_scan.proofs.arrows.push_at.Goals as goal

pub returns : goal.returns
returns c =
    let grown = c.grow.new.table.items in
    let size = c.in_ok-grow.ensures.0 in
    let inside : c.args.place < length grown = omega arith in
    put_grows c.args.table.now.items grown c.args.place c.args.writer c.push.new.self inside c.in_ok-grow.ensures.1
    (c.in_ok-push.ensures.items ∙ ap (λ v. v.items ++ c.args.writer ∷ []) c.index_mut.ensures.value ∙ ap (λ xs. xs ++ c.args.writer ∷ []) (bucket_get grown c.args.place _ inside))
