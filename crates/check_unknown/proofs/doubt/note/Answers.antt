use Rattle.std.proofs.Common.{◌∙◌, ◌<◌, [], ◌∷◌, ◌++◌, length, ap, arith}
use Rattle.check_unknown.proofs.Worklist.{bucket_get, notes_one}
use Rattle.check_unknown.proofs.doubt.note.Goals as goal

pub returns : goal.returns
returns c =
    let table = c.args.table.now in
    let i = c.args.signal.0 in
    let p = c.args.p.0 in
    let inside : i < length table.items = omega (arith, c.if-place-len.false, c.len.ensures, table.ok.0) in
    notes_one i p table.items _ inside
    (c.in_ok-push.ensures.items ∙ ap (λ v. v.items ++ p ∷ []) c.index_mut.ensures.value ∙ ap (λ xs. xs ++ p ∷ []) (bucket_get table.items i _ inside))
