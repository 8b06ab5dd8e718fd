use Rattle.std.proofs.Common.{◌∙◌, ◌==◌, ◌&&◌, ◌||◌, ◌∷◌, [], ◌++◌, ap}
use Rattle.vcd_signals.specs.Recording.{has}
use Rattle.vcd_signals.proofs.Tables.{row_get, row_set}
use Rattle.vcd_signals.proofs.recorder.follow.Goals as goal

pub returns : goal.returns
returns c = λ other i.
    let grown = c.grow.new.table.items in
    let place = c.args.code in
    row_set grown place c.push.new.self c.args.signal c.in_ok-grow.ensures.long
    (c.in_ok-push.ensures.items ∙ ap (λ v. v.items ++ c.args.signal ∷ []) c.index_mut.ensures.value ∙ ap (λ xs. xs ++ c.args.signal ∷ []) (row_get grown place _ c.in_ok-grow.ensures.long))
    other i
    ∙ ap (λ l. has l i || ((other == place) && (c.args.signal.0 == i))) (c.in_ok-grow.ensures.rows other)
