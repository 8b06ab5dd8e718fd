use Rattle.std.proofs.Common.{◌≡◌, length, arith}
use Rattle.std.proofs.lemmas.List.{length-map}
use Rattle.desk_memo.specs.Shown.{all_used, lists_in}
use Rattle.desk_memo.specs.declared.used.Used.{Used}
use Rattle.desk_memo.proofs.Told.{unlike}
use Rattle.desk_memo.proofs.current.are_told.Goals as goal

pub returns-then-used-elsewhere : goal.returns-then-used-elsewhere
returns-then-used-elsewhere c =
    unlike c.args.files.now c.args.conditions.now (all_used c.args.used.now) (lists_in c.args.elsewhere.now)
    (λ (same : length (all_used c.args.used.now) ≡ length (lists_in c.args.elsewhere.now)).
    omega (arith, same, c.if-used-elsewhere.true, length-map c.args.used.now (λ (used : Used). used.file.value), length-map c.args.elsewhere.now (λ list. list.items)))
