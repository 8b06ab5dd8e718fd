use Rattle.std.proofs.Common.{◌∙◌, ap}
use Rattle.std.specs.Prelude.{position}
use Rattle.check_conditions.specs.Foreign.{elsewhere_in}
use Rattle.desk_files.specs.Sources.{is_named}
use Rattle.desk_memo.specs.Rulings.{is_told_at}
use Rattle.desk_memo.proofs.Told.{is_test}
use Rattle.desk_memo.proofs.current.is_told.Goals as goal

pub returns-in-Some : goal.returns-in-Some
returns-in-Some c =
    is_test (elsewhere_in c.args.conditions.now c.in-Some.number) c.args.was.now c.is_still.result c.is_still.ensures
    ∙ ap (λ it. is_told_at c.args.conditions.now it c.args.was.now)
    (c.in-Some.ensures ∙ ap (λ it. position (is_named it) c.args.files.now) c.as_bytes.ensures)

pub returns-in-None : goal.returns-in-None
returns-in-None c =
    ap (λ it. is_told_at c.args.conditions.now it c.args.was.now)
    (c.in-None.ensures ∙ ap (λ it. position (is_named it) c.args.files.now) c.as_bytes.ensures)
