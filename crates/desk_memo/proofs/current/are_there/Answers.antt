use Rattle.std.proofs.Common.{◌∙◌, sym}
use Rattle.std.proofs.lemmas.List.Folds.{list_all-map}
use Rattle.desk_memo.specs.Rulings.{is_there}
use Rattle.desk_memo.specs.declared.used.Used.{Used}
use Rattle.desk_memo.proofs.current.are_there.Goals as goal

pub returns : goal.returns
returns c =
    c.all_there.ensures
    ∙ sym (list_all-map (is_there c.args.files.now) (λ (used : Used). used.file.value) c.args.used.now)
