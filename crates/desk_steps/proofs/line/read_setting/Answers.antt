use Rattle.std.proofs.Common.{◌≡◌, ◌∙◌, ap, subst, Option, IfOk}
use Rattle.std.specs.Option.{option_map}
use Rattle.desk_steps.specs.Names.{names_of}
use Rattle.desk_steps.specs.Steps.{Setting, cut_setting, set_signal, setting}
use Rattle.desk_steps.proofs.line.read_setting.Goals as goal

pub returns-in-Some-find : goal.returns-in-Some-find
returns-in-Some-find c = λ earlier marked.
    subst
    (λ (made_is : Option Setting). IfOk c.set_input.result (λ made. option_map setting made ≡ made_is))
    (ap (set_signal earlier c.in-Some.value.now) c.in-Some-find.ensures
    ∙ ap (cut_setting (names_of c.args.names.now) earlier) c.in-Some.ensures)
    (c.set_input.ensures earlier marked)
