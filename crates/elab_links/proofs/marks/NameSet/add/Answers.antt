use Rattle.std.specs.Prelude.{ℕ, List, Bool, true}
use Rattle.std.specs.Option.{is_some}
use Rattle.std.proofs.Common.{◌∙◌, ap}
use Rattle.name_map.specs.Values.{Values, values_of}
use Rattle.name_map.proofs.Reading.{read_with}
use Rattle.elab_links.proofs.marks.NameSet.add.Goals as goal

pub returns : goal.returns
returns c =
    ap (λ (values : Values Bool). (λ (other : List ℕ). is_some (values other))) c.in_ok-put.ensures.ok
    ∙ read_with is_some (values_of c.args.self.now.names) c.args.name.now true
