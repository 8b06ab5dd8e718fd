use Rattle.std.specs.Prelude.{ℕ, List, Bool}
use Rattle.std.specs.Option.{is_some}
use Rattle.std.proofs.Common.{ap}
use Rattle.name_map.specs.Values.{Values}
use Rattle.elab_links.proofs.marks.NameSet.new.Goals as goal

pub returns : goal.returns
returns c = ap (λ (values : Values Bool). (λ (other : List ℕ). is_some (values other))) c.new.ensures
