use Rattle.std.specs.Prelude.{ℕ, List}
use Rattle.std.proofs.Common.{ap}
use Rattle.name_map.specs.Values.{Values}
use Rattle.elab_links.specs.declared.module_set.Lookup.{Lookup}
use Rattle.elab_links.specs.Modules.{lookup_or_missing}
use Rattle.elab_links.proofs.module_set.ModuleSet.empty.Goals as goal

pub returns : goal.returns
returns c = ap (λ (values : Values Lookup). (λ (other : List ℕ). lookup_or_missing (values other))) c.new.ensures
