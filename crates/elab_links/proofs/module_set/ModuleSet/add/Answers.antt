use Rattle.std.specs.Prelude.{ℕ, List}
use Rattle.std.proofs.Common.{◌∙◌, ap}
use Rattle.name_map.specs.Values.{Values, values_of}
use Rattle.name_map.proofs.Reading.{read_with}
use Rattle.elab_links.specs.declared.module_set.Lookup.{Lookup}
use Rattle.elab_links.specs.Modules.{lookup_or_missing, lookups_of, with_another, with_lookup}
use Rattle.elab_links.proofs.module_set.ModuleSet.add.Goals as goal

pub returns : goal.returns
returns c =
    ap (λ (values : Values Lookup). (λ (other : List ℕ). lookup_or_missing (values other))) c.in_ok-put.ensures.ok
    ∙ read_with lookup_or_missing (values_of c.args.self.now.known) c.args.name.now c.with_another-lookup.result
    ∙ ap (with_lookup (lookups_of c.args.self.now) c.args.name.now) (c.with_another-lookup.ensures ∙ ap (with_another c.args.place) c.find.ensures)
