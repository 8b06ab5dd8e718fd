-- The instances that an item places, with what they set their parameters to.
-- Worked examples: crates/elab_flat/proofs/Examples.antt, crates/tests_layers/stdin.
use Rattle.std.specs.Prelude.{List, Option, None, Some, map}
use Rattle.rtl_tree.specs.TreeItem.{ModuleItem, Ports, Nets, Variables, Integers, Parameters, Drives, Gates, Always, Instances, Association, Instantiation, instantiation}
use Rattle.rtl_tree.specs.TreeModule.{Circuit, circuit}
use Rattle.elab_items.specs.elab_scope.Names.{Meanings}
use Rattle.elab_items.specs.Declarations.{declarations}
use Rattle.elab_items.specs.Settings.{Settings, settings_of}
use Rattle.elab_links.specs.declared.groups.Group.{Group as Kept}
use Rattle.elab_links.specs.declared.module_set.Lookup.{Lookup}
use Rattle.elab_links.specs.declared.module_set.Lookup.TheVariants.{Missing, Found, Twice}
use Rattle.elab_links.specs.declared.module_set.Place.{Place}
use Rattle.elab_links.specs.Modules.{Lookups, circuit_at}
use Rattle.elab_links.specs.Parameters.{settable, settings_by}

-- instances of one module with the same parameters: the place of the module and the module itself, what its parameters
-- are set to, and the instances in order
pub record Group : Type 0 where
  pub place : Place
  pub circuit : Circuit
  pub settings : Settings
  pub instantiations : List Instantiation

abbrev pub group : Kept → Group
group kept =
    record {
      place = kept.place;
      circuit = circuit kept.written.now;
      settings = settings_of kept.overrides;
      instantiations = map instantiation kept.instances.now;
    }

abbrev pub group_at : Meanings → Place → Option Circuit → Association → List Instantiation → Option Group
group_at scope place None parameters instantiations = None
group_at scope place (Some circuit) parameters instantiations =
    Some (record { place = place; circuit = circuit; settings = settings_by (settable (declarations circuit)) scope parameters; instantiations = instantiations })

abbrev pub found_group : List (List Circuit) → Meanings → Lookup → Association → List Instantiation → Option Group
found_group files scope Missing parameters instantiations = None
found_group files scope Twice parameters instantiations = None
found_group files scope (Found place) parameters instantiations =
    group_at scope place (circuit_at files place) parameters instantiations

-- the instances that an item places, where their module is found
abbrev pub group_of : Lookups → List (List Circuit) → Meanings → ModuleItem → Option Group
group_of lookups files scope (Instances child parameters instantiations) =
    found_group files scope (lookups child.text) parameters instantiations
group_of lookups files scope (Ports head names) = None
group_of lookups files scope (Nets at signed bounds nets) = None
group_of lookups files scope (Variables at signed bounds variables) = None
group_of lookups files scope (Integers at names) = None
group_of lookups files scope (Parameters at kind bounds values) = None
group_of lookups files scope (Drives at pause drives) = None
group_of lookups files scope (Gates at names pause drives) = None
group_of lookups files scope (Always at sensitivity body) = None
