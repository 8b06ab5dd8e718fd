-- What is wrong with an item that places instances, and which modules it places (IEEE 1364-2001 section 12.1).
-- Worked examples: crates/elab_walk/proofs/Examples.antt.
use Rattle.std.specs.Prelude.{ℕ, nat_lt, if◌then◌else◌, List, [], ◌∷◌, ◌++◌, length, Option, None, Some}
use Rattle.std.specs.List.{list_any}
use Rattle.std.specs.Str.{bytes_eq}
use Rattle.rtl_tree.specs.TreeExpr.{Identifier}
use Rattle.rtl_tree.specs.TreeItem.{ModuleItem, Ports, Nets, Variables, Integers, Parameters, Drives, Gates, Always, Instances, Association, Instantiation}
use Rattle.rtl_tree.specs.TreeModule.{Circuit}
use Rattle.elab_items.specs.elab_scope.Faults.{InstanceLoop, ModuleTwice, NoSuchModule, Refusal, TooLarge}
use Rattle.elab_items.specs.elab_scope.Names.{Meanings}
use Rattle.elab_items.specs.elab_scope.Rules.{fault}
use Rattle.elab_items.specs.Declarations.{declarations}
use Rattle.elab_links.specs.declared.module_set.Lookup.{Lookup}
use Rattle.elab_links.specs.declared.module_set.Lookup.TheVariants.{Missing, Found, Twice}
use Rattle.elab_links.specs.Connections.{instantiations_faults}
use Rattle.elab_links.specs.Modules.{Lookups, circuit_at}
use Rattle.elab_links.specs.Parameters.{parameter_faults, settable}
use Rattle.elab_links.specs.Ports.{sockets_of}

-- a module doesn't hold itself; `way` names the modules from the top to the one that holds the instance
abbrev pub loop_faults : List (List ℕ) → Identifier → List Refusal
loop_faults way child =
    if list_any (bytes_eq child.text) way then fault child.at (InstanceLoop child.text) ∷ [] else []

-- modules are at most 32 deep, where the top is 1 deep
abbrev pub depth_faults : List (List ℕ) → Identifier → List Refusal
depth_faults way child = if nat_lt (length way) 32 then [] else fault child.at TooLarge ∷ []

-- the faults of instances of a module
abbrev pub child_faults : List (List ℕ) → Meanings → Identifier → Circuit → Association → List Instantiation → List Refusal
child_faults way scope child circuit parameters instantiations =
    loop_faults way child
    ++ depth_faults way child
    ++ parameter_faults child.text (settable (declarations circuit)) scope parameters
    ++ instantiations_faults child.text (sockets_of circuit) scope instantiations

abbrev pub known_child_faults : List (List ℕ) → Meanings → Identifier → Option Circuit → Association → List Instantiation → List Refusal
known_child_faults way scope child None parameters instantiations = []
known_child_faults way scope child (Some circuit) parameters instantiations =
    child_faults way scope child circuit parameters instantiations

-- the faults of instances, by what the name of their module means among the modules of files
abbrev pub found_faults : List (List Circuit) → List (List ℕ) → Meanings → Identifier → Lookup → Association → List Instantiation → List Refusal
found_faults files way scope child Missing parameters instantiations =
    fault child.at (NoSuchModule child.text) ∷ []
found_faults files way scope child Twice parameters instantiations =
    fault child.at (ModuleTwice child.text) ∷ []
found_faults files way scope child (Found place) parameters instantiations =
    known_child_faults way scope child (circuit_at files place) parameters instantiations

-- the faults of an item that places instances: of the module's name, the parameters that are set, and the connections
-- of each instance
abbrev pub link_faults : Lookups → List (List Circuit) → List (List ℕ) → Meanings → ModuleItem → List Refusal
link_faults lookups files way scope (Instances child parameters instantiations) =
    found_faults files way scope child (lookups child.text) parameters instantiations
link_faults lookups files way scope (Ports head names) = []
link_faults lookups files way scope (Nets at signed bounds nets) = []
link_faults lookups files way scope (Variables at signed bounds variables) = []
link_faults lookups files way scope (Integers at names) = []
link_faults lookups files way scope (Parameters at kind bounds values) = []
link_faults lookups files way scope (Drives at pause drives) = []
link_faults lookups files way scope (Gates at names pause drives) = []
link_faults lookups files way scope (Always at sensitivity body) = []
