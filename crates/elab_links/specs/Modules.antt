-- The modules of all files, and which of them a name means.
-- Worked examples: crates/rtl_elab/proofs/Examples.antt.
use Rattle.std.specs.Prelude.{ℕ, ◌+◌, if◌then◌else◌, List, [], ◌∷◌, ◌++◌, map, Option, None, Some, Vec}
use Rattle.std.specs.declared.alloc.Global.{Global}
use Rattle.std.specs.List.{slice_get}
use Rattle.std.specs.Str.{bytes_eq}
use Rattle.name_map.specs.Values.{values_of}
use Rattle.rtl_tree.specs.TreeModule.{Circuit, circuit}
use Rattle.rtl_tree.specs.declared.tree.modules.Module.{Module}
use Rattle.elab_links.specs.declared.module_set.Lookup.{Lookup}
use Rattle.elab_links.specs.declared.module_set.Lookup.TheVariants.{Missing, Found, Twice}
use Rattle.elab_links.specs.declared.module_set.ModuleSet.{ModuleSet}
use Rattle.elab_links.specs.declared.module_set.Place.{Place}

-- the modules of files, as vectors of the code hold them
abbrev pub circuits_of : List (Vec Module Global) → List (List Circuit)
circuits_of files = map (λ file. map circuit file.items) files

-- a module's name and its place
pub record Placed : Type 0 where
  pub place : Place
  pub name : List ℕ

-- the modules of a file with this number, counted from an index on
abbrev pub placed_in : ℕ → ℕ → List Circuit → List Placed
placed_in file index [] = []
placed_in file index (first ∷ others) =
    record { place = record { file = file; index = index }; name = first.name.text }
    ∷ placed_in file (index + 1) others

-- the modules of files, counted from a number on
abbrev pub placed_from : ℕ → List (List Circuit) → List Placed
placed_from file [] = []
placed_from file (first ∷ others) = placed_in file 0 first ++ placed_from (file + 1) others

-- all modules, in the order of the files
abbrev pub all_placed : List (List Circuit) → List Placed
all_placed files = placed_from 0 files

-- what a name means where one module more has it
abbrev pub with_another : Place → Lookup → Lookup
with_another place Missing = Found place
with_another place (Found other) = Twice
with_another place Twice = Twice

-- which module a name means: the only one that has it (IEEE 1364-2001 section 12.1)
abbrev pub found : List Placed → List ℕ → Lookup
found [] name = Missing
found (first ∷ others) name =
    if bytes_eq first.name name then with_another first.place (found others name) else found others name

-- which module each name means
abbrev pub Lookups : Type 0
Lookups = List ℕ → Lookup

abbrev pub no_lookups : Lookups
no_lookups name = Missing

abbrev pub with_lookup : Lookups → List ℕ → Lookup → Lookups
with_lookup lookups name lookup = λ other. if bytes_eq name other then lookup else lookups other

-- the lookups where one module more is there
abbrev pub with_one : Lookups → Placed → Lookups
with_one lookups one = with_lookup lookups one.name (with_another one.place (lookups one.name))

-- further modules
abbrev pub with_all : Lookups → List Placed → Lookups
with_all lookups [] = lookups
with_all lookups (first ∷ others) = with_all (with_one lookups first) others

abbrev pub lookup_or_missing : Option Lookup → Lookup
lookup_or_missing None = Missing
lookup_or_missing (Some lookup) = lookup

-- what a set of modules answers
abbrev pub lookups_of : ModuleSet → Lookups
lookups_of set = λ name. lookup_or_missing (values_of set.known name)

abbrev pub listed_at : Option (List Circuit) → ℕ → Option Circuit
listed_at None index = None
listed_at (Some circuits) index = slice_get circuits index

-- the module at a place
abbrev pub circuit_at : List (List Circuit) → Place → Option Circuit
circuit_at files place = listed_at (slice_get files place.file) place.index
