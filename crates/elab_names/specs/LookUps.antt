-- The names that elaboration of a top looks up, and the files that it uses (IEEE 1364-2001 section 12.1).
-- Worked examples: proofs/Example.antt, crates/tests_layers/stdin.
use Rattle.std.specs.Prelude.{ℕ, ◌≡◌, ◌↔◌, List, [], ◌∷◌, ◌++◌, map}
use Rattle.std.specs.List.{All, Contains, flat_map}
use Rattle.std.specs.List.Sorted.{IsStrictlyIncreasing}
use Rattle.rtl_tree.specs.TreeItem.{ModuleItem, Ports, Nets, Variables, Integers, Parameters, Drives, Gates, Always, Instances}
use Rattle.rtl_elab.specs.elab_links.declared.module_set.Lookup.TheVariants.{Found}
use Rattle.rtl_elab.specs.elab_walk.Visits.{Library, Visit}
use Rattle.rtl_elab.specs.Elaborated.{visited}
use Rattle.elab_lookups.specs.declared.look_up.LookUp.{LookUp}

-- the name of the module whose instances an item places
abbrev pub name_in_item : ModuleItem → List (List ℕ)
name_in_item (Instances child parameters instantiations) = child.text ∷ []
name_in_item (Ports head names) = []
name_in_item (Nets at signed bounds nets) = []
name_in_item (Variables at signed bounds variables) = []
name_in_item (Integers at names) = []
name_in_item (Parameters at kind bounds values) = []
name_in_item (Drives at pause drives) = []
name_in_item (Gates at names pause drives) = []
name_in_item (Always at sensitivity body) = []

abbrev pub names_in : List ModuleItem → List (List ℕ)
names_in [] = []
names_in (first ∷ others) = name_in_item first ++ names_in others

-- the names that the modules of instances place
abbrev pub names_by : List Visit → List (List ℕ)
names_by visits = flat_map (λ (v : Visit). names_in v.circuit.items) visits

-- the names that a top looks up: its own, and all that the modules of the instances to which elaboration comes place,
-- whether a module has the name or not
abbrev pub looked_up : Library → List ℕ → List (List ℕ)
looked_up library top = top ∷ names_by (visited library top)

-- a file that a top uses: a name that the top looks up means a module in it
pub record IsUsed (library : Library) (top : List ℕ) (file : ℕ) : Type 0 where
  pub name : List ℕ
  pub index : ℕ
  pub asked : Contains (looked_up library top) name
  pub means : library.lookups name ≡ Found (record { file = file; index = index })

-- the numbers of all such files, each once and ascending
pub record AreUsed (library : Library) (top : List ℕ) (numbers : List ℕ) : Type 0 where
  pub ascending : IsStrictlyIncreasing numbers
  pub each : (file : ℕ) → Contains numbers file ↔ IsUsed library top file

-- what was looked up: each name with what it means
pub record AreLookUps (library : Library) (top : List ℕ) (found : List LookUp) : Type 0 where
  pub names :
      (name : List ℕ) →
      Contains (map (λ (found : LookUp). found.name) found) name ↔ Contains (looked_up library top) name
  pub meant : All (λ (found : LookUp). library.lookups found.name ≡ found.meant) found
