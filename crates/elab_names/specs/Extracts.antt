-- The files that a top uses, numbered among themselves: what is made of a top depends on no other file's number.
-- Worked examples: proofs/Example.antt, crates/tests_layers/stdin.
use Rattle.std.specs.Prelude.{ℕ, ◌≡◌, ◌+◌, ◌==◌, if◌then◌else◌, List, [], ◌∷◌, length, map, slice_index_or, Result, Ok, Err}
use Rattle.std.specs.List.{Contains}
use Rattle.std.specs.List.Sorted.{IsStrictlyIncreasing}
use Rattle.rtl_tree.specs.TreeModule.{Circuit}
use Rattle.rtl_flat.specs.declared.design.Design.{Design}
use Rattle.rtl_elab.specs.elab_scope.declared.fault.ElabFault.{ElabFault}
use Rattle.rtl_elab.specs.elab_scope.Faults.{Answer, answer}
use Rattle.rtl_elab.specs.elab_links.declared.module_set.Lookup.{Lookup}
use Rattle.rtl_elab.specs.elab_links.declared.module_set.Lookup.TheVariants.{Missing, Found, Twice}
use Rattle.rtl_elab.specs.elab_walk.Visits.{Library}
use Rattle.rtl_flat.specs.Flats.{DesignParts, flat_in}
use Rattle.elab_names.specs.LookUps.{looked_up}

-- how many numbers come before this one; all of them where it isn't there
abbrev pub place_in : List ℕ → ℕ → ℕ
place_in [] file = 0
place_in (first ∷ others) file = if first == file then 0 else place_in others file + 1

-- what a name means where files have other numbers
abbrev pub renumbered : (ℕ → ℕ) → Lookup → Lookup
renumbered number Missing = Missing
renumbered number (Found place) = Found (record { file = number place.file; index = place.index })
renumbered number Twice = Twice

-- of the files those with these numbers, in their order
abbrev pub files_at : List ℕ → List (List Circuit) → List (List Circuit)
files_at numbers files = map (λ number. slice_index_or files number []) numbers

-- the files with these numbers alone, numbered among themselves; a name means what it means among all files
abbrev pub extract : List ℕ → Library → Library
extract numbers library =
    record {
      lookups = λ name. renumbered (place_in numbers) (library.lookups name);
      files = files_at numbers library.files;
    }

-- what elaboration makes, and what the code has of it
abbrev pub IsElaborated : Result DesignParts Answer → Result Design ElabFault → Type 0
IsElaborated made (Ok design) = made ≡ Ok (flat_in design)
IsElaborated made (Err fault) = made ≡ Err (answer fault)

-- the number among all files of the file with a number among those that are used
abbrev pub number_at : List ℕ → ℕ → ℕ
number_at numbers place = slice_index_or numbers place 0

-- what a top used of the first library, in the files with these numbers, is there in the second, in files with other
-- numbers but in the same order: the same modules, and each name that was looked up means the same
pub record IsStill (first second : Library) (top : List ℕ) (numbers others : List ℕ) : Type 0 where
  pub ascending : IsStrictlyIncreasing others
  pub count : length others ≡ length numbers
  pub files : files_at others second.files ≡ files_at numbers first.files
  pub meant :
      (name : List ℕ) → Contains (looked_up (extract numbers first) top) name →
      second.lookups name ≡ renumbered (number_at others) ((extract numbers first).lookups name)
