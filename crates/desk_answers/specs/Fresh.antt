-- What files say of a top module, worked out from their texts alone, by what is said of a design.
-- Worked examples: proofs/FreshExample.antt, crates/tests_serving/stdin.
use Rattle.std.specs.Prelude.{◌≡◌, ℕ, List, map, slice_get, Result, Ok, Err}
use Rattle.std.specs.List.{filter_map}
use Rattle.rtl_tree.specs.TreeModule.{Circuit}
use Rattle.desk_memo.specs.rtl_prep.Conditions.{FileConditions}
use Rattle.desk_memo.specs.check_conditions.Foreign.{foreign_in}
use Rattle.desk_memo.specs.check_conditions.ToolNotes.{tool_noted}
use Rattle.desk_refusals.specs.elab_scope.Faults.{Answer as Fault}
use Rattle.rtl_flat.specs.Flats.{DesignParts}
use Rattle.elab_names.specs.Extracts.{extract}
use Rattle.elab_names.specs.LookUps.{AreUsed}
use Rattle.elab_names.specs.rtl_elab.Designs.{library_of}
use Rattle.elab_names.specs.rtl_elab.Elaborated.{elaborated}
use Rattle.desk_refusals.specs.Refusals.{design_line, source_line}
use Rattle.desk_build.specs.Building.{Front, Modules, Faulty, IsFront}
use Rattle.source_file.specs.declared.SourceFile.{SourceFile}
use Rattle.desk_memo.specs.Texts.{IsRefusal}
use Rattle.source_file.specs.SourceFiles.{texts_in}
use Rattle.desk_memo.specs.declared.answer.Answer.{Answer}
use Rattle.desk_memo.specs.declared.answer.Answer.TheVariants.{Ruled, Refused}

abbrev pub names_of : List SourceFile → List (List ℕ)
names_of files = map (λ file. file.name) files

-- the files with these numbers, in their order
abbrev pub sources_at : List ℕ → List SourceFile → List SourceFile
sources_at numbers files = filter_map (slice_get files) numbers

-- what is made of a top in the files with these numbers, numbered among themselves: its design, with a note of each condition on
-- which its modules hang that asks for a name of a tool, or of any other file
abbrev pub designed : List (List Circuit) → List FileConditions → List ℕ → List ℕ → Result DesignParts Fault
designed circuits conditions numbers top =
    tool_noted (map (foreign_in conditions) numbers)
    (elaborated (extract numbers (library_of circuits)) top)

-- what is said of a design, with the names of the files that its top uses, or the line that says why there is none
abbrev pub IsOfDesign : {V : Type 0} → (DesignParts → V → Type 0) → List SourceFile → Result DesignParts Fault → Answer V → Type 0
IsOfDesign says used (Ok flat) (Ruled said reached) =
    says flat said × (reached.items ≡ names_of used)
IsOfDesign says used (Ok flat) (Refused bytes) = ⊥
IsOfDesign says used (Err fault) answer = IsRefusal (design_line used fault) answer

-- what the modules of files, and what their conditions ask, say of a top: its design is that of the files that it uses
pub record IsOfModules {V : Type 0} (says : DesignParts → V → Type 0) (files : List SourceFile) (circuits : List (List Circuit)) (conditions : List FileConditions) (top : List ℕ) (answer : Answer V) : Type 0 where
  pub numbers : List ℕ
  pub are_used : AreUsed (library_of circuits) top numbers
  pub is : IsOfDesign says (sources_at numbers files) (designed circuits conditions numbers top) answer

abbrev pub IsOfFront : {V : Type 0} → (DesignParts → V → Type 0) → List SourceFile → List ℕ → Front → Answer V → Type 0
IsOfFront says files top (Modules circuits conditions) answer =
    IsOfModules says files circuits conditions top answer
IsOfFront says files top (Faulty number fault) answer =
    IsRefusal (source_line files number fault) answer

-- the answer is what the texts say of the top: the first file that spells no modules, else why the
-- top has no design, else what is said of its design
pub record IsFresh {V : Type 0} (says : DesignParts → V → Type 0) (files : List SourceFile) (top : List ℕ) (answer : Answer V) : Type 0 where
  pub front : Front
  pub is_front : IsFront (texts_in files) front
  pub is : IsOfFront says files top front answer
