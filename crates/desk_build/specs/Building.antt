-- What the texts of files make of a top module.
-- Worked examples: examples/stored/undeclared.out.
use Rattle.std.specs.Prelude.{◌≡◌, ℕ, List, map, length, Result, Ok, Err}
use Rattle.std.specs.List.{range_with_len}
use Rattle.rtl_tree.specs.TreeModule.{Circuit}
use Rattle.rtl_prep.specs.Conditions.{FileConditions}
use Rattle.rtl_front.specs.declared.fault.FileFault.{FileFault}
use Rattle.rtl_front.specs.declared.fault.SourceFault.TheVariants as source
use Rattle.rtl_front.specs.Fronts.{AreAsked, AreSpelled, IsFirstFaulty}
use Rattle.desk_refusals.specs.elab_scope.Faults.{Answer}
use Rattle.rtl_flat.specs.Flats.{DesignParts, flat_in}
use Rattle.rtl_elab.specs.Designs.{library_of}
use Rattle.rtl_elab.specs.Elaborated.{elaborated}
use Rattle.check_conditions.specs.Foreign.{foreign_in}
use Rattle.check_conditions.specs.ToolNotes.{tool_noted}
use Rattle.source_file.specs.declared.SourceFile.{SourceFile}
use Rattle.desk_refusals.specs.Refusals.{design_line, source_line}
use Rattle.desk_build.specs.declared.front.Built.{Built as Made}
use Rattle.desk_build.specs.declared.front.Built.TheVariants as made

-- the modules that texts spell and what their conditions ask, file by file; or the first file that spells none, and why
pub data Front : Type 0 where
  Modules : (circuits : List (List Circuit)) (conditions : List FileConditions) → Front
  Faulty : (file : ℕ) (fault : FileFault) → Front

abbrev pub IsFront : List (List ℕ) → Front → Type 0
IsFront texts (Modules circuits conditions) = AreSpelled texts circuits × AreAsked texts conditions
IsFront texts (Faulty file fault) = IsFirstFaulty texts (source.Refused file fault)

-- all files, each with its asks for names that tools define or other files
abbrev pub all_foreign : List FileConditions → List FileConditions
all_foreign conditions = map (foreign_in conditions) (range_with_len 0 (length conditions))

-- the design of a top, or the line that says why there is none
pub data Built : Type 0 where
  Designed : (design : DesignParts) → Built
  Refused : (line : List ℕ) → Built

abbrev pub elaborated_or_not : List SourceFile → Result DesignParts Answer → Built
elaborated_or_not sources (Ok design) = Designed design
elaborated_or_not sources (Err answer) = Refused (design_line sources answer)

abbrev pub built_of : List ℕ → List SourceFile → Front → Built
built_of top sources (Modules circuits conditions) =
    elaborated_or_not sources (tool_noted (all_foreign conditions) (elaborated (library_of circuits) top))
built_of top sources (Faulty file fault) = Refused (source_line sources file fault)

-- what texts make of a top
pub record IsBuilt (top : List ℕ) (sources : List SourceFile) (texts : List (List ℕ)) (built : Built) : Type 0 where
  pub front : Front
  pub is_front : IsFront texts front
  pub is : built ≡ built_of top sources front

-- what the code makes
abbrev pub built : Made → Built
built (made.Designed design) = Designed (flat_in design)
built (made.Refused line) = Refused line.items
