-- What a ruling is that is kept.
-- Worked examples: crates/tests_serving/stdin.
use Rattle.std.specs.Prelude.{ℕ, ◌≡◌, List, map}
use Rattle.rtl_tree.specs.TreeModule.{Circuit}
use Rattle.desk_memo.specs.rtl_prep.Conditions.{FileConditions}
use Rattle.desk_memo.specs.check_conditions.Foreign.{elsewhere_in}
use Rattle.rtl_front.specs.Fronts.{AreAsked, AreRead}
use Rattle.rtl_flat.specs.Flats.{DesignParts}
use Rattle.elab_names.specs.Extracts.{extract}
use Rattle.elab_names.specs.LookUps.{AreLookUps, AreUsed}
use Rattle.elab_names.specs.rtl_elab.Designs.{library_of}
use Rattle.source_file.specs.declared.SourceFile.{SourceFile}
use Rattle.desk_memo.specs.Orders.{AreInOrder}
use Rattle.desk_memo.specs.Rulings.{Ruling}
use Rattle.source_file.specs.SourceFiles.{texts_in}
use Rattle.desk_answers.specs.Fresh.{IsOfDesign, designed, sources_at}

-- it is what some files said of its top, with all that was looked up among their modules, the files that the top used, and which
-- of the names that the conditions of these ask for other files had as macros
pub record IsRuling {V : Type 0} (says : DesignParts → V → Type 0) (ruling : Ruling V) : Type 0 where
  pub files : List SourceFile
  pub modules : List (List Circuit)
  pub conditions : List FileConditions
  pub numbers : List ℕ
  pub in_order : AreInOrder files
  pub read : AreRead (texts_in files) modules
  pub asked : AreAsked (texts_in files) conditions
  pub are_used : AreUsed (library_of modules) ruling.top numbers
  pub used_is : ruling.used ≡ sources_at numbers files
  pub looked_up : AreLookUps (extract numbers (library_of modules)) ruling.top ruling.look_ups
  pub elsewhere_is : ruling.elsewhere ≡ map (elsewhere_in conditions) numbers
  pub is : IsOfDesign says ruling.used (designed modules conditions numbers ruling.top) ruling.answer
