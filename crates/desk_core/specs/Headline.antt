-- What a sign-off with the grade `clean` promises of its module.
-- Worked examples: crates/tests_serving/stdin.
use Rattle.std.specs.Prelude.{◌≡◌, ℕ, List, [], find, map, None, Ok}
use Rattle.rtl_tree.specs.TreeModule.{Circuit}
use Rattle.rtl_rule.specs.declared.finding.Finding.{Finding}
use Rattle.design_db.specs.check_all.Findings.{AreAllFindings, IsClean}
use Rattle.design_db.specs.check_clean.Promise.{IsPromised}
use Rattle.design_db.specs.net_clean.Netlist.{HasHardware}
use Rattle.design_db.specs.sign_firm.Firm.{IsFirm}
use Rattle.rtl_flat.specs.Flats.{DesignParts}
use Rattle.design_db.specs.elab_names.Extracts.{extract}
use Rattle.design_db.specs.elab_names.LookUps.{AreUsed}
use Rattle.design_db.specs.rtl_elab.Designs.{library_of}
use Rattle.design_db.specs.rtl_elab.Elaborated.{elaborated}
use Rattle.design_db.specs.desk_memo.check_conditions.Foreign.{foreign_in}
use Rattle.design_db.specs.desk_memo.check_conditions.ToolNotes.{with_tools}
use Rattle.design_db.specs.desk_memo.rtl_prep.Conditions.{FileConditions}
use Rattle.rtl_front.specs.Fronts.{AreAsked, AreSpelled}
use Rattle.source_file.specs.declared.SourceFile.{SourceFile}
use Rattle.desk_tables.specs.Grades.{grade_word}
use Rattle.desk_tables.specs.Tables.{Kept}
use Rattle.desk_tables.specs.declared.rows.Grade.TheVariants.{Clean}
use Rattle.desk_requests.specs.Replies.{Said}
use Rattle.desk_requests.specs.Requests.{label_of}
use Rattle.desk_requests.specs.declared.ask.Request.{Request}
use Rattle.desk_requests.specs.declared.ask.Ask.TheVariants.{SignOff}
use Rattle.desk_bodies.specs.Bodies.{granted_text}
use Rattle.desk_records.specs.Machine.{is_to}
use Rattle.source_file.specs.SourceFiles.{texts_in}
use Rattle.desk_core.specs.Files.{AreFilesOf}

-- the request asks for a sign-off of the module, and no reply is kept for it
pub record IsNewSignOff (request : Request) (kept : Kept) (top : List ℕ) : Type 0 where
  pub asks : request.ask ≡ SignOff top
  pub none : find (is_to request.user (label_of request.id)) kept.replies ≡ None

-- the reply says that it was accepted with the grade `clean`
pub record SaysClean (answer : Said) : Type 0 where
  pub id : ℕ
  pub accepted : answer.status ≡ 201
  pub graded : answer.body ≡ granted_text (grade_word Clean) id

-- What is claimed of a module of the files in the rows: their texts spell modules, and no others; of these the module with the
-- top's name means a flat design, in the files that it uses, numbered among themselves; and simulation agrees with synthesis on
-- that design. Nothing of this speaks of rules or findings
pub record IsClaimed (kept : Kept) (top : List ℕ) (design : DesignParts) : Type 0 where
  pub files : List SourceFile
  pub are_files : AreFilesOf kept.files files
  pub circuits : List (List Circuit)
  pub spelled : AreSpelled (texts_in files) circuits
  pub numbers : List ℕ
  pub used : AreUsed (library_of circuits) top numbers
  pub flat : elaborated (extract numbers (library_of circuits)) top ≡ Ok design
  pub promised : IsPromised design.parts.flat

-- The headline: the claim of a design of which no finding is of the first grade, also none of the conditions of its files, and
-- synthesis refuses nothing. Where there is no finding at all, simulation is sound for synthesis from unknown values too
pub record IsSignedClean (kept : Kept) (top : List ℕ) : Type 0 where
  pub design : DesignParts
  pub claim : IsClaimed kept top design
  pub hardware : HasHardware design.parts.flat
  pub conditions : List FileConditions
  pub asked : AreAsked (texts_in claim.files) conditions
  pub findings : List Finding
  pub found : AreAllFindings (with_tools (map (foreign_in conditions) claim.numbers) design).parts findings
  pub clean : IsClean findings
  pub firmly : findings ≡ [] → IsFirm design.parts.flat

-- a reply that says that a new sign-off of a module is clean says so of a module that is
abbrev pub IsTrustworthy : Request → Kept → Said → Type 0
IsTrustworthy request kept answer =
    (top : List ℕ) → IsNewSignOff request kept top → SaysClean answer → IsSignedClean kept top
