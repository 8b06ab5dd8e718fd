-- How a call of the desk answers through objects that may fail, and what its status 0 promises.
-- Worked examples: examples/stored/half_adder.out.
use Rattle.std.specs.Prelude.{◌≡◌, ℕ, List, [], Option, None, Some, Ok, true, false, ⊤}
use Rattle.std.specs.Io.KnownBytes.{Appends}
use Rattle.desk_io.specs.Shelf.{Files}
use Rattle.rtl_tree.specs.TreeModule.{Circuit}
use Rattle.rtl_flat.specs.Flats.{DesignParts}
use Rattle.desk_build.specs.rtl_elab.Designs.{library_of}
use Rattle.desk_build.specs.rtl_elab.Elaborated.{elaborated}
use Rattle.desk_verdict.specs.check_clean.Promise.{IsPromised}
use Rattle.desk_verdict.specs.net_clean.Netlist.{HasHardware}
use Rattle.desk_verdict.specs.sign_firm.Firm.{IsFirm}
use Rattle.rtl_rule.specs.declared.finding.Finding.{Finding}
use Rattle.desk_verdict.specs.check_all.Findings.{AreAllFindings, IsClean}
use Rattle.desk_top.specs.Delivery.{Outcome, Delivers, IsCut, gave_up}
use Rattle.rtl_front.specs.Fronts.{AreAsked, AreSpelled}
use Rattle.rtl_front.specs.rtl_prep.Conditions.{FileConditions}
use Rattle.desk_build.specs.check_conditions.ToolNotes.{tool_noted}
use Rattle.desk_build.specs.Building.{all_foreign}
use Rattle.demo_told.specs.declared.demo.Demo.{Demo}
use Rattle.demo_told.specs.declared.demo.Shown.{Shown}
use Rattle.desk_verdict.specs.Verdicts.{AreShown}
use Rattle.desk_top.specs.Outcome.{World, IsOutcome, report_of}
use Rattle.desk_top.specs.Texts.{named, texts_of}
use Rattle.desk_top.specs.Words.{Sign, is_simulate, order}

-- what is told is this; an object over the system tells nothing
abbrev pub Agrees : {A : Type 0} → Option A → A → Type 0
Agrees None value = ⊤
Agrees (Some told) value = told ≡ value

-- the fact holds of the world that is told, or, where it isn't told, of some world
pub record OverWorld (files : Option Files) (P : World → Type 0) : Type 0 where
  pub world : World
  pub agrees : Agrees files world.files
  pub agrees_before : Agrees files world.before
  pub holds : P world

-- the words' outcome in this world is delivered; nothing is written where a read failed; where memory ran out a front of
-- the outcome is, which is empty for every command but `simulate`
pub record IsAnswered (words : List (List ℕ)) (status : ℕ) (before now : Option (List ℕ)) (world : World) : Type 0 where
  pub answered : gave_up status ≡ false → (wanted : Outcome) × IsOutcome words world wanted × Delivers wanted status before now
  pub unread : status ≡ 4 → Appends before now []
  pub no_memory : status ≡ 20 → IsCut (λ wanted. (is_simulate (order words) ≡ true) × IsOutcome words world wanted) before now

-- What is claimed of the top of a command line: its words are `sign TOP FILE..`; the files hold texts that spell modules, and no
-- others; of these the module with the top's name means a flat design, beside which stands what the files' conditions ask of tools
-- and of one another; simulation agrees with synthesis on that design, to which steps from power-up lead, and by level within its
-- budget. Nothing of this speaks of rules or findings
pub record IsClaimed (words : List (List ℕ)) (world : World) (top : List ℕ) (files texts : List (List ℕ)) (design : DesignParts) : Type 0 where
  pub command : order words ≡ Some (Sign top files)
  pub held : texts_of world.files files ≡ Some texts
  pub circuits : List (List Circuit)
  pub spelled : AreSpelled texts circuits
  pub conditions : List FileConditions
  pub asked : AreAsked texts conditions
  pub flat : tool_noted (all_foreign conditions) (elaborated (library_of circuits) top) ≡ Ok design
  pub promised : IsPromised design.parts.flat

-- What is written: the report of all findings of the design, none of which is of the first grade
pub record IsWritten (top : List ℕ) (files texts : List (List ℕ)) (design : DesignParts) (before now : Option (List ℕ)) : Type 0 where
  pub findings : List Finding
  pub found : AreAllFindings design.parts findings
  pub clean : IsClean findings
  pub shown : List (Option (Demo × Shown))
  pub are_shown : AreShown design findings shown
  pub reported : Appends before now (report_of top (named files texts) design findings shown)

-- The headline: the claim and the report of one design, of which synthesis refuses nothing. Where the report says `firm yes`, which
-- is where it has no finding, simulation is sound for synthesis from unknown values too
pub record IsSignedClean (words : List (List ℕ)) (before now : Option (List ℕ)) (world : World) : Type 0 where
  pub top : List ℕ
  pub files : List (List ℕ)
  pub texts : List (List ℕ)
  pub design : DesignParts
  pub claim : IsClaimed words world top files texts design
  pub hardware : HasHardware design.parts.flat
  pub report : IsWritten top files texts design before now
  pub firmly : report.findings ≡ [] → IsFirm design.parts.flat
