-- What the desk answers to its words, over the files of a shelf.
-- Worked examples: examples/stored/several_drivers.out, examples/stored/exchange.out.
use Rattle.std.specs.Prelude.{◌≡◌, ℕ, List, [], ◌∷◌, ◌++◌, length, map, slice_get, Option, None, Some, Result, Ok, Err, if◌then◌else◌, codes}
use Rattle.std.specs.Fmt.{decimal}
use Rattle.desk_io.specs.declared.shelf.ShelfFault.{ShelfFault}
use Rattle.desk_io.specs.Shelf.{Files, reading}
use Rattle.rtl_flat.specs.Flats.{DesignParts}
use Rattle.rtl_rule.specs.declared.finding.Finding.{Finding}
use Rattle.desk_verdict.specs.check_all.Findings.{AreAllFindings, IsClean}
use Rattle.desk_verdict.specs.check_clean.Promise.{IsPromised}
use Rattle.desk_verdict.specs.net_clean.Netlist.{HasHardware}
use Rattle.desk_verdict.specs.sign_firm.Firm.{IsFirm}
use Rattle.demo_told.specs.declared.demo.Demo.{Demo}
use Rattle.demo_told.specs.declared.demo.Shown.{Shown as Values}
use Rattle.desk_verdict.specs.demo_replay.declared.fault.Part.{Part}
use Rattle.desk_verdict.specs.demo_replay.declared.fault.ReplayFault.{ReplayFault}
use Rattle.desk_verdict.specs.demo_replay.declared.fault.ReplayFault.TheVariants.{Illegal, NoNetlist, Unsettled, Same, Memory}
use Rattle.desk_verdict.specs.demo_replay.Replays.{IsIllegal, IsLegal, IsReplayed, IsReplayFault}
use Rattle.desk_demo.specs.Files.{IsTold, IsUnread, Leads}
use Rattle.desk_verdict.specs.Verdicts.{AreShown, is_clean, is_firm}
use Rattle.desk_steps.specs.Names.{Names, ahead, names_from}
use Rattle.desk_steps.specs.Steps.{Steps, file_of}
use Rattle.desk_runs.specs.Runs.{Shown, IsSimulated}
use Rattle.source_file.specs.declared.SourceFile.{SourceFile}
use Rattle.desk_rows.specs.Rows.{unwaived}
use Rattle.desk_report.specs.Demos.{replay_line}
use Rattle.desk_report.specs.Reports.{report_text, stages_report}
use Rattle.desk_report.specs.Tellings.{signal_path, tellings}
use Rattle.desk_stages.specs.Stages.{stages_text}
use Rattle.vcd_check.specs.vcd_signals.vcd_read.Reading.{Dump, read}
use Rattle.vcd_check.specs.vcd_signals.vcd_read.declared.fault.VcdFault.{VcdFault}
use Rattle.vcd_check.specs.declared.verdict.CompareFault.{CompareFault}
use Rattle.vcd_check.specs.declared.verdict.CompareFault.TheVariants as compare
use Rattle.vcd_check.specs.declared.verdict.Verdict.{Verdict}
use Rattle.vcd_check.specs.declared.verdict.Verdict.TheVariants.{Agrees, Departs}
use Rattle.vcd_check.specs.Verdicts.{IsCompareFault, IsVerdict}
use Rattle.desk_dumps.specs.Lines.{compare_line, read_line, verdict_line}
use Rattle.desk_build.specs.Building.{Built, Designed, Refused, IsBuilt}
use Rattle.desk_top.specs.Delivery.{Outcome, no_file}
use Rattle.desk_top.specs.Texts.{named, texts_of}
use Rattle.desk_top.specs.Words.{Order, Sign, Simulate, Replay, Vcd, Generate, order}

-- what the outside holds: the files by their names, when the sources are read, and before that, when
-- the steps of a simulation, a demonstration or a dump are
pub record World : Type 0 where
  pub before : Files
  pub files : Files

-- ---- rulings

-- the report of a design with these findings, of which the first ones show; no waivers stand
abbrev pub report_of : List ℕ → List SourceFile → DesignParts → List Finding → List (Option (Demo × Values)) → List ℕ
report_of top sources design found shown =
    report_text top sources
    (map unwaived (tellings design.parts.flat.signals design.instances found shown))
    (is_clean found) (is_firm found)

-- the design is clean, or has a finding of the first grade
abbrev pub ruling_outcome : List ℕ → List SourceFile → DesignParts → List Finding → List (Option (Demo × Values)) → Outcome
ruling_outcome top sources design found shown =
    record {
      status = if is_clean found then 0 else 1;
      bytes = report_of top sources design found shown;
    }

-- the answer for a design: all its findings are told, the first of them with where they show; and
-- where none of them is of the first grade, simulation agrees with synthesis; where there is none, also from unknown values
pub record IsRuled (top : List ℕ) (sources : List SourceFile) (design : DesignParts) (outcome : Outcome) : Type 0 where
  pub found : List Finding
  pub are_all : AreAllFindings design.parts found
  pub shown : List (Option (Demo × Values))
  pub are_shown : AreShown design found shown
  pub is : outcome ≡ ruling_outcome top sources design found shown
  pub promised : IsClean found → IsPromised design.parts.flat
  pub hardware : IsClean found → HasHardware design.parts.flat
  pub firmly : found ≡ [] → IsFirm design.parts.flat

-- the source is refused
abbrev pub refused : List ℕ → Outcome
refused line = record { status = 2; bytes = line }

-- a report of the design of the top, or a refusal
abbrev pub IsAnswer : List ℕ → List SourceFile → Built → Outcome → Type 0
IsAnswer top sources (Designed design) outcome = IsRuled top sources design outcome
IsAnswer top sources (Refused line) outcome = outcome ≡ refused line

-- the answer for texts
pub record IsJudged (top : List ℕ) (sources : List SourceFile) (texts : List (List ℕ)) (outcome : Outcome) : Type 0 where
  pub built : Built
  pub is_built : IsBuilt top sources texts built
  pub is : IsAnswer top sources built outcome

-- the answer for files; none of it where one of them isn't there or is too long
abbrev pub IsSigned : List ℕ → List (List ℕ) → Option (List (List ℕ)) → Outcome → Type 0
IsSigned top files None outcome = outcome ≡ no_file
IsSigned top files (Some texts) outcome = IsJudged top (named files texts) texts outcome

-- ---- simulations

-- a line of the steps is none
abbrev pub malformed : ℕ → Outcome
malformed number = record { status = 12; bytes = codes "malformed line " ++ decimal number ++ 10 ∷ [] }

-- all steps came to rest, or one didn't
abbrev pub run : Shown → Outcome
run shown = record { status = if shown.settled then 0 else 11; bytes = shown.bytes }

-- what a design shows of steps
abbrev pub IsShowing : DesignParts → Steps → Outcome → Type 0
IsShowing design steps outcome =
    (shown : Shown) × IsSimulated design.parts.flat.signals design.parts.flat.tasks design.instances steps shown × (outcome ≡ run shown)

-- the answer for the steps of a design
abbrev pub IsRun : DesignParts → Result Steps ℕ → Outcome → Type 0
IsRun design (Ok steps) outcome = IsShowing design steps outcome
IsRun design (Err number) outcome = outcome ≡ malformed number

-- the inputs of a design's top by their names
abbrev pub names_in : DesignParts → Names
names_in design = names_from (ahead design.instances) 0 design.parts.flat.signals

abbrev pub IsTried : List ℕ → Built → Outcome → Type 0
IsTried steps (Designed design) outcome = IsRun design (file_of (names_in design) steps) outcome
IsTried steps (Refused line) outcome = outcome ≡ refused line

-- the answer for texts and a text of steps
pub record IsStepped (top : List ℕ) (sources : List SourceFile) (texts : List (List ℕ)) (steps : List ℕ) (outcome : Outcome) : Type 0 where
  pub built : Built
  pub is_built : IsBuilt top sources texts built
  pub is : IsTried steps built outcome

-- the answer for files; none of it where one of them, or the one with the steps, isn't there or is too long
abbrev pub IsSimulating : List ℕ → List (List ℕ) → Result (List ℕ) ShelfFault → Option (List (List ℕ)) → Outcome → Type 0
IsSimulating top files (Err fault) texts outcome = outcome ≡ no_file
IsSimulating top files (Ok steps) None outcome = outcome ≡ no_file
IsSimulating top files (Ok steps) (Some texts) outcome = IsStepped top (named files texts) texts steps outcome

-- ---- demonstrations

-- what a demonstration shows that is run again: two values that differ
abbrev pub replay_outcome : DesignParts → Demo → Values → Outcome
replay_outcome design demo values =
    record {
      status = 0;
      bytes = replay_line demo (signal_path (slice_get design.parts.flat.signals demo.signal.0)) values;
    }

-- why it shows nothing; its one line is malformed where it names what the design doesn't have
abbrev pub fault_outcome : ReplayFault → Option Outcome
fault_outcome (Illegal part) = Some (malformed 1)
fault_outcome NoNetlist = Some (record { status = 13; bytes = codes "no netlist\n" })
fault_outcome (Unsettled step) = Some (record { status = 11; bytes = codes "unsettled\n" })
fault_outcome (Same value) =
    Some (record { status = 10; bytes = codes "no difference\n" })
fault_outcome Memory = None

-- the answer for a demonstration
pub data IsRerun (design : DesignParts) (demo : Demo) : Outcome → Type 0 where
  Differs :
      (values : Values) → IsReplayed design.parts.flat demo values →
      IsRerun design demo (replay_outcome design demo values)
  Fails :
      (fault : ReplayFault) (outcome : Outcome) → IsReplayFault design.parts.flat demo fault →
      fault_outcome fault ≡ Some outcome → IsRerun design demo outcome

-- the answer for the text of a demonstration file: malformed at its first line where that is none or
-- names a signal, a trial or a step that the design doesn't have; else at what stands behind it
pub data IsDemoRun (design : DesignParts) (text : List ℕ) : Outcome → Type 0 where
  Read :
      (demo : Demo) (outcome : Outcome) → IsTold design.parts.flat.signals text demo →
      IsRerun design demo outcome → IsDemoRun design text outcome
  Unread : IsUnread design.parts.flat.signals text → IsDemoRun design text (malformed 1)
  Misnamed :
      (demo : Demo) (part : Part) → Leads design.parts.flat.signals text demo →
      IsIllegal design.parts.flat demo part → IsDemoRun design text (malformed 1)
  More :
      (demo : Demo) → Leads design.parts.flat.signals text demo →
      IsLegal design.parts.flat demo → IsDemoRun design text (malformed 2)

abbrev pub IsShownIn : List ℕ → Built → Outcome → Type 0
IsShownIn demo (Designed design) outcome = IsDemoRun design demo outcome
IsShownIn demo (Refused line) outcome = outcome ≡ refused line

-- the answer for texts and the text of a demonstration file
pub record IsReplayIn (top : List ℕ) (sources : List SourceFile) (texts : List (List ℕ)) (demo : List ℕ) (outcome : Outcome) : Type 0 where
  pub built : Built
  pub is_built : IsBuilt top sources texts built
  pub is : IsShownIn demo built outcome

-- the answer for files; none of it where one of them, or the one with the demonstration, isn't there
-- or is too long
abbrev pub IsReplaying : List ℕ → List (List ℕ) → Result (List ℕ) ShelfFault → Option (List (List ℕ)) → Outcome → Type 0
IsReplaying top files (Err fault) texts outcome = outcome ≡ no_file
IsReplaying top files (Ok demo) None outcome = outcome ≡ no_file
IsReplaying top files (Ok demo) (Some texts) outcome =
    IsReplayIn top (named files texts) texts demo outcome

-- ---- recorded dumps

-- the dump agrees with what synthesis means, or departs from it
abbrev pub verdict_status : Verdict → ℕ
verdict_status (Agrees frames) = 0
verdict_status (Departs time signal recorded synthesised) = 15

abbrev pub verdict_outcome : DesignParts → Verdict → Outcome
verdict_outcome design verdict =
    record { status = verdict_status verdict; bytes = verdict_line design.parts.flat.signals verdict }

-- the outcome with a line, if there is one
abbrev pub with_line : ℕ → Option (List ℕ) → Option Outcome
with_line status None = None
with_line status (Some line) = Some (record { status = status; bytes = line })

-- the design has no netlist; or the dump doesn't have what a comparison needs
abbrev pub compare_status : CompareFault → ℕ
compare_status compare.NoNetlist = 13
compare_status (compare.MissingInput signal) = 16
compare_status (compare.MissingRegister signal) = 16
compare_status compare.NeverKnown = 16
compare_status (compare.Unlawful time) = 16
compare_status compare.Memory = 16

-- why nothing is told of a dump; of want of memory there is no line
abbrev pub compare_outcome : DesignParts → CompareFault → Option Outcome
compare_outcome design fault = with_line (compare_status fault) (compare_line design.parts.flat.signals fault)

-- why a text is no dump
abbrev pub read_outcome : VcdFault → Option Outcome
read_outcome fault = with_line 16 (read_line fault)

-- the answer for a dump that has the top of a design in a scope
pub data IsCompared (design : DesignParts) (scope : List ℕ) (dump : Dump) : Outcome → Type 0 where
  Told :
      (verdict : Verdict) → IsVerdict design.parts.flat scope dump verdict →
      IsCompared design scope dump (verdict_outcome design verdict)
  Untold :
      (fault : CompareFault) (outcome : Outcome) → IsCompareFault design.parts.flat scope dump fault →
      compare_outcome design fault ≡ Some outcome → IsCompared design scope dump outcome

abbrev pub IsComparedWith : List ℕ → Dump → Built → Outcome → Type 0
IsComparedWith scope dump (Designed design) outcome = IsCompared design scope dump outcome
IsComparedWith scope dump (Refused line) outcome = outcome ≡ refused line

-- the answer for texts and a dump
pub record IsBeside (top : List ℕ) (sources : List SourceFile) (texts : List (List ℕ)) (scope : List ℕ) (dump : Dump) (outcome : Outcome) : Type 0 where
  pub built : Built
  pub is_built : IsBuilt top sources texts built
  pub is : IsComparedWith scope dump built outcome

-- the answer for texts and what the text of a dump is read as: none that can be read comes before what texts make
abbrev pub IsReadBeside : List ℕ → List SourceFile → List (List ℕ) → List ℕ → Result Dump VcdFault → Outcome → Type 0
IsReadBeside top sources texts scope (Ok dump) outcome = IsBeside top sources texts scope dump outcome
IsReadBeside top sources texts scope (Err fault) outcome = read_outcome fault ≡ Some outcome

-- the answer for files; none of it where one of them, or the one with the dump, isn't there or is too long
abbrev pub IsComparing : List ℕ → List ℕ → List (List ℕ) → Result (List ℕ) ShelfFault → Option (List (List ℕ)) → Outcome → Type 0
IsComparing top scope files (Err fault) texts outcome = outcome ≡ no_file
IsComparing top scope files (Ok text) None outcome = outcome ≡ no_file
IsComparing top scope files (Ok text) (Some texts) outcome =
    IsReadBeside top (named files texts) texts scope (read text) outcome

-- ---- generated designs

-- a generated text as a file, which has this name where it is told
abbrev pub generated_sources : ℕ → List SourceFile
generated_sources stages = record { name = codes "generated"; text = stages_text stages } ∷ []

-- what is told of a design with these findings
abbrev pub generation_outcome : ℕ → DesignParts → List Finding → Outcome
generation_outcome stages design found =
    record { status = 0; bytes = stages_report stages (length design.parts.flat.tasks) (is_clean found) (length found) }

-- the answer for a design: all its findings are counted
pub record IsCounted (stages : ℕ) (design : DesignParts) (outcome : Outcome) : Type 0 where
  pub found : List Finding
  pub are_all : AreAllFindings design.parts found
  pub is : outcome ≡ generation_outcome stages design found

abbrev pub IsStaged : ℕ → Built → Outcome → Type 0
IsStaged stages (Designed design) outcome = IsCounted stages design outcome
IsStaged stages (Refused line) outcome = outcome ≡ refused line

-- the answer for a design of so many stages
pub record IsGenerated (stages : ℕ) (outcome : Outcome) : Type 0 where
  pub built : Built
  pub is_built : IsBuilt (codes "top") (generated_sources stages) (stages_text stages ∷ []) built
  pub is : IsStaged stages built outcome

-- the usage of the whole program
abbrev pub usage : List ℕ
usage =
    codes "usage: desk sign TOP FILE.. | simulate TOP STEPS FILE.. | replay TOP DEMO FILE.. | vcd TOP SCOPE DUMP FILE.. | serve PORT COUNT | report TOP | generate N" ++ 10 ∷ []

-- the outcome of a command, and the usage where the words are none
abbrev pub IsDone : World → Option Order → Outcome → Type 0
IsDone world None outcome = outcome ≡ record { status = 3; bytes = usage }
IsDone world (Some (Sign top files)) outcome = IsSigned top files (texts_of world.files files) outcome
IsDone world (Some (Simulate top steps files)) outcome =
    IsSimulating top files (reading (world.before steps)) (texts_of world.files files) outcome
IsDone world (Some (Replay top demo files)) outcome =
    IsReplaying top files (reading (world.before demo)) (texts_of world.files files) outcome
IsDone world (Some (Vcd top scope dump files)) outcome =
    IsComparing top scope files (reading (world.before dump)) (texts_of world.files files) outcome
IsDone world (Some (Generate stages)) outcome = IsGenerated stages outcome

-- the outcome of the words
abbrev pub IsOutcome : List (List ℕ) → World → Outcome → Type 0
IsOutcome words world outcome = IsDone world (order words) outcome
