-- The line that says why sources are refused.
-- Worked examples: crates/tests_rows/stdin.
use Rattle.std.specs.Prelude.{ℕ, List, [], ◌++◌, codes, Option, None, Some}
use Rattle.std.specs.Option.{option_map}
use Rattle.text_ground.specs.declared.text.Spot.{Spot}
use Rattle.source_file.specs.declared.SourceFile.{SourceFile}
use Rattle.desk_places.specs.Places.{place_in}
use Rattle.rtl_front.specs.declared.fault.FileFault.{FileFault}
use Rattle.elab_scope.specs.Faults.{Answer}
use Rattle.desk_refusals.specs.Notices as notices
use Rattle.desk_refusals.specs.Notices.{Notice}
use Rattle.desk_refusals.specs.Words.{word_part}
use Rattle.desk_refusals.specs.declared.reason.Reason.{Reason}

abbrev pub place_part : List SourceFile → Option Spot → List ℕ
place_part sources None = []
place_part sources (Some spot) = codes " at " ++ place_in sources spot

-- the name of a fault, its text and its place
abbrev pub notice_line : List SourceFile → Notice → List ℕ
notice_line sources notice =
    codes "refused " ++ notice.name ++ word_part notice.word ++ place_part sources notice.spot ++ codes "\n"

-- nothing is written where nothing is told
abbrev pub line : List SourceFile → Option Notice → List ℕ
line sources None = []
line sources (Some notice) = notice_line sources notice

-- a file has no modules
abbrev pub source_line : List SourceFile → ℕ → FileFault → List ℕ
source_line sources file fault = line sources (notices.file_notice file fault)

-- modules make no design
abbrev pub design_line : List SourceFile → Answer → List ℕ
design_line sources answer = line sources (notices.design_notice answer)

-- what the code tells
abbrev pub notice : Reason → Notice
notice reason = record { name = reason.name.now; word = option_map (λ word. word.now) reason.word; spot = reason.spot }
