-- What a request for a waiver comes to, with what the rules say of its module.
-- Worked examples: crates/desk_rulings/proofs/Example.antt.
use Rattle.std.specs.Prelude.{ℕ, ◌+◌, ℤ, Bool, ◌&&◌, bytes_eq, codes, decimal, List, [], ◌∷◌, length, option_map, Option, Some, None, if◌then◌else◌}
use Rattle.rtl_rule.specs.Rows.{row_of}
use Rattle.rtl_rule.specs.declared.rule.Rule.{Rule}
use Rattle.source_file.specs.declared.SourceFile.{SourceFile}
use Rattle.desk_places.specs.Places.{place_in}
use Rattle.desk_rows.specs.declared.Row.{Row}
use Rattle.desk_dates.specs.Dates.{date_text}
use Rattle.desk_tables.specs.Rules.{or_else}
use Rattle.desk_tables.specs.Tables.{Kept}
use Rattle.desk_tables.specs.declared.change.Change.TheVariants as change
use Rattle.desk_tables.specs.declared.rows.FileRow.{FileRow}
use Rattle.desk_tables.specs.declared.rows.WaiverRow.{WaiverRow}
use Rattle.waiver_book.specs.Books.{refusal}
use Rattle.waiver_book.specs.declared.fault.WaiveFault.{WaiveFault}
use Rattle.waiver_book.specs.declared.fault.WaiveFault.TheVariants.{NotWaivable, NoSuchFinding, TermPast, TermTooLong, OwnerIsAsker, Already, Memory}
use Rattle.waiver_book.specs.Waivers.{Waiver}
use Rattle.desk_requests.specs.declared.ask.Request.{Request}
use Rattle.desk_requests.specs.declared.ask.WaiverAsk.{WaiverAsk}
use Rattle.desk_bodies.specs.Bodies.{id_text}
use Rattle.desk_bodies.specs.Refusals.{conflict_with, value_line, word_line}
use Rattle.desk_records.specs.Machine.{kept_row}
use Rattle.desk_records.specs.Outcomes.{Outcome, Told, Done}
use Rattle.desk_rulings.specs.Rulings.{Site, Verdict, site_of, standing_in}

-- ---- the finding that is asked for

-- the finding is the one that is asked for: its rule, its target, and its place as it is written
abbrev pub is_asked : List SourceFile → WaiverAsk → Row → Bool
is_asked files ask one =
    bytes_eq (row_of one.finding.rule).code (row_of ask.rule).code
    && bytes_eq one.told.target ask.target
    && bytes_eq (place_in files one.finding.spot) ask.place

abbrev pub asked_in : List FileRow → List SourceFile → WaiverAsk → List Row → Option Site
asked_in rows files ask [] = None
asked_in rows files ask (one ∷ others) =
    if is_asked files ask one then site_of rows files one else asked_in rows files ask others

-- the site of the first finding that is the one that is asked for
abbrev pub asked_site : Kept → Verdict → WaiverAsk → Option Site
asked_site kept verdict ask = asked_in kept.files verdict.files ask verdict.rows

-- ---- refusals

-- the waiver that is asked for
abbrev pub waiver_of : WaiverAsk → Site → Waiver
waiver_of ask site = record {
  key = site.key;
  digest = site.digest;
  owner = ask.owner;
  last_day = ask.last_day;
  reason = ask.reason;
}

-- why a waiver of no finding isn't granted
abbrev pub unfound : Rule → WaiveFault
unfound rule = if (row_of rule).waivable then NoSuchFinding else NotWaivable rule

-- why a waiver isn't granted: the first of the book's refusals, the last of which is that a waiver
-- of the tables stands
abbrev pub refused_at : Site → WaiverAsk → Request → ℤ → List WaiverRow → Option WaiveFault
refused_at site ask request today rows =
    or_else (refusal (waiver_of ask site) (site.key ∷ []) today request.user [])
    (option_map (λ found. Already found.0) (standing_in today rows site))

-- a refusal as it is written; nothing for want of memory
abbrev pub refusal_line : WaiveFault → List ℕ
refusal_line (NotWaivable rule) = value_line (codes "NotWaivable") (row_of rule).code
refusal_line NoSuchFinding = word_line (codes "NoSuchFinding")
refusal_line (TermPast day) = value_line (codes "TermPast") (date_text day)
refusal_line (TermTooLong days) = value_line (codes "TermTooLong") (decimal days)
refusal_line OwnerIsAsker = word_line (codes "OwnerIsAsker")
refusal_line (Already id) = value_line (codes "Already") (decimal id.0)
refusal_line Memory = []

-- ---- grants

-- the next row of the waivers
abbrev pub waiver_row : Site → WaiverAsk → Request → List WaiverRow → WaiverRow
waiver_row site ask request rows = record {
  id = record { 0 = length rows + 1 };
  top = ask.top;
  rule = (row_of site.key.rule).code;
  target = site.key.target;
  file = site.key.file;
  at = site.key.at;
  digest = site.digest;
  owner = ask.owner;
  asker = request.user;
  reason = ask.reason;
  last_day = ask.last_day;
  ended = None;
}

abbrev pub grant : WaiverRow → Request → Outcome
grant row request = Done (change.Grant row (kept_row request 201 (id_text row.id.0)))

abbrev pub grant_unless : Option WaiveFault → WaiverRow → Request → Outcome
grant_unless None row request = grant row request
grant_unless (Some fault) row request = Told (conflict_with (refusal_line fault))

abbrev pub waive_at : Option Site → WaiverAsk → Request → ℤ → List WaiverRow → Outcome
waive_at None ask request today rows = Told (conflict_with (refusal_line (unfound ask.rule)))
waive_at (Some site) ask request today rows =
    grant_unless (refused_at site ask request today rows) (waiver_row site ask request rows) request

-- what a request for a waiver comes to: the first refusal, or the row that is granted
abbrev pub waive_outcome : WaiverAsk → Request → ℤ → Kept → Verdict → Outcome
waive_outcome ask request today kept verdict =
    waive_at (asked_site kept verdict ask) ask request today kept.waivers
