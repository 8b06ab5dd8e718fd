-- It serves inner contracts and proofs; no answer of the program is stated by it.
-- Steps on the way to what requests come to.
use Rattle.std.specs.Prelude.{ℕ, ℤ, ◌-ℤ◌, not, int_lt, bytes_eq, List, Option, Some, None, if◌then◌else◌}
use Rattle.rtl_rule.specs.Rows.{row_of}
use Rattle.desk_tables.specs.declared.rows.FileRow.{FileRow}
use Rattle.waiver_book.specs.Books.{term, MAX_TERM}
use Rattle.waiver_book.specs.declared.fault.WaiveFault.{WaiveFault}
use Rattle.waiver_book.specs.declared.fault.WaiveFault.TheVariants.{NotWaivable, TermPast, TermTooLong, OwnerIsAsker}
use Rattle.desk_requests.specs.declared.ask.WaiverAsk.{WaiverAsk}
use Rattle.desk_rulings.specs.Rulings.{Site}

-- why a waiver of a finding isn't granted, whatever waivers stand
abbrev pub first_refusal : Site → WaiverAsk → ℤ → List ℕ → Option WaiveFault
first_refusal site ask today who =
    if not (row_of site.key.rule).waivable then Some (NotWaivable site.key.rule)
    else (if int_lt ask.last_day today then Some (TermPast ask.last_day)
    else (if int_lt MAX_TERM (ask.last_day -ℤ today)
    then Some (TermTooLong (term today ask.last_day))
    else (if bytes_eq ask.owner who then Some OwnerIsAsker else None)))

-- the file, where a user put it last
abbrev pub edited_one : List ℕ → Option FileRow → Option FileRow
edited_one who None = None
edited_one who (Some row) = if bytes_eq row.editor who then Some row else None
