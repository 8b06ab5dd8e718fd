-- The book of waivers as a list, in which the waiver at place 0 has the number 1.
-- Worked examples: crates/waiver_book/proofs/Example.antt.
use Rattle.std.specs.Prelude.{ℤ, pos, ◌-ℤ◌, ℕ, ◌+◌, not, int_lt, bytes_eq, nat_abs, List, position, option_map, Option, Some, None, if◌then◌else◌}
use Rattle.desk_tables.specs.declared.rows.WaiverId.{WaiverId}
use Rattle.rtl_rule.specs.Rows.{row_of}
use Rattle.rtl_rule.specs.declared.finding.Key.{Key}
use Rattle.waiver_book.specs.declared.fault.WaiveFault.{WaiveFault}
use Rattle.waiver_book.specs.declared.fault.WaiveFault.TheVariants.{NotWaivable, NoSuchFinding, TermPast, TermTooLong, OwnerIsAsker, Already}
use Rattle.waiver_book.specs.Waivers.{Entry, Waiver, covers, has_key}

-- the number of the waiver at a place
abbrev pub id_at : ℕ → WaiverId
id_at place = record { 0 = place + 1 }

-- how many days after the day of its grant a waiver may stand
abbrev pub MAX_TERM : ℤ
MAX_TERM = pos 90

-- the least number of a waiver of this finding, in a file with this digest, that stands on this day
abbrev pub standing : Key → List ℕ → ℤ → List Entry → Option WaiverId
standing key digest today book = option_map id_at (position (covers key digest today) book)

-- ---- grants

-- how many days a last day is away
abbrev pub term : ℤ → ℤ → ℕ
term today last_day = nat_abs (last_day -ℤ today)

-- why a waiver isn't granted, where there is memory: the first of these that holds
abbrev pub refusal : Waiver → List Key → ℤ → List ℕ → List Entry → Option WaiveFault
refusal waiver found today who book =
    if not (row_of waiver.key.rule).waivable then Some (NotWaivable waiver.key.rule)
    else (if not (has_key waiver.key found) then Some NoSuchFinding
    else (if int_lt waiver.last_day today then Some (TermPast waiver.last_day)
    else (if int_lt MAX_TERM (waiver.last_day -ℤ today) then Some (TermTooLong (term today waiver.last_day))
    else (if bytes_eq waiver.owner who then Some OwnerIsAsker
    else option_map Already (standing waiver.key waiver.digest today book)))))
