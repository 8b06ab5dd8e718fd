-- Where no table is full, there is room for a waiver or a sign-off.
use Rattle.std.proofs.Common.{◌≡◌, ℕ, ◌<◌, Bool, true, false, List, Option, Some, None, length, refl}
use Rattle.std.specs.Prelude.{nat_le, if◌then◌else◌}
use Rattle.std.proofs.lemmas.Bool.{leb-false}
use Rattle.desk_tables.specs.Tables.{Kept}
use Rattle.desk_tables.specs.declared.rows.Table.{Table}
use Rattle.desk_tables.specs.declared.rows.Table.TheVariants.{Waivers, SignOffs}
use Rattle.desk_tables.specs.Limits.{MAX_SIGN_OFFS, MAX_WAIVERS}
use Rattle.desk_requests.specs.declared.ask.Ask.TheVariants as ask
use Rattle.desk_requests.specs.declared.ask.WaiverAsk.{WaiverAsk}
use Rattle.desk_records.specs.Machine.{full_table}

unfilled : (does : Bool) (table : Table) (rest : Option Table) → (if does then Some table else rest) ≡ None → does ≡ false
unfilled true table rest none = absurd (cc)
unfilled false table rest none = refl

pub room_for_waiver : (asked : WaiverAsk) (kept : Kept) → full_table (ask.Waive asked) kept ≡ None → length kept.waivers < MAX_WAIVERS
room_for_waiver asked kept none =
    leb-false MAX_WAIVERS (length kept.waivers) (unfilled (nat_le MAX_WAIVERS (length kept.waivers)) Waivers _ none)

pub room_for_signoff : (top : List ℕ) (kept : Kept) → full_table (ask.SignOff top) kept ≡ None → length kept.signoffs < MAX_SIGN_OFFS
room_for_signoff top kept none =
    leb-false MAX_SIGN_OFFS (length kept.signoffs) (unfilled (nat_le MAX_SIGN_OFFS (length kept.signoffs)) SignOffs _ none)
