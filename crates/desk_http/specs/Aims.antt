-- What a route leads to: its part is decoded, and is then a file's name, a module's name or a number (RFC 3986, section 2.1).
-- Worked examples: crates/desk_http/proofs/Example.antt.
use Rattle.std.specs.Prelude.{ℕ, ◌^◌, Bool, ◌&&◌, nat_lt, List, Option, Some, None, Result, Ok, Err, if◌then◌else◌}
use Rattle.percent_encoding.specs.Percent.{percent_decode}
use Rattle.desk_tables.specs.Rules.{is_file_name}
use Rattle.desk_tables.specs.declared.rows.WaiverId.{WaiverId}
use Rattle.desk_http.specs.Gives.{with_value}
use Rattle.desk_http.specs.Labels.{is_word}
use Rattle.desk_numbers.specs.Numbers.{is_plain, number_of}
use Rattle.desk_http.specs.Routes.{Route}
use Rattle.desk_http.specs.declared.aim.Aim.{Aim}
use Rattle.desk_http.specs.declared.aim.Aim.TheVariants as Aims
use Rattle.desk_requests.specs.declared.ask.Ask.TheVariants as Asks
use Rattle.desk_http.specs.declared.fault.BadRequest.{BadRequest}
use Rattle.desk_http.specs.declared.fault.BadRequest.TheVariants.{NotFound}
use Rattle.desk_http.specs.declared.route.Action.{Action}
use Rattle.desk_http.specs.declared.route.Action.TheVariants as Actions

abbrev pub found_where : {A : Type 0} → Bool → A → Result A BadRequest
found_where fits it = if fits then Ok it else Err NotFound

-- the file's name that a part is
abbrev pub file_at : List ℕ → Result (List ℕ) BadRequest
file_at part = found_where (is_file_name (percent_decode part)) (percent_decode part)

-- the module's name that a part is
abbrev pub top_at : List ℕ → Result (List ℕ) BadRequest
top_at part = found_where (is_word (percent_decode part)) (percent_decode part)

abbrev pub id_of : ℕ → WaiverId
id_of number = record { 0 = number }

abbrev pub waiver_named : List ℕ → Result WaiverId BadRequest
waiver_named text =
    found_where (is_plain text && nat_lt (number_of text) (2 ^ 32)) (id_of (number_of text))

-- the waiver's number that a part is, below 2 ^ 32
abbrev pub waiver_at : List ℕ → Result WaiverId BadRequest
waiver_at part = waiver_named (percent_decode part)

-- what an action at a part asks for
abbrev pub aim_of : Action → List ℕ → Result Aim BadRequest
aim_of Actions.PutFile part = with_value Aims.PutFile (file_at part)
aim_of Actions.GetFile part = with_value (λ name. Aims.Other (Asks.GetFile name)) (file_at part)
aim_of Actions.FileText part = with_value (λ name. Aims.Other (Asks.FileText name)) (file_at part)
aim_of Actions.Files part = Ok (Aims.Other Asks.Files)
aim_of Actions.DropFile part = with_value (λ name. Aims.Other (Asks.DropFile name)) (file_at part)
aim_of Actions.Ruling part = with_value (λ top. Aims.Other (Asks.Ruling top)) (top_at part)
aim_of Actions.Reach part = with_value (λ top. Aims.Other (Asks.Reach top)) (top_at part)
aim_of Actions.SignOff part = with_value (λ top. Aims.Other (Asks.SignOff top)) (top_at part)
aim_of Actions.SignOffs part = Ok (Aims.Other Asks.SignOffs)
aim_of Actions.Waive part = Ok Aims.Waive
aim_of Actions.Waivers part = Ok (Aims.Other Asks.Waivers)
aim_of Actions.Revoke part = with_value (λ id. Aims.Other (Asks.Revoke id)) (waiver_at part)

-- what a route leads to; nothing is where there is none
abbrev pub aim_at : Option Route → Result Aim BadRequest
aim_at None = Err NotFound
aim_at (Some route) = aim_of route.0 route.1
