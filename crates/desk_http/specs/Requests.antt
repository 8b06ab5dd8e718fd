-- The request of a head and its body: the first check that fails decides.
-- Worked examples: crates/tests_serving/stdin.
use Rattle.std.specs.Prelude.{ℕ, bytes_eq, codes, List, ◌++◌, Option, Some, None, Result, Ok, Err, if◌then◌else◌}
use Rattle.sha2.specs.Sha256.{sha256}
use Rattle.desk_tables.specs.Names.{name_of}
use Rattle.desk_http.specs.Aims.{aim_at}
use Rattle.desk_http.specs.Gives.{◌>>=◌, or_malformed, with_value}
use Rattle.desk_http.specs.Heads.{Heard}
use Rattle.desk_http.specs.Labels.{is_label}
use Rattle.desk_http.specs.Lines.{first_named}
use Rattle.desk_http.specs.Routes.{route}
use Rattle.desk_http.specs.Waivers.{waiver_of}
use Rattle.desk_http.specs.declared.aim.Aim.{Aim}
use Rattle.desk_http.specs.declared.aim.Aim.TheVariants as Aims
use Rattle.desk_requests.specs.declared.ask.Ask.{Ask}
use Rattle.desk_requests.specs.declared.ask.Ask.TheVariants as Asks
use Rattle.desk_requests.specs.declared.ask.Request.{Request}
use Rattle.desk_http.specs.declared.fault.BadRequest.{BadRequest}
use Rattle.desk_http.specs.declared.fault.BadRequest.TheVariants.{Malformed}

-- what tells a request from another: the method, a space, the target, a line feed, and the body
abbrev pub digest_of : List ℕ → List ℕ → List ℕ → List ℕ
digest_of method target body = sha256 (method ++ codes " " ++ target ++ codes "\n" ++ body)

-- who asks
abbrev pub user_of : Option (List ℕ) → Result (List ℕ) BadRequest
user_of None = Err Malformed
user_of (Some text) = or_malformed (name_of text)

abbrev pub label_text : Option (List ℕ) → Result (List ℕ) BadRequest
label_text None = Err Malformed
label_text (Some text) = if is_label 64 text then Ok text else Err Malformed

-- what the user calls the request, where it changes something
abbrev pub label_of : List ℕ → Option (List ℕ) → Result (Option (List ℕ)) BadRequest
label_of method value =
    if bytes_eq method (codes "GET") then Ok None else with_value Some (label_text value)

-- what is asked for
abbrev pub ask_of : Aim → List ℕ → Result Ask BadRequest
ask_of (Aims.Other ask) body = Ok ask
ask_of (Aims.PutFile name) body = Ok (Asks.PutFile name body)
ask_of Aims.Waive body = with_value Asks.Waive (or_malformed (waiver_of body))

-- the request of a head and its body
unfoldable pub request_of : Heard → List ℕ → Result Request BadRequest
request_of head body = do
  aim ← aim_at (route head.method head.target)
  user ← user_of (first_named (codes "desk-user") head.lines)
  id ← label_of head.method (first_named (codes "desk-request") head.lines)
  ask ← ask_of aim body
  Ok (record { user = user; id = id; digest = digest_of head.method head.target body; ask = ask })
