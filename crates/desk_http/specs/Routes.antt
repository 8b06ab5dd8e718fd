-- Where a method and a target lead. A target is parted as it stands, and its part is decoded then.
-- Worked examples: crates/desk_http/proofs/Example.antt.
use Rattle.std.specs.Prelude.{ℕ, ◌-◌, bytes_eq, List, [], length, take, drop, codes, Option, Some, None, option_map, option_and_then, if◌then◌else◌}
use Rattle.std.specs.Borrow.{Bor}
use Rattle.std.specs.Option.{option_or}
use Rattle.desk_http.specs.declared.route.Action.{Action}
use Rattle.desk_http.specs.declared.route.Action.TheVariants.{PutFile, GetFile, FileText, Files, DropFile, Ruling, Reach, SignOff, SignOffs, Waive, Waivers, Revoke}

-- what is behind the front of a text, where it has this front
unfoldable pub behind : List ℕ → List ℕ → Option (List ℕ)
behind front text =
    if bytes_eq (take (length front) text) front then Some (drop (length front) text) else None

-- what is before the end of a text, where it has this end
unfoldable pub before : List ℕ → List ℕ → Option (List ℕ)
before end text =
    if bytes_eq (drop (length text - length end) text) end
    then Some (take (length text - length end) text)
    else None

-- what is between the front and the end of a text
abbrev pub between : List ℕ → List ℕ → List ℕ → Option (List ℕ)
between front end text = option_and_then (before end) (behind front text)

-- an action, and the part of the target that names what it is done to
abbrev pub Route : Type 0
Route = Action × List ℕ

-- what is lent, as it is seen
abbrev pub plain : Option (Bor (List ℕ)) → Option (List ℕ)
plain found = option_map (λ it. it.now) found

abbrev pub plain_route : Option (Action × Bor (List ℕ)) → Option Route
plain_route found = option_map (λ it. (it.0, it.1.now)) found

abbrev pub part_route : Action → Option (List ℕ) → Option Route
part_route action part = option_map (λ it. (action, it)) part

-- what is told of a file
abbrev pub file_route : List ℕ → Option Route
file_route target =
    option_or (part_route FileText (between (codes "/files/") (codes "/text") target))
    (part_route GetFile (behind (codes "/files/") target))

-- what is told of a module
abbrev pub module_route : List ℕ → Option Route
module_route target =
    option_or (part_route Ruling (between (codes "/modules/") (codes "/ruling") target))
    (part_route Reach (between (codes "/modules/") (codes "/reach") target))

abbrev pub get_route : List ℕ → Option Route
get_route target =
    if bytes_eq target (codes "/files") then Some (Files, []) else
    if bytes_eq target (codes "/signoffs") then Some (SignOffs, []) else
    if bytes_eq target (codes "/waivers") then Some (Waivers, []) else
    option_or (file_route target) (module_route target)

abbrev pub put_route : List ℕ → Option Route
put_route target = part_route PutFile (behind (codes "/files/") target)

abbrev pub post_route : List ℕ → Option Route
post_route target =
    if bytes_eq target (codes "/waivers") then Some (Waive, []) else
    part_route SignOff (between (codes "/modules/") (codes "/signoffs") target)

abbrev pub delete_route : List ℕ → Option Route
delete_route target =
    option_or (part_route DropFile (behind (codes "/files/") target))
    (part_route Revoke (behind (codes "/waivers/") target))

abbrev pub change_route : List ℕ → List ℕ → Option Route
change_route method target =
    if bytes_eq method (codes "PUT") then put_route target else
    if bytes_eq method (codes "POST") then post_route target else
    if bytes_eq method (codes "DELETE") then delete_route target else None

-- the route of a method and a target
abbrev pub route : List ℕ → List ℕ → Option Route
route method target =
    if bytes_eq method (codes "GET") then get_route target else change_route method target
