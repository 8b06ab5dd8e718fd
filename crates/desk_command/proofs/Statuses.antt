-- No refusal of what comes on a link has the status of a failure.
use Rattle.std.proofs.Common.{◌≡◌, ℕ, Bool, true, false, List, Option, Some, None, Result, Ok, Err, length, take, nat_lt, refl, sym, subst}
use Rattle.std.specs.Prelude.{⊤, ◌==◌, if◌then◌else◌}
use Rattle.desk_requests.specs.declared.ask.Request.{Request}
use Rattle.desk_http.specs.Heads.{Heard, said}
use Rattle.desk_http.specs.Hosts.{served_length}
use Rattle.desk_http.specs.Requests.{request_of}
use Rattle.desk_http.specs.declared.fault.BadRequest.{BadRequest}
use Rattle.desk_http.specs.declared.fault.BadRequest.TheVariants.{Malformed, Memory, NotFound}
use Rattle.desk_http.specs.Limits.{MAX_BODY_BYTES}
use Rattle.desk_server.specs.Exchanges.{Asked, Asks, Headed, Headless, IsAsked, Refuses, asked_of, framed}

-- it isn't refused with the status of a failure
abbrev pub IsPlain : Asked → Type 0
IsPlain (Asks request) = ⊤
IsPlain (Refuses status) = (status == 503) ≡ false

asked_plain : (result : Result Request BadRequest) → IsPlain (asked_of result)
asked_plain (Ok request) = tt
asked_plain (Err Malformed) = refl
asked_plain (Err NotFound) = refl
asked_plain (Err Memory) = refl

limited_plain : (refuses : Bool) (status : ℕ) (asked : Asked) → (status == 503) ≡ false → IsPlain asked → IsPlain (if refuses then Refuses status else asked)
limited_plain true status asked other plain = other
limited_plain false status asked other plain = plain

framed_plain : (head : Heard) (rest : List ℕ) (count : Option ℕ) → IsPlain (framed head rest count)
framed_plain head rest None = refl
framed_plain head rest (Some count) =
    let asked = asked_of (request_of head (take count rest)) in
    limited_plain (nat_lt MAX_BODY_BYTES count) 413 (if nat_lt (length rest) count then Refuses 400 else asked) refl
    (limited_plain (nat_lt (length rest) count) 400 asked refl (asked_plain (request_of head (take count rest))))

pub refused_plain : (input : List ℕ) (asked : Asked) → IsAsked input asked → IsPlain asked
refused_plain input asked (Headed written begins is) =
    subst IsPlain (sym is) (framed_plain (said written) begins.rest (served_length (said written).lines))
refused_plain input asked (Headless none is) = subst IsPlain (sym is) refl
