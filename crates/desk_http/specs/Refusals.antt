-- What is answered to a request that isn't served.
-- Worked examples: crates/desk_http/proofs/Example.antt.
use Rattle.std.specs.Prelude.{ℕ, List, ◌++◌, codes}
use Rattle.desk_http.specs.declared.fault.BadRequest.{BadRequest}
use Rattle.desk_http.specs.declared.fault.BadRequest.TheVariants.{Malformed, NotFound, Memory}
use Rattle.desk_http.specs.Replies.{or_nothing, phrase}

abbrev pub refusal_status : BadRequest → ℕ
refusal_status Malformed = 400
refusal_status NotFound = 404
refusal_status Memory = 507

-- the phrase of the status, and a line feed
abbrev pub refusal_line : BadRequest → List ℕ
refusal_line fault = or_nothing (phrase (refusal_status fault)) ++ codes "\n"
