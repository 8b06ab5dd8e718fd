-- Answers of calls that may want memory.
-- Worked examples: crates/tests_serving/stdin.
use Rattle.std.specs.Prelude.{◌≡◌, ⊤, Option, Some, None, Result, Ok, Err}
use Rattle.desk_http.specs.declared.fault.BadRequest.{BadRequest}
use Rattle.desk_http.specs.declared.fault.BadRequest.TheVariants.{Malformed, NotFound, Memory}

-- the answer is this one; only that memory is wanting may be told in place of any
abbrev pub Gives : {A : Type 0} → Result A BadRequest → Result A BadRequest → Type 0
Gives (Ok it) wanted = wanted ≡ Ok it
Gives (Err Memory) wanted = ⊤
Gives (Err NotFound) wanted = wanted ≡ Err NotFound
Gives (Err Malformed) wanted = wanted ≡ Err Malformed

-- the answer, with a function of its value
abbrev pub with_value : {A B : Type 0} → (A → B) → Result A BadRequest → Result B BadRequest
with_value f (Ok it) = Ok (f it)
with_value f (Err fault) = Err fault

-- what is there, or that the request is malformed
abbrev pub or_malformed : {A : Type 0} → Option A → Result A BadRequest
or_malformed None = Err Malformed
or_malformed (Some it) = Ok it

-- the answer of the next call for its value, or the same fault
infixl 10 ◌>>=◌
abbrev pub ◌>>=◌ : {A B : Type 0} → Result A BadRequest → (A → Result B BadRequest) → Result B BadRequest
(Ok it) >>= f = f it
(Err fault) >>= f = Err fault
