-- What serves requests, as the server sees it.
-- Worked examples: crates/tests_serving/stdin.
use Rattle.std.specs.Prelude.{◌≤◌, ◌==◌, ◌||◌, [], ℕ, ℤ, Bool, List, length, codes, ⊤}
use Rattle.desk_tables.specs.Limits.{MAX_BYTES}
use Rattle.desk_tables.specs.Tables.{Kept}
use Rattle.desk_requests.specs.Replies.{Said}
use Rattle.desk_requests.specs.declared.ask.Ask.{Ask}
use Rattle.desk_requests.specs.declared.ask.Ask.TheVariants.{PutFile}
use Rattle.desk_requests.specs.declared.ask.Request.{Request}
use Rattle.desk_requests.specs.declared.reply.BodyKind.TheVariants.{Plain}

-- what may be done with a request on a day, where the keeper's count of faults goes from the first
-- number to the second: what the tables are before and after it, and what is answered
abbrev pub Serving : Type 1
Serving = Request → ℤ → ℕ → ℕ → Kept → Kept → Said → Type 0

-- the text of a file that is put is no longer than a file may be
abbrev pub IsShort : Ask → Type 0
IsShort (PutFile name text) = length text ≤ MAX_BYTES
IsShort _ = ⊤

-- the statuses of what is accepted
abbrev pub is_accepted : ℕ → Bool
is_accepted status = status == 200 || status == 201

-- the statuses of all replies
abbrev pub is_answered : ℕ → Bool
is_answered status =
    is_accepted status || status == 404 || status == 409 || status == 422 || status == 503
    || status == 507

-- a text is answered
abbrev pub plainly : ℕ → List ℕ → Said
plainly status text = record { status = status; kind = Plain; body = text }

-- the keeper failed
abbrev pub unavailable : Said
unavailable = plainly 503 (codes "Service Unavailable\n")

-- there is no memory
abbrev pub no_memory : Said
no_memory = plainly 507 []
