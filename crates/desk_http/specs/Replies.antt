-- Heads of replies (RFC 9112, sections 4 and 5).
-- Worked examples: crates/desk_http/proofs/Example.antt.
use Rattle.std.specs.Prelude.{ℕ, List, ◌++◌, length, codes, decimal, IsSome, Option, Some, None, if◌then◌else◌, ◌==◌}
use Rattle.desk_requests.specs.declared.reply.BodyKind.{BodyKind}
use Rattle.desk_requests.specs.declared.reply.BodyKind.TheVariants.{Json, Plain}
use Rattle.desk_requests.specs.declared.reply.Reply.{Reply}

-- the phrase of a status that the desk answers (RFC 9110, section 15)
abbrev pub phrase : ℕ → Option (List ℕ)
phrase status =
    if status == 200 then Some (codes "OK") else
    if status == 201 then Some (codes "Created") else
    if status == 400 then Some (codes "Bad Request") else
    if status == 404 then Some (codes "Not Found") else
    if status == 409 then Some (codes "Conflict") else
    if status == 413 then Some (codes "Payload Too Large") else
    if status == 422 then Some (codes "Unprocessable Entity") else
    if status == 503 then Some (codes "Service Unavailable") else
    if status == 507 then Some (codes "Insufficient Storage") else None

-- the desk answers with this status
abbrev pub IsStatus : ℕ → Type 0
IsStatus status = IsSome (phrase status)

abbrev pub or_nothing : Option (List ℕ) → List ℕ
or_nothing None = codes ""
or_nothing (Some text) = text

-- the first line
unfoldable pub status_line : ℕ → List ℕ
status_line status =
    codes "HTTP/1.1 " ++ decimal status ++ codes " " ++ or_nothing (phrase status) ++ codes "\r\n"

-- the line that says what the body is
unfoldable pub type_line : BodyKind → List ℕ
type_line Json = codes "Content-Type: application/json\r\n"
type_line Plain = codes "Content-Type: text/plain\r\n"

-- the line that says how long the body is
unfoldable pub length_line : ℕ → List ℕ
length_line count = codes "Content-Length: " ++ decimal count ++ codes "\r\n"

-- the head of a reply with a body of this length
unfoldable pub reply_head : ℕ → BodyKind → ℕ → List ℕ
reply_head status kind count =
    status_line status ++ type_line kind ++ length_line count ++ codes "Connection: close\r\n\r\n"

abbrev pub head_of : Reply → List ℕ
head_of reply = reply_head reply.status reply.kind (length reply.body.items)
