-- Heads of requests (RFC 9112, sections 2 to 6): what is at the front of bytes.
-- Worked examples: crates/tests_serving/stdin.
use Rattle.std.specs.Prelude.{◌≡◌, ℕ, ◌<◌, ◌≤◌, ◌⊎◌, List, ◌++◌, length, take, map, option_map, Some, None}
use Rattle.httparse.specs.Grammar.{RequestHead, ReadsRequest, print_request}
use Rattle.httparse.specs.Spans.{name_and_value, span_bytes}
use Rattle.httparse.specs.declared.spans.HeaderSpan.{HeaderSpan}
use Rattle.desk_http.specs.Hosts.{served_length}
use Rattle.desk_http.specs.Lines.{Line, capped, lines_at}
use Rattle.desk_http.specs.declared.head.Head.{Head}
use Rattle.desk_http.specs.declared.head.HeadState.{HeadState}
use Rattle.desk_http.specs.declared.head.HeadState.TheVariants.{More, Bad, Ready}
use Rattle.desk_http.specs.Limits.{MAX_HEAD_BYTES, MAX_HEADER_LINES}

-- what is heard of a head
pub record Heard : Type 0 where
  pub method : List ℕ
  pub target : List ℕ
  -- 0 for HTTP/1.0, 1 for HTTP/1.1
  pub minor : ℕ
  pub lines : List Line

-- what a head of the grammar says
abbrev pub said : RequestHead → Heard
said written = record {
  method = written.method;
  target = written.target;
  minor = written.minor;
  lines = map name_and_value written.fields;
}

abbrev pub spans_of : Head → List HeaderSpan
spans_of head = take head.found.headers head.lines

-- what a head that was read says
abbrev pub heard : Head → Heard
heard head = record {
  method = span_bytes head.bytes.now head.found.method;
  target = span_bytes head.bytes.now head.found.path;
  minor = head.found.version;
  lines = lines_at head.bytes.now (spans_of head);
}

-- the bytes begin with this head: it ends in their first 16,384, and has at most 64 header lines
pub record BeginsWith (bytes : List ℕ) (written : RequestHead) : Type 0 where
  pub rest : List ℕ
  pub reads : ReadsRequest bytes written rest
  pub early : length (print_request written) ≤ MAX_HEAD_BYTES
  pub few : length written.fields ≤ MAX_HEADER_LINES

-- the bytes begin with no such head
abbrev pub HasNoHead : List ℕ → Type 0
HasNoHead bytes = (written : RequestHead) → ¬ (BeginsWith bytes written)

-- the bytes begin with a head, and this is what was heard of it
pub record Shows (bytes : List ℕ) (head : Head) : Type 0 where
  pub written : RequestHead
  pub begins : BeginsWith bytes written
  pub same : heard head ≡ said written
  pub used : head.found.len ≡ length (print_request written)

-- the bytes begin with a head that names another host, or doesn't say how long its body is
pub record IsUnframed (bytes : List ℕ) : Type 0 where
  pub written : RequestHead
  pub begins : BeginsWith bytes written
  pub refused : served_length (said written).lines ≡ None

-- the bytes begin with a head of this length, which says what was heard of it and how long its body is
pub record IsReady (bytes : List ℕ) (head : Head) (used body : ℕ) : Type 0 where
  pub written : RequestHead
  pub begins : BeginsWith bytes written
  pub same : heard head ≡ said written
  pub ends : used ≡ length (print_request written)
  pub stated : option_map capped (served_length (said written).lines) ≡ Some body

-- what is answered of the bytes
abbrev pub IsStateOf : List ℕ → HeadState → Type 0
IsStateOf bytes More = (length bytes < MAX_HEAD_BYTES) × HasNoHead bytes
IsStateOf bytes Bad = IsUnframed bytes ⊎ ((more : List ℕ) → HasNoHead (bytes ++ more))
IsStateOf bytes (Ready head used body) = IsReady bytes head used body

-- what is answered of a head
abbrev pub IsFramed : Head → HeadState → Type 0
IsFramed head More = ⊥
IsFramed head Bad = served_length (heard head).lines ≡ None
IsFramed head (Ready same used body) =
    (same ≡ head) × (used ≡ head.found.len) × (option_map capped (served_length (heard head).lines) ≡ Some body)
