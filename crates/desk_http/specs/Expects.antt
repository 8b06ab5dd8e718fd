-- Requests that wait to be told to go on before they send their body (RFC 9110, section 10.1.1).
-- Worked examples: crates/desk_http/proofs/Example.antt.
use Rattle.std.specs.Prelude.{ℕ, Bool, ◌&&◌, ◌==◌, not, codes, List}
use Rattle.std.specs.List.{list_any}
use Rattle.std.specs.Str.{str_eq_ignore_ascii_case}
use Rattle.desk_http.specs.Heads.{Heard}
use Rattle.desk_http.specs.Lines.{Line, is_named}

-- the line waits for a reply of status 100; what else may be expected is passed over
abbrev pub expects_continue : Line → Bool
expects_continue line =
    is_named (codes "expect") line && str_eq_ignore_ascii_case line.1 (codes "100-continue")

-- a head of HTTP/1.1 waits before its body of this length, if it has any
abbrev pub waits : Heard → ℕ → Bool
waits head count =
    head.minor == 1 && not (count == 0) && list_any expects_continue head.lines

-- the reply that tells it to go on: it has neither header lines nor body
abbrev pub continue_reply : List ℕ
continue_reply = codes "HTTP/1.1 100 Continue\r\n\r\n"
