-- Which hosts a request may name (RFC 9110, section 7.2; RFC 6454, section 7): those of this machine, as a page of another host
-- could else ask under a name of its own that leads here.
-- Worked examples: crates/desk_http/proofs/Example.antt.
use Rattle.std.specs.Prelude.{ℕ, Bool, false, ◌&&◌, ◌||◌, not, codes, List, Option, Some, None, if◌then◌else◌}
use Rattle.std.specs.Char.{is_ascii_digit}
use Rattle.std.specs.List.{list_all}
use Rattle.std.specs.Option.{option_or}
use Rattle.std.specs.Str.{str_eq_ignore_ascii_case}
use Rattle.desk_http.specs.Lines.{Line, is_named, stated_length}
use Rattle.desk_http.specs.Places.{parted}
use Rattle.desk_http.specs.Routes.{behind}

-- a name of this machine, but for the case of letters
abbrev pub is_local_name : List ℕ → Bool
is_local_name name =
    str_eq_ignore_ascii_case name (codes "127.0.0.1")
    || str_eq_ignore_ascii_case name (codes "localhost")
    || str_eq_ignore_ascii_case name (codes "[::1]")

-- the name before a port, where only digits stand behind the last colon; else the whole text
abbrev pub before_port : List ℕ → Option (List ℕ × List ℕ) → List ℕ
before_port text None = text
before_port text (Some parts) = if list_all is_ascii_digit parts.1 then parts.0 else text

-- a name of this machine, with a port or without
abbrev pub is_local_host : List ℕ → Bool
is_local_host text = is_local_name (before_port text (parted text))

-- what is behind the scheme of an origin
abbrev pub host_of_origin : List ℕ → Option (List ℕ)
host_of_origin text = option_or (behind (codes "http://") text) (behind (codes "https://") text)

abbrev pub is_local : Option (List ℕ) → Bool
is_local None = false
is_local (Some host) = is_local_host host

-- an origin on this machine
abbrev pub is_local_origin : List ℕ → Bool
is_local_origin text = is_local (host_of_origin text)

-- the line names no other host, nor an origin on another
abbrev pub is_local_line : Line → Bool
is_local_line line =
    (not (is_named (codes "host") line) || is_local_host line.1)
    && (not (is_named (codes "origin") line) || is_local_origin line.1)

-- the length of the body where no line names another host; none where one does, and where the lines don't state it
abbrev pub served_length : List Line → Option ℕ
served_length lines = if list_all is_local_line lines then stated_length lines else None
