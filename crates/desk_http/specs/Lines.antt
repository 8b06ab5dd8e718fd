-- Header lines, and the length of the body that they state (RFC 9112, section 6).
-- Worked examples: crates/desk_http/proofs/Example.antt.
use Rattle.std.specs.Prelude.{ℕ, Bool, ◌&&◌, ◌||◌, not, bytes_eq, codes, is_some, List, [], ◌∷◌, map, min, Option, Some, None, if◌then◌else◌}
use Rattle.std.specs.List.{list_all}
use Rattle.std.specs.Str.{str_eq_ignore_ascii_case}
use Rattle.httparse.specs.Spans.{header_bytes}
use Rattle.httparse.specs.declared.spans.HeaderSpan.{HeaderSpan}
use Rattle.desk_numbers.specs.Numbers.{is_number, number_of, significant}

-- the name and the value of a header line
abbrev pub Line : Type 0
Line = List ℕ × List ℕ

-- the lines that spans cover
abbrev pub lines_at : List ℕ → List HeaderSpan → List Line
lines_at bytes spans = map (header_bytes bytes) spans

-- the line has this name, but for the case of letters
abbrev pub is_named : List ℕ → Line → Bool
is_named name line = str_eq_ignore_ascii_case line.0 name

-- the value of the first line of this name
abbrev pub first_named : List ℕ → List Line → Option (List ℕ)
first_named name [] = None
first_named name (line ∷ lines) =
    if is_named name line then Some line.1 else first_named name lines

-- the line states no other length than this one: lengths are compared as numbers
abbrev pub agrees : List ℕ → Line → Bool
agrees first line =
    not (is_named (codes "content-length") line)
    || (is_number line.1 && bytes_eq (significant line.1) (significant first))

abbrev pub length_by : Option (List ℕ) → List Line → Option ℕ
length_by None lines = Some 0
length_by (Some first) lines =
    if is_number first && list_all (agrees first) lines then Some (number_of first) else None

-- the length of the body: 0 where no line states one; None where it is coded otherwise, where a length
-- is no number, and where two differ
abbrev pub stated_length : List Line → Option ℕ
stated_length lines =
    if is_some (first_named (codes "transfer-encoding") lines)
    then None
    else length_by (first_named (codes "content-length") lines) lines

-- a length as it is told: any that is too great as the least that is
abbrev pub capped : ℕ → ℕ
capped count = min count 1048577
