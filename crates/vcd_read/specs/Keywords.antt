-- The keywords of a dump (IEEE 1364-2001 section 18.2.3).
-- Worked examples: crates/vcd_read/proofs/Examples.antt.
use Rattle.std.specs.Prelude.{ℕ, ◌==◌, Bool, false, ◌||◌, if◌then◌else◌, List, [], ◌∷◌, codes}
use Rattle.std.specs.Str.{bytes_eq}
use Rattle.vcd_read.specs.declared.part.Keyword.{Keyword}
use Rattle.vcd_read.specs.declared.part.Keyword.TheVariants.{Scope, Upscope, Var, EndDefinitions, Comment, Dump, End, Other, No}

-- whether a text begins with a byte
abbrev pub opens_with : ℕ → List ℕ → Bool
opens_with byte [] = false
opens_with byte (first ∷ others) = first == byte

-- whether a word stands before values that are dumped
abbrev pub is_dump : List ℕ → Bool
is_dump word =
    bytes_eq word (codes "$dumpvars") || (bytes_eq word (codes "$dumpall")
    || (bytes_eq word (codes "$dumpon") || bytes_eq word (codes "$dumpoff")))

-- what a word asks for that is no name of a command with names; a keyword begins with a dollar sign
unfoldable pub rare_keyword : List ℕ → Keyword
rare_keyword word =
    if bytes_eq word (codes "$enddefinitions") then EndDefinitions
    else if bytes_eq word (codes "$comment") then Comment
    else if is_dump word then Dump
    else if opens_with 36 word then Other
    else No

-- what a word asks for
unfoldable pub keyword_of : List ℕ → Keyword
keyword_of word =
    if bytes_eq word (codes "$end") then End
    else if bytes_eq word (codes "$var") then Var
    else if bytes_eq word (codes "$scope") then Scope
    else if bytes_eq word (codes "$upscope") then Upscope
    else rare_keyword word
