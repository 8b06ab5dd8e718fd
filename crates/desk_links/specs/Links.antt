-- What is said on a link.
-- Worked examples: crates/tests_serving/stdin.
use Rattle.std.specs.Prelude.{◌≡◌, ℕ, List, [], ◌++◌, take, Option, None, Some, Result, Ok, Err, ⊤}
use Rattle.desk_io.specs.declared.failed.Failed.{Failed}

-- what was read, what is left to be read, and what was written
pub record Talk : Type 0 where
  pub read : List ℕ
  pub left : List ℕ
  pub written : List ℕ

-- all that comes on the link
abbrev pub input_of : Talk → List ℕ
input_of talk = talk.read ++ talk.left

-- nothing was read or written yet
abbrev pub fresh_talk : List ℕ → Talk
fresh_talk input = record { read = []; left = input; written = [] }

-- bytes were heard and bytes were said
pub record Moves (before after : Talk) (heard said : List ℕ) : Type 0 where
  pub left : before.left ≡ heard ++ after.left
  pub read : after.read ≡ before.read ++ heard
  pub written : after.written ≡ before.written ++ said

-- the talk goes on by bytes that are heard and bytes that are said; what is told stays told
abbrev pub GoesOn : Option Talk → Option Talk → List ℕ → List ℕ → Type 0
GoesOn None after heard said = ⊤
GoesOn (Some before) None heard said = ⊥
GoesOn (Some before) (Some after) heard said = Moves before after heard said

-- the bytes that a call moves
abbrev pub moved : Result ℕ Failed → List ℕ → List ℕ
moved (Ok count) bytes = take count bytes
moved (Err fault) bytes = []

-- all was read
abbrev pub IsAtEnd : Option Talk → Type 0
IsAtEnd None = ⊤
IsAtEnd (Some talk) = talk.left ≡ []
