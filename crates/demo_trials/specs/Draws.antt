-- Numbers that a trial draws.
use Rattle.std.specs.Prelude.{ℕ, List, ◌++◌, codes, take}
use Rattle.std.specs.Fmt.{decimal}
use Rattle.std.specs.Int.{from_be_bytes, w128}
use Rattle.sha2.specs.Sha256.{sha256}

-- the text of a draw: the trial and the step in decimal, and a path or a word, with slashes between them
abbrev pub draw_text : ℕ → ℕ → List ℕ → List ℕ
draw_text trial step name = decimal trial ++ codes "/" ++ decimal step ++ codes "/" ++ name

-- the number of the first 16 bytes, the most significant first
unfoldable pub leading_number : List ℕ → ℕ
leading_number bytes = from_be_bytes w128 (take 16 bytes)

-- the number that a trial draws in a step for a path, or for a word: that of the digest's first bytes
abbrev pub drawn : ℕ → ℕ → List ℕ → ℕ
drawn trial step name = leading_number (sha256 (draw_text trial step name))
