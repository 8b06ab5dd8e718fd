-- The bodies of refusals: a word, its value behind a space where it has one, and a line feed.
-- Worked examples: crates/desk_bodies/proofs/Example.antt.
use Rattle.std.specs.Prelude.{ℕ, List, ◌++◌, codes}
use Rattle.desk_requests.specs.declared.reply.BodyKind.TheVariants.{Plain}
use Rattle.desk_requests.specs.Replies.{Said}

abbrev pub word_line : List ℕ → List ℕ
word_line word = word ++ codes "\n"

abbrev pub value_line : List ℕ → List ℕ → List ℕ
value_line word value = word ++ codes " " ++ value ++ codes "\n"

-- the tables stand against it
abbrev pub conflict_with : List ℕ → Said
conflict_with line = record { status = 409; kind = Plain; body = line }

-- nothing is there
abbrev pub not_found : Said
not_found = record { status = 404; kind = Plain; body = codes "Not Found\n" }
