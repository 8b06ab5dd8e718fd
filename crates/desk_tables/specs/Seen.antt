-- It serves inner contracts and proofs; no answer of the program is stated by it.
-- Texts that were met.
use Rattle.std.specs.Prelude.{ℕ, Bool, is_some, List, ◌∷◌, ◌++◌, length}
use Rattle.name_map.specs.Values.{values_of}
use Rattle.desk_tables.specs.declared.rules.seen.Seen.{Seen}

-- whether a text was met
abbrev pub seen : Seen → List ℕ → Bool
seen it text = is_some (values_of it.texts text)

-- what tells a request of a user from all others
abbrev pub key_of : List ℕ → List ℕ → List ℕ
key_of user request = length user ∷ (user ++ request)
