-- The lines of a text, and the parts of a line.
-- Worked examples: crates/tests_parts/stdin.
use Rattle.std.specs.Prelude.{ℕ, ◌==◌, cond, List, [], ◌∷◌, Option, None, Some}

-- a byte before the first part
abbrev pub on_first : ℕ → List (List ℕ) → List (List ℕ)
on_first byte [] = (byte ∷ []) ∷ []
on_first byte (part ∷ parts) = (byte ∷ part) ∷ parts

-- the lines of a text, each ended by a line feed, which the last may lack
abbrev pub lines : List ℕ → List (List ℕ)
lines [] = []
lines (byte ∷ text) = cond (byte == 10) ([] ∷ lines text) (on_first byte (lines text))

-- the parts between the places at which a byte stands
abbrev pub parts : ℕ → List ℕ → List (List ℕ)
parts mark [] = [] ∷ []
parts mark (byte ∷ text) = cond (byte == mark) ([] ∷ parts mark text) (on_first byte (parts mark text))

-- a text up to the first place at which a byte stands, and what is behind it
pub record Cut : Type 0 where
  pub before : List ℕ
  pub behind : List ℕ

abbrev pub longer : ℕ → Option Cut → Option Cut
longer byte None = None
longer byte (Some cut) = Some (record { before = byte ∷ cut.before; behind = cut.behind })

abbrev pub cut_at : ℕ → List ℕ → Option Cut
cut_at mark [] = None
cut_at mark (byte ∷ text) =
    cond (byte == mark) (Some (record { before = []; behind = text })) (longer byte (cut_at mark text))
