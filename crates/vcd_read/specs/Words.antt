-- The words of a text, and their places in bytes from 0 (IEEE 1364-2001 section 18.2): blanks part them.
-- Worked examples: crates/vcd_read/proofs/Examples.antt.
use Rattle.std.specs.Prelude.{ℕ, suc, ◌==◌, Bool, ◌||◌, if◌then◌else◌, List, [], ◌∷◌}

-- space, tab, line feed, form feed or carriage return
abbrev pub is_blank : ℕ → Bool
is_blank byte = byte == 32 || (byte == 9 || (byte == 10 || (byte == 12 || byte == 13)))

-- a word, and the place of its first byte
pub record Word : Type 0 where
  pub at : ℕ
  pub text : List ℕ

-- a byte before the first word
abbrev pub on_first : ℕ → ℕ → List Word → List Word
on_first at byte [] = record { at = at; text = byte ∷ [] } ∷ []
on_first at byte (word ∷ others) = record { at = at; text = byte ∷ word.text } ∷ others

-- a byte of a word, before the words of what is behind it
abbrev pub joined : ℕ → ℕ → List ℕ → List Word → List Word
joined at byte [] behind = record { at = at; text = byte ∷ [] } ∷ []
joined at byte (next ∷ text) behind =
    if is_blank next then record { at = at; text = byte ∷ [] } ∷ behind else on_first at byte behind

-- the words of a text that stands at a place
abbrev pub words : ℕ → List ℕ → List Word
words at [] = []
words at (byte ∷ text) =
    if is_blank byte then words (suc at) text else joined at byte text (words (suc at) text)
