-- Tokens as values.
-- Worked examples: crates/tests_layers/stdin.
use Rattle.std.specs.Prelude.{ℕ, ◌+◌}
use Rattle.rtl_tree.specs.declared.token.Tok.{Tok}
use Rattle.rtl_tree.specs.declared.token.Token.{Token}

-- the token of a kind that begins at a place and has this many bytes
abbrev pub token : Tok → ℕ → ℕ → Token
token kind at size = record { kind = kind; from = at; to = at + size; at = at }
