-- The limits of a text, as numbers: what clauses call by their names elsewhere.
-- Worked examples: crates/tests_layers/stdin.
use Rattle.std.specs.Prelude.{◌≡◌}
use Rattle.text_ground.specs.declared.text.TheConstants.{MAX_BYTES}
use Rattle.rtl_tree.specs.declared.token.TheConstants.{MAX_TOKENS, MAX_WORD}
use Rattle.text_grammar.specs.declared.nesting.TheConstants.{MAX_NESTING}
use Rattle.rtl_prep.specs.declared.replace.TheConstants.{MAX_REPLACEMENTS}

-- the bytes of a file, its tokens, the bytes of a word, the replacements of macros in a file, and how deep expressions and
-- statements nest (IEEE 1364-2001 section 2.7 lets the length of a word be limited so)
pub record AreLimits : Type 0 where
  pub bytes : MAX_BYTES ≡ 1048576
  pub tokens : MAX_TOKENS ≡ 200000
  pub word : MAX_WORD ≡ 1024
  pub replacements : MAX_REPLACEMENTS ≡ 200000
  pub nesting : MAX_NESTING ≡ 200
