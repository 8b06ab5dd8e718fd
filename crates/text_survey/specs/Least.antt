-- The least place where tokens stop spelling modules.
-- Worked examples: crates/tests_layers/stdin.
use Rattle.std.specs.Prelude.{◌≡◌, ◌≤◌, ℕ, false, List, [], ◌∷◌, ◌++◌, take, length}
use Rattle.text_ground.specs.declared.dropped.Dropped.{Dropped}
use Rattle.rtl_tree.specs.Symbols.{Terminal, symbol}
use Rattle.rtl_tree.specs.TreeModule.{WrittenCircuit}
use Rattle.text_grammar.specs.GrammarModule.{AreSpelled}
use Rattle.text_survey.specs.Terminals.{is_refused}
use Rattle.text_survey.specs.Surveys.{IsDead}

-- a token that a text of this language can have: its symbol is that of its text, and it isn't refused
abbrev pub IsWord : Terminal → Type 0
IsWord t = (t.symbol ≡ symbol t.kind t.text) × (is_refused t.symbol ≡ false)

abbrev pub AreWords : List Terminal → Type 0
AreWords [] = Unit {0}
AreWords (t ∷ ts) = IsWord t × AreWords ts

-- tokens spell some modules, whatever was dropped from them
abbrev pub Spell : List Terminal → Type 0
Spell tokens = (regions : List Dropped) → (circuits : List WrittenCircuit) × AreSpelled regions tokens circuits

-- the first `n` tokens and some words after them spell modules
abbrev pub GoesOn : List Terminal → ℕ → Type 0
GoesOn tokens n = (others : List Terminal) × AreWords others × Spell (take n tokens ++ others)

-- the first token that no modules can have there: those before it go on to modules, and with it nothing does; the end, where all of
-- them go on and spell none
pub record IsLeast (tokens : List Terminal) (n : ℕ) : Type 0 where
  pub within : n ≤ length tokens
  pub goes_on : GoesOn tokens n
  pub dead : IsDead tokens n
