-- What a survey says of tokens.
-- Worked examples: crates/tests_layers/stdin.
use Rattle.std.specs.Prelude.{◌≡◌, ◌≤◌, ◌<◌, ◌+◌, ◌-◌, ℕ, Some, reverse, map, List, [], ◌∷◌, take, drop, length}
use Rattle.std.specs.List.{slice_get}
use Rattle.text_ground.specs.declared.dropped.Dropped.{Dropped}
use Rattle.rtl_tree.specs.declared.literal.Literal.{Literal}
use Rattle.rtl_tree.specs.declared.symbol.Symbol.TheVariants as symbol
use Rattle.rtl_tree.specs.declared.token.Tok.TheVariants as tok
use Rattle.rtl_tree.specs.Symbols.{Terminal, terminal}
use Rattle.rtl_tree.specs.TreeModule.{WrittenCircuit}
use Rattle.text_grammar.specs.GrammarModule.{AreSpelled}
use Rattle.text_grammar.specs.Deeper.{too_deep, IsLeastPlace}
use Rattle.text_survey.specs.declared.machine.Machine.{Machine}
use Rattle.text_survey.specs.declared.machine.Surveyed.{Surveyed}
use Rattle.text_survey.specs.declared.machine.Surveyed.TheVariants.{Spelled, TooDeep, Stopped}
use Rattle.text_survey.specs.declared.task.Task.TheVariants as task
use Rattle.text_survey.specs.Machine.{State, at, symbol_at, Leads}

abbrev pub state : Machine → State
state machine = at (reverse machine.tasks.items) (map terminal machine.rest.now)

-- the survey begins
abbrev pub start : List Terminal → State
start tokens = at (task.Source ∷ []) tokens

-- no tokens spell modules that begin with the first `n` of these and go on with a token of the same symbol, or end where these end
abbrev pub IsDead : List Terminal → ℕ → Type 0
IsDead tokens n =
    (other : List Terminal) → take n other ≡ take n tokens → symbol_at (drop n other) ≡ symbol_at (drop n tokens)
    → (regions : List Dropped) (circuits : List WrittenCircuit) → AreSpelled regions other circuits → ⊥

-- a token that is a number has a value
abbrev pub IsNumbered : Terminal → Type 0
IsNumbered t = t.symbol ≡ symbol.Number → (value : Literal) × t.kind ≡ tok.Number value

abbrev pub AreNumbered : List Terminal → Type 0
AreNumbered [] = Unit {0}
AreNumbered (t ∷ ts) = IsNumbered t × AreNumbered ts

-- tokens spell some modules of which this holds, whatever was dropped from them
abbrev pub SpellSomeThat : (List WrittenCircuit → Type 0) → List Terminal → Type 0
SpellSomeThat P tokens = AreNumbered tokens → (regions : List Dropped) → (circuits : List WrittenCircuit) × AreSpelled regions tokens circuits × P circuits

abbrev pub SpellSome : List Terminal → Type 0
SpellSome tokens = AreNumbered tokens → (regions : List Dropped) → (circuits : List WrittenCircuit) × AreSpelled regions tokens circuits

-- the tokens through each `endmodule` of the first `n` spell some modules
abbrev pub AreClosed : List Terminal → ℕ → Type 0
AreClosed tokens n = (m : ℕ) (t : Terminal) → m < n → slice_get tokens m ≡ Some t → t.symbol ≡ symbol.Endmodule → SpellSome (take (m + 1) tokens)

-- the survey comes to a state in which it has taken the first `n`
abbrev pub IsReached : List Terminal → ℕ → Type 0
IsReached tokens n = (s : State) × Leads (start tokens) s × (n ≡ length tokens - length s.rest)

-- what a survey answers
abbrev pub IsSurvey : List Terminal → Surveyed → Type 0
IsSurvey tokens Spelled = SpellSomeThat (λ circuits. too_deep circuits ≡ []) tokens
IsSurvey tokens (TooDeep place) = SpellSomeThat (λ circuits. IsLeastPlace (too_deep circuits) place) tokens
IsSurvey tokens (Stopped n) = (n ≤ length tokens) × IsDead tokens n × AreClosed tokens n × IsReached tokens n
