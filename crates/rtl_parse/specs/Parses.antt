-- What parsing answers of a prepared text.
-- Worked examples: crates/tests_layers/stdin.
use Rattle.std.specs.Prelude.{◌≡◌, ◌⊎◌, ℕ, min, List, [], length, map, position, Bool, Option, Some, None, IsSomeAnd, codes}
use Rattle.std.specs.List.{flat_map, slice_get}
use Rattle.rtl_tree.specs.Prepared.{Ready}
use Rattle.rtl_tree.specs.Symbols.{Terminal, terminals}
use Rattle.rtl_tree.specs.TreeWritten.{WrittenItem, Plain, Primitives, Genvars, Region, If, IfElse, Case, For}
use Rattle.rtl_tree.specs.TreeModule.{Construct, Circuit, WrittenCircuit}
use Rattle.text_grammar.specs.GrammarModule.{Spells}
use Rattle.text_grammar.specs.Deeper.{too_deep, IsLeastPlace}
use Rattle.rtl_unroll.specs.Plain.{plain_circuit}
use Rattle.text_survey.specs.Terminals.{is_refused}
use Rattle.text_survey.specs.Surveys.{AreClosed}
use Rattle.text_survey.specs.Least.{IsLeast}
use Rattle.rtl_parse.specs.declared.fault.ParseFault.{ParseFault}
use Rattle.rtl_parse.specs.declared.fault.ParseFault.TheVariants.{Refused, Syntax, TooDeep, Memory}

-- the tokens of a prepared text, as the grammar sees them
abbrev pub tokens : Ready → List Terminal
tokens ready = terminals ready.text ready.tokens

abbrev pub is_outside : Terminal → Bool
is_outside t = is_refused t.symbol

-- the first token that stands for a construct outside this language
abbrev pub first_outside : Ready → Option ℕ
first_outside ready = position is_outside (tokens ready)

-- a token has this text and place; after the last one the text is empty, and the place is the text's end, as far as places go
abbrev pub IsThere : List ℕ → Option Terminal → List ℕ → ℕ → Type 0
IsThere all (Some t) text at = (t.text ≡ text) × (t.at ≡ at)
IsThere all None text at = (text ≡ []) × (at ≡ min (length all) 4294967295)

-- the word that a generate construct begins with; none of what stands in no construct
abbrev pub construct_word : WrittenItem → List ℕ
construct_word (Plain item) = []
construct_word (Primitives at kind pause gates) = []
construct_word (Genvars at names) = codes "genvar"
construct_word (Region at items) = []
construct_word (If at condition taken) = codes "if"
construct_word (IfElse at condition taken otherwise) = codes "if"
construct_word (Case at selector cases) = codes "case"
construct_word (For at index start condition stepped step body) = codes "for"

-- the place of that word
abbrev pub construct_place : WrittenItem → ℕ
construct_place (Plain item) = 0
construct_place (Primitives at kind pause gates) = 0
construct_place (Genvars at names) = at
construct_place (Region at items) = 0
construct_place (If at condition taken) = at
construct_place (IfElse at condition taken otherwise) = at
construct_place (Case at selector cases) = at
construct_place (For at index start condition stepped step body) = at

-- the first construct of the first module that has one
abbrev pub first_construct : List Circuit → Option Construct
first_construct circuits = slice_get (flat_map (λ circuit. circuit.constructs) circuits) 0

-- the first construct of modules begins with this word, there
abbrev pub IsFirstWord : List Circuit → List ℕ → ℕ → Type 0
IsFirstWord circuits word at =
    IsSomeAnd (first_construct circuits) (λ construct. (construct_word construct.written ≡ word) × (construct_place construct.written ≡ at))

-- the modules of a prepared text: those that it spells, where nothing is nested too deep, with assignments in place of
-- gates, and none has a construct, since elaboration follows none
pub record IsParsed (ready : Ready) (circuits : List Circuit) : Type 0 where
  pub written : List WrittenCircuit
  pub spelled : Spells ready written
  pub shallow : too_deep written ≡ []
  pub plain : circuits ≡ map plain_circuit written
  pub followed : first_construct circuits ≡ None

-- nothing is wrong with a prepared text but that its modules have a construct: the first begins with this word, there
pub record IsUnfollowed (ready : Ready) (word : List ℕ) (at : ℕ) : Type 0 where
  pub inside : first_outside ready ≡ None
  pub written : List WrittenCircuit
  pub spelled : Spells ready written
  pub shallow : too_deep written ≡ []
  pub first : IsFirstWord (map plain_circuit written) word at

-- why a prepared text isn't parsed: its first token that is outside this language; else the first token that no modules
-- can have there, while the modules before it are spelled; else the least place that is nested too deep in what is
-- spelled; else the first construct of the first module that has one
abbrev pub IsCause : Ready → ParseFault → Type 0
IsCause ready (Refused text at) =
    ((n : ℕ) × (first_outside ready ≡ Some n) × IsThere ready.text (slice_get (tokens ready) n) text.items at) ⊎ IsUnfollowed ready text.items at
IsCause ready (Syntax text at) =
    (n : ℕ) × (first_outside ready ≡ None) × IsLeast (tokens ready) n × AreClosed (tokens ready) n × IsThere ready.text (slice_get (tokens ready) n) text.items at
IsCause ready (TooDeep at) =
    (circuits : List WrittenCircuit) × (first_outside ready ≡ None) × Spells ready circuits × IsLeastPlace (too_deep circuits) at
IsCause ready Memory = Unit {0}

-- why plain modules aren't handed on: their first construct, or want of memory, which may come at any time
abbrev pub IsHeld : List Circuit → ParseFault → Type 0
IsHeld circuits (Refused text at) = IsFirstWord circuits text.items at
IsHeld circuits Memory = Unit {0}
IsHeld circuits _ = ⊥

-- a fault by what it tells
pub data Reason : Type 0 where
  Outside : (word : List ℕ) (at : ℕ) → Reason
  Unspelled : (token : List ℕ) (at : ℕ) → Reason
  Nested : (at : ℕ) → Reason
  OutOfMemory : Reason

abbrev pub reason : ParseFault → Reason
reason (Refused word at) = Outside word.items at
reason (Syntax token at) = Unspelled token.items at
reason (TooDeep at) = Nested at
reason Memory = OutOfMemory

-- memory didn't run out
abbrev pub IsOfText : ParseFault → Type 0
IsOfText Memory = ⊥
IsOfText fault = Unit {0}
