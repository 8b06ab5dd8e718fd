-- The declarations of a dump, command by command (IEEE 1364-2001 section 18.2.3).
-- Worked examples: crates/vcd_read/proofs/Examples.antt.
use Rattle.std.specs.Prelude.{ℕ, suc, ◌+◌, ◌-◌, ◌==◌, nat_lt, Bool, ◌||◌, cond, if◌then◌else◌, List, [], ◌∷◌, ◌++◌, codes, length, take, Option, None, Some, Result, Ok, Err}
use Rattle.std.specs.Str.{bytes_eq}
use Rattle.vcd_read.specs.declared.dump.Entry.{Entry}
use Rattle.vcd_read.specs.declared.dump.Entry.TheVariants.{Scope as ScopeEntry, Upscope as UpscopeEntry, Variable as VariableEntry}
use Rattle.vcd_read.specs.declared.fault.VcdFault.{VcdFault}
use Rattle.vcd_read.specs.declared.fault.VcdFault.TheVariants.{Malformed, TooLarge}
use Rattle.vcd_read.specs.declared.header.Header.{Header as Kept}
use Rattle.vcd_read.specs.declared.part.Declaring.{Declaring}
use Rattle.vcd_read.specs.declared.part.Declaring.TheVariants.{Command, Passed, Closed, Last, ScopeKind, ScopeName, VariableType, VariableWidth, VariableCode, VariableName}
use Rattle.vcd_read.specs.declared.part.Keyword.{Keyword}
use Rattle.vcd_read.specs.declared.part.Keyword.TheVariants.{Scope, Upscope, Var, EndDefinitions, Comment, Dump, End, Other, No}
use Rattle.vcd_read.specs.Codes.{Codes, codes_of, named, no_codes, noted}
use Rattle.vcd_read.specs.Keywords.{keyword_of}
use Rattle.vcd_read.specs.Numbers.{number_of}

-- what is declared: the codes, the scopes and variables in order, how many scopes haven't ended, and how many
-- variables there are
pub record Header : Type 0 where
  pub codes : Codes
  pub entries : List Entry
  pub scopes : ℕ
  pub variables : ℕ

-- before the first command
abbrev pub nothing : Header
nothing = record { codes = no_codes; entries = []; scopes = 0; variables = 0 }

-- what may follow, and what is declared then, or a fault
abbrev pub Declared : Type 0
Declared = Result (Declaring × Header) VcdFault

-- no fault
abbrev pub next : Declaring → Header → Declared
next part header = Ok (part, header)

-- `$upscope` ends the innermost scope
abbrev pub upscoped : Header → ℕ → Declared
upscoped header at =
    if header.scopes == 0
    then Err (Malformed at)
    else next Closed (record {
      codes = header.codes;
      entries = header.entries ++ UpscopeEntry ∷ [];
      scopes = header.scopes - 1;
      variables = header.variables;
    })

-- `$var`: there are 20,000 variables at most
abbrev pub variable_begun : Header → ℕ → Declared
variable_begun header at =
    if nat_lt header.variables 20000
    then next VariableType (record {
      codes = header.codes;
      entries = header.entries;
      scopes = header.scopes;
      variables = header.variables + 1;
    })
    else Err (TooLarge at)

-- the first word of a command; those of other commands don't count
abbrev pub begun : Header → ℕ → Keyword → Declared
begun header at Scope = next ScopeKind header
begun header at Upscope = upscoped header at
begun header at Var = variable_begun header at
begun header at EndDefinitions = next Last header
begun header at Comment = next Passed header
begun header at Dump = next Passed header
begun header at Other = next Passed header
begun header at End = Err (Malformed at)
begun header at No = Err (Malformed at)

-- the name of a scope
abbrev pub scoped : Header → List ℕ → Declared
scoped header word =
    next Closed (record {
      codes = header.codes;
      entries = header.entries ++ ScopeEntry word ∷ [];
      scopes = header.scopes + 1;
      variables = header.variables;
    })

-- the type of a variable: a real one is skipped
abbrev pub typed : List ℕ → Declaring
typed word = VariableWidth (bytes_eq word (codes "real") || bytes_eq word (codes "realtime"))

-- the width of a variable, from 1: one that is wider than 128 bits is skipped, as if it had none
abbrev pub sized_by : Bool → ℕ → Option ℕ → Result Declaring VcdFault
sized_by real at None = Err (Malformed at)
sized_by real at (Some width) =
    if width == 0 then Err (Malformed at)
    else if real || nat_lt 128 width then Ok (VariableCode 0)
    else Ok (VariableCode width)

-- the word of a width
abbrev pub sized : Bool → ℕ → List ℕ → Result Declaring VcdFault
sized real at word = sized_by real at (number_of word)

-- the code of a variable
abbrev pub variable_coded : Header → ℕ → List ℕ → Declared
variable_coded header width word =
    next (VariableName width (noted (header.codes word) header.variables width).number) (record {
      codes = named header.codes word (noted (header.codes word) header.variables width);
      entries = header.entries;
      scopes = header.scopes;
      variables = header.variables;
    })

-- the first place at which a byte stands, or the length of the text
abbrev pub place_of : ℕ → List ℕ → ℕ
place_of mark [] = 0
place_of mark (byte ∷ text) = cond (byte == mark) 0 (suc (place_of mark text))

-- a variable's name is what stands before its range, if that follows at once
abbrev pub name_of : List ℕ → List ℕ
name_of word = take (place_of 91 word) word

-- the name of a variable; its range, if it is a word of its own, is passed over
abbrev pub variable_named : Header → ℕ → ℕ → List ℕ → Declared
variable_named header width code word =
    next Passed (record {
      codes = header.codes;
      entries = if nat_lt 0 width
          then header.entries ++ VariableEntry (record { name = name_of word; width = width; code = code }) ∷ []
          else header.entries;
      scopes = header.scopes;
      variables = header.variables;
    })

-- what follows, where nothing more is declared
abbrev pub alike : Header → Result Declaring VcdFault → Declared
alike header (Ok part) = next part header
alike header (Err fault) = Err fault

-- a word of the declarations that isn't `$end`, where a part of a command may stand
abbrev pub declared : Declaring → ℕ → List ℕ → Header → Declared
declared Command at word header = begun header at (keyword_of word)
declared Passed at word header = next Passed header
declared Closed at word header = Err (Malformed at)
declared Last at word header = Err (Malformed at)
declared ScopeKind at word header = next ScopeName header
declared ScopeName at word header = scoped header word
declared VariableType at word header = next (typed word) header
declared (VariableWidth real) at word header = alike header (sized real at word)
declared (VariableCode width) at word header = variable_coded header width word
declared (VariableName width code) at word header = variable_named header width code word

-- what the code keeps
abbrev pub header_of : Kept → Header
header_of kept = record {
  codes = codes_of kept.codes;
  entries = kept.entries.items;
  scopes = length kept.scopes.items;
  variables = kept.variables;
}
