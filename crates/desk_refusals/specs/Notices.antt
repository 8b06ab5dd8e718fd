-- What is told of a fault: its name, the text that it carries, and its place.
-- Worked examples: crates/tests_rows/stdin.
use Rattle.std.specs.Prelude.{ℕ, List, [], ◌∷◌, codes, Option, None, Some}
use Rattle.text_ground.specs.declared.text.Spot.{Spot}
use Rattle.rtl_text.specs.declared.fault.LexFault.{LexFault}
use Rattle.rtl_text.specs.declared.fault.LexFault.TheVariants as lexing
use Rattle.rtl_prep.specs.declared.fault.PrepFault.{PrepFault}
use Rattle.rtl_prep.specs.declared.fault.PrepFault.TheVariants as preparing
use Rattle.rtl_parse.specs.declared.fault.ParseFault.{ParseFault}
use Rattle.rtl_parse.specs.declared.fault.ParseFault.TheVariants as parsing
use Rattle.rtl_front.specs.declared.fault.FileFault.{FileFault}
use Rattle.rtl_front.specs.declared.fault.FileFault.TheVariants.{Lex, Prepare, Parse}
use Rattle.rtl_const.specs.declared.fault.ConstFault.{ConstFault}
use Rattle.rtl_const.specs.declared.fault.ConstFault.TheVariants as constant
use Rattle.elab_scope.specs.Faults as elab

-- a fault by its name, with the text that it carries and its place, where it has them
pub record Notice : Type 0 where
  pub name : List ℕ
  pub word : Option (List ℕ)
  pub spot : Option Spot

abbrev pub told : List ℕ → Option (List ℕ) → Option Spot → Option Notice
told name word spot = Some (record { name = name; word = word; spot = spot })

-- ---- files; want of memory is no fault of theirs, and nothing is told of it

abbrev pub in_file : ℕ → ℕ → Option Spot
in_file file at = Some (record { file = file; at = at })

abbrev pub lex_notice : ℕ → LexFault → Option Notice
lex_notice file (lexing.NotAscii at) = told (codes "NotAscii") None (in_file file at)
lex_notice file (lexing.BadNumber at) = told (codes "BadNumber") None (in_file file at)
lex_notice file (lexing.BadCharacter at) = told (codes "BadCharacter") None (in_file file at)
lex_notice file (lexing.OpenComment at) = told (codes "OpenComment") None (in_file file at)
lex_notice file (lexing.TooManyTokens at) = told (codes "TooManyTokens") None (in_file file at)
lex_notice file lexing.Memory = None

abbrev pub prep_notice : ℕ → PrepFault → Option Notice
prep_notice file (preparing.Directive name at) = told (codes "Directive") (Some name.items) (in_file file at)
prep_notice file (preparing.Unbalanced at) = told (codes "Unbalanced") None (in_file file at)
prep_notice file (preparing.MacroLoop name at) = told (codes "MacroLoop") (Some name.items) (in_file file at)
prep_notice file (preparing.TooManyTokens at) = told (codes "TooManyTokens") None (in_file file at)
prep_notice file preparing.Memory = None

-- the text of a token; the empty one stands at the end of the file
abbrev pub token_text : List ℕ → List ℕ
token_text [] = codes "end of file"
token_text (byte ∷ bytes) = byte ∷ bytes

abbrev pub parse_notice : ℕ → ParseFault → Option Notice
parse_notice file (parsing.Refused word at) = told (codes "construct") (Some word.items) (in_file file at)
parse_notice file (parsing.Syntax token at) = told (codes "Syntax") (Some (token_text token.items)) (in_file file at)
parse_notice file (parsing.TooDeep at) = told (codes "TooDeep") None (in_file file at)
parse_notice file parsing.Memory = None

abbrev pub file_notice : ℕ → FileFault → Option Notice
file_notice file (Lex fault) = lex_notice file fault
file_notice file (Prepare fault) = prep_notice file fault
file_notice file (Parse fault) = parse_notice file fault

-- ---- designs

-- the fault of an expression that has to be constant; its place is that of the rule that it breaks
abbrev pub const_notice : Option Spot → ConstFault → Option Notice
const_notice spot (constant.NotConstant at) = told (codes "NotConstant") None spot
const_notice spot (constant.Overflow at) = told (codes "Overflow") None spot
const_notice spot (constant.DivideByZero at) = told (codes "DivideByZero") None spot
const_notice spot constant.Memory = None

-- a rule that is broken
abbrev pub breach_notice : Option Spot → elab.Breach → Option Notice
breach_notice spot (elab.NoSuchModule name) = told (codes "NoSuchModule") (Some name) spot
breach_notice spot (elab.ModuleTwice name) = told (codes "ModuleTwice") (Some name) spot
breach_notice spot (elab.Undeclared name) = told (codes "Undeclared") (Some name) spot
breach_notice spot (elab.DeclaredTwice name) = told (codes "DeclaredTwice") (Some name) spot
breach_notice spot elab.Width = told (codes "Width") None spot
breach_notice spot (elab.Port name) = told (codes "Port") (Some name) spot
breach_notice spot (elab.Parameter name) = told (codes "Parameter") (Some name) spot
breach_notice spot (elab.NotAssignable name) = told (codes "NotAssignable") (Some name) spot
breach_notice spot elab.Range = told (codes "Range") None spot
breach_notice spot (elab.Const fault) = const_notice spot fault
breach_notice spot (elab.Genvar name) = told (codes "Genvar") (Some name) spot
breach_notice spot elab.TooManyTurns = told (codes "TooManyTurns") None spot
breach_notice spot (elab.InstanceLoop name) = told (codes "InstanceLoop") (Some name) spot
breach_notice spot elab.TooLarge = told (codes "TooLarge") None spot

-- what elaboration answers
abbrev pub design_notice : elab.Answer → Option Notice
design_notice (elab.Named breach) = breach_notice None breach
design_notice (elab.Placed breach spot) = breach_notice (Some spot) breach
design_notice elab.Memory = None
