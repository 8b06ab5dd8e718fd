-- The modules that files spell, or why the first of them that spells none doesn't.
-- Worked examples: crates/tests_layers/stdin.
use Rattle.std.specs.Prelude.{◌≡◌, ℕ, zero, suc, Bool, true, false, if◌then◌else◌, List, [], ◌∷◌, None, Ok, Err, Vec, map}
use Rattle.std.specs.declared.alloc.Global.{Global}
use Rattle.rtl_tree.specs.declared.token.Token.{Token}
use Rattle.rtl_tree.specs.declared.tree.modules.Module.{Module}
use Rattle.rtl_tree.specs.Prepared.{Ready}
use Rattle.rtl_tree.specs.TreeModule.{Circuit, circuit}
use Rattle.rtl_text.specs.declared.fault.LexFault.TheVariants as lexing
use Rattle.rtl_text.specs.Faults.{Answers, Refuses}
use Rattle.rtl_prep.specs.declared.fault.PrepFault.TheVariants as preparing
use Rattle.rtl_prep.specs.Conditions.{FileConditions, asked}
use Rattle.rtl_prep.specs.Prepares.{prepared}
use Rattle.rtl_prep.specs.Stops.{Tells}
use Rattle.rtl_parse.specs.declared.fault.ParseFault.TheVariants as parsing
use Rattle.rtl_parse.specs.Parses.{IsCause, IsParsed, first_outside}
use Rattle.rtl_front.specs.declared.fault.FileFault.{FileFault}
use Rattle.rtl_front.specs.declared.fault.FileFault.TheVariants.{Lex, Prepare, Parse}
use Rattle.rtl_front.specs.declared.fault.SourceFault.{SourceFault}
use Rattle.rtl_front.specs.declared.fault.SourceFault.TheVariants.{Refused, Memory}

-- a text splits into tokens, and what is left of them is this
pub record IsPrepared (text : List ℕ) (ready : Ready) : Type 0 where
  pub tokens : List Token
  pub split : Answers text (Ok tokens)
  pub prepares : prepared text tokens ≡ Ok ready

-- the modules that a file's text spells
pub record IsRead (text : List ℕ) (circuits : List Circuit) : Type 0 where
  pub ready : Ready
  pub is_prepared : IsPrepared text ready
  pub inside : first_outside ready ≡ None
  pub parsed : IsParsed ready circuits

-- why a file's text has no modules
abbrev pub IsFaulty : List ℕ → FileFault → Type 0
IsFaulty text (Lex fault) = Refuses text fault
IsFaulty text (Prepare fault) = (tokens : List Token) × Answers text (Ok tokens) × Tells (λ (ready : Ready). ready) (prepared text tokens) (Err fault)
IsFaulty text (Parse fault) = (ready : Ready) × IsPrepared text ready × IsCause ready fault

-- the modules of files, one after the other
abbrev pub AreRead : List (List ℕ) → List (List Circuit) → Type 0
AreRead [] [] = Unit {0}
AreRead (text ∷ texts) (circuits ∷ others) = IsRead text circuits × AreRead texts others
AreRead _ _ = ⊥

-- the modules that texts spell: these, and no others
pub record AreSpelled (texts : List (List ℕ)) (circuits : List (List Circuit)) : Type 0 where
  pub read : AreRead texts circuits
  pub only : (others : List (List Circuit)) → AreRead texts others → others ≡ circuits

-- what the conditions of a text ask of other files and tools
pub record IsAsked (text : List ℕ) (conditions : FileConditions) : Type 0 where
  pub tokens : List Token
  pub split : Answers text (Ok tokens)
  pub is : conditions ≡ asked text tokens

-- the conditions of files, one after the other
abbrev pub AreAsked : List (List ℕ) → List FileConditions → Type 0
AreAsked [] [] = Unit {0}
AreAsked (text ∷ texts) (conditions ∷ others) = IsAsked text conditions × AreAsked texts others
AreAsked _ _ = ⊥

-- the modules of all files before one, which has none
abbrev pub IsFirst : List (List ℕ) → ℕ → FileFault → Type 0
IsFirst [] number fault = ⊥
IsFirst (text ∷ texts) zero fault = IsFaulty text fault
IsFirst (text ∷ texts) (suc number) fault =
    (circuits : List Circuit) × IsRead text circuits × IsFirst texts number fault

-- whether memory ran out, which is no fault of a file's text
abbrev pub is_memory : FileFault → Bool
is_memory (Lex lexing.Memory) = true
is_memory (Prepare preparing.Memory) = true
is_memory (Parse parsing.Memory) = true
is_memory _ = false

-- how the fault of a file is told: want of memory without the file
abbrev pub told : ℕ → FileFault → SourceFault
told file fault = if is_memory fault then Memory else Refused file fault

-- the fault of the first file that has no modules; or want of memory, which may come at any time
abbrev pub IsFirstFaulty : List (List ℕ) → SourceFault → Type 0
IsFirstFaulty texts Memory = Unit {0}
IsFirstFaulty texts (Refused file fault) = (is_memory fault ≡ false) × IsFirst texts file fault

-- what the code makes: the modules of files
abbrev pub circuits_of : List (Vec Module Global) → List (List Circuit)
circuits_of files = map (λ modules. map circuit modules.items) files
