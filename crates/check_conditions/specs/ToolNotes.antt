-- What is noted where the text of a module hangs on a condition that asks for a name which tools define, or other
-- files.
-- Worked examples: crates/check_conditions/proofs/Example.antt, crates/tests_rows/stdin.
use Rattle.std.specs.Prelude.{ℕ, ◌+◌, ◌&&◌, ◌||◌, Bool, false, List, [], ◌∷◌, ◌++◌, map, nat_le, nat_lt, Option, Some, None, Result, Ok, Err}
use Rattle.std.specs.List.{filter, slice_get}
use Rattle.rtl_prep.specs.declared.conditions.Ask.{Ask}
use Rattle.rtl_prep.specs.declared.conditions.Extent.{Extent}
use Rattle.rtl_prep.specs.declared.conditions.Span.{Span}
use Rattle.rtl_prep.specs.Conditions.{FileConditions}
use Rattle.rtl_flat.specs.declared.instance.Instance.{Instance}
use Rattle.rtl_flat.specs.declared.note.Note.{Note}
use Rattle.rtl_flat.specs.declared.note.Reading.TheVariants.{ToolMacro}
use Rattle.rtl_flat.specs.Flats.{DesignParts}
use Rattle.check_conditions.specs.Foreign.{file_at}

-- whether some of a module's text stands in a chain, or the chain in it
abbrev pub overlaps : Extent → Span → Bool
overlaps module' chain = nat_le chain.from module'.to && nat_le module'.from chain.to

-- whether a chain ends before a module and may leave it other macros
abbrev pub reaches : Extent → Span → Bool
reaches module' chain = nat_lt chain.to module'.from && chain.defines

-- whether a module, if there is one, hangs on a chain, if there is one
abbrev pub hangs_on : Option Extent → Option Span → Bool
hangs_on None chain = false
hangs_on (Some module') None = false
hangs_on (Some module') (Some chain) = overlaps module' chain || reaches module' chain

-- whether the module of a number in a file hangs on the chain of an ask
abbrev pub hangs_in : FileConditions → ℕ → Ask → Bool
hangs_in file number ask = hangs_on (slice_get file.modules number) (slice_get file.chains ask.chain)

-- the note of an ask, in the instance of a number
abbrev pub tool_note : ℕ → Instance → Ask → Note
tool_note number instance ask =
    record {
      reading = ToolMacro;
      signal = None;
      instance = number;
      spot = record { file = instance.file; at = ask.at };
    }

-- those of an instance, where `file` has the module
abbrev pub asked_notes : FileConditions → ℕ → Instance → List Note
asked_notes file number instance =
    map (tool_note number instance) (filter (hangs_in file instance.module) file.asks)

-- those of instances in a row, the first of which has this number
abbrev pub notes_from : List FileConditions → ℕ → List Instance → List Note
notes_from files number [] = []
notes_from files number (instance ∷ others) =
    asked_notes (file_at files instance.file) number instance ++ notes_from files (number + 1) others

-- those of all instances, where `files` ask for foreign names alone
abbrev pub tool_notes : List FileConditions → List Instance → List Note
tool_notes files instances = notes_from files 0 instances

-- a design with its notes, and behind them those of its instances
abbrev pub with_tools : List FileConditions → DesignParts → DesignParts
with_tools files design =
    record {
      parts =
          record {
            flat = design.parts.flat;
            delays = design.parts.delays;
            dropped = design.parts.dropped;
            notes = design.parts.notes ++ tool_notes files design.instances;
          };
      instances = design.instances;
    }

-- the same of a design, if there is one
abbrev pub tool_noted : {A : Type 0} → List FileConditions → Result DesignParts A → Result DesignParts A
tool_noted files (Ok design) = Ok (with_tools files design)
tool_noted files (Err fault) = Err fault
