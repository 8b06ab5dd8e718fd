-- It serves laws and proofs; no answer of the program is stated by it.
-- What the fault of a file tells.
-- Worked examples: crates/tests_rows/stdin.
use Rattle.std.specs.Prelude.{Option, Some, None}
use Rattle.rtl_text.specs.declared.fault.LexFault.{LexFault}
use Rattle.rtl_prep.specs.declared.fault.PrepFault.{PrepFault}
use Rattle.rtl_prep.specs.declared.fault.PrepFault.TheVariants as preparing
use Rattle.rtl_prep.specs.Stops.{Stop, Refused, Alone, Loops, Full}
use Rattle.rtl_parse.specs.Parses as parsed
use Rattle.rtl_front.specs.declared.fault.FileFault.{FileFault}
use Rattle.rtl_front.specs.declared.fault.FileFault.TheVariants.{Lex, Prepare, Parse}

-- what stopped preparation; none where memory ran out
abbrev pub stop_of : PrepFault → Option Stop
stop_of (preparing.Directive name at) = Some (Refused name.items at)
stop_of (preparing.Unbalanced at) = Some (Alone at)
stop_of (preparing.MacroLoop name at) = Some (Loops name.items at)
stop_of (preparing.TooManyTokens at) = Some (Full at)
stop_of preparing.Memory = None

-- a fault by what it tells: its kind, the text that it carries, and its place
pub data Reason : Type 0 where
  Unsplit : (fault : LexFault) → Reason
  Unprepared : (stop : Option Stop) → Reason
  Unparsed : (reason : parsed.Reason) → Reason

abbrev pub reason : FileFault → Reason
reason (Lex fault) = Unsplit fault
reason (Prepare fault) = Unprepared (stop_of fault)
reason (Parse fault) = Unparsed (parsed.reason fault)
