-- What a text is read as: the dump that it is, or the first place that keeps it from being one (IEEE 1364-2001
-- section 18.2).
-- Worked examples: crates/vcd_read/proofs/Examples.antt.
use Rattle.std.specs.Prelude.{ℕ, Bool, true, false, if◌then◌else◌, List, [], ◌∷◌, codes, length, Result, Ok, Err}
use Rattle.std.specs.Str.{bytes_eq}
use Rattle.rtl_bits.specs.declared.Bit.{Bit}
use Rattle.vcd_read.specs.declared.dump.Change.{Change}
use Rattle.vcd_read.specs.declared.dump.Dump.{Dump as Kept}
use Rattle.vcd_read.specs.declared.dump.Entry.{Entry}
use Rattle.vcd_read.specs.declared.dump.Frame.{Frame}
use Rattle.vcd_read.specs.declared.fault.VcdFault.{VcdFault}
use Rattle.vcd_read.specs.declared.fault.VcdFault.TheVariants.{Malformed}
use Rattle.vcd_read.specs.declared.part.Declaring.{Declaring}
use Rattle.vcd_read.specs.declared.part.Declaring.TheVariants.{Command, Passed, Closed, Last, ScopeKind, ScopeName, VariableType, VariableWidth, VariableCode, VariableName}
use Rattle.vcd_read.specs.declared.part.Part.{Part}
use Rattle.vcd_read.specs.declared.part.Part.TheVariants.{Declaring as InHeader, Recording as InBody}
use Rattle.vcd_read.specs.declared.part.Recording.{Recording}
use Rattle.vcd_read.specs.declared.part.Recording.TheVariants.{Change as AtChange, Comment, VectorCode, RealCode}
use Rattle.vcd_read.specs.declared.reading.Reader.{Reader}
use Rattle.vcd_read.specs.Changes.{Body, body_of, nothing as no_changes, taken as body_taken}
use Rattle.vcd_read.specs.Declarations.{Header, declared, header_of, nothing as no_declarations}
use Rattle.vcd_read.specs.Words.{Word, words}

-- a dump: the scopes and variables in order, the bits of all changes, the changes, and the times
pub record Dump : Type 0 where
  pub entries : List Entry
  pub bits : List Bit
  pub changes : List Change
  pub frames : List Frame

-- what is declared and recorded so far, and what the next word is
pub record State : Type 0 where
  pub header : Header
  pub body : Body
  pub part : Part

-- a text begins with declarations
abbrev pub start : State
start = record { header = no_declarations; body = no_changes; part = InHeader Command }

-- what follows behind `$end`: it ends a command, the declarations, a comment, or values that are dumped
abbrev pub ended : Part → ℕ → Result Part VcdFault
ended (InHeader Passed) at = Ok (InHeader Command)
ended (InHeader Closed) at = Ok (InHeader Command)
ended (InHeader Last) at = Ok (InBody AtChange)
ended (InHeader Command) at = Err (Malformed at)
ended (InHeader ScopeKind) at = Err (Malformed at)
ended (InHeader ScopeName) at = Err (Malformed at)
ended (InHeader VariableType) at = Err (Malformed at)
ended (InHeader (VariableWidth real)) at = Err (Malformed at)
ended (InHeader (VariableCode width)) at = Err (Malformed at)
ended (InHeader (VariableName width code)) at = Err (Malformed at)
ended (InBody Comment) at = Ok (InBody AtChange)
ended (InBody AtChange) at = Ok (InBody AtChange)
ended (InBody (VectorCode before bits)) at = Err (Malformed at)
ended (InBody RealCode) at = Err (Malformed at)

-- the same, with another part
abbrev pub with_part : State → Result Part VcdFault → Result State VcdFault
with_part state (Ok part) = Ok (record { header = state.header; body = state.body; part = part })
with_part state (Err fault) = Err fault

-- the word `$end`
abbrev pub closed : State → ℕ → Result State VcdFault
closed state at = with_part state (ended state.part at)

-- the same, with more that is declared
abbrev pub with_header : State → Result (Declaring × Header) VcdFault → Result State VcdFault
with_header state (Ok next) = Ok (record { header = next.1; body = state.body; part = InHeader next.0 })
with_header state (Err fault) = Err fault

-- the same, with more that is recorded
abbrev pub with_body : State → Result (Recording × Body) VcdFault → Result State VcdFault
with_body state (Ok next) = Ok (record { header = state.header; body = next.1; part = InBody next.0 })
with_body state (Err fault) = Err fault

-- a word of a part
abbrev pub continued_in : State → Part → ℕ → List ℕ → Result State VcdFault
continued_in state (InHeader part) at word = with_header state (declared part at word state.header)
continued_in state (InBody part) at word = with_body state (body_taken state.header.codes part at word state.body)

-- any other word
abbrev pub continued : State → ℕ → List ℕ → Result State VcdFault
continued state at word = continued_in state state.part at word

-- a word at a place
abbrev pub taken : State → ℕ → List ℕ → Result State VcdFault
taken state at word = if bytes_eq word (codes "$end") then closed state at else continued state at word

-- what follows, if nothing is wrong
abbrev pub and_then : Result State VcdFault → (State → Result State VcdFault) → Result State VcdFault
and_then (Ok state) next = next state
and_then (Err fault) next = Err fault

-- word after word: the first that can't stand where it does decides
abbrev pub run : State → List Word → Result State VcdFault
run state [] = Ok state
run state (word ∷ others) = and_then (taken state word.at word.text) (λ next. run next others)

-- whether a text may end here: behind its declarations, where a change might follow
abbrev pub may_end : Part → Bool
may_end (InHeader part) = false
may_end (InBody AtChange) = true
may_end (InBody Comment) = false
may_end (InBody (VectorCode before bits)) = false
may_end (InBody RealCode) = false

-- the dump of a text that ends here
abbrev pub finished : State → ℕ → Result Dump VcdFault
finished state end =
    if may_end state.part
    then Ok (record {
      entries = state.header.entries;
      bits = state.body.bits;
      changes = state.body.changes;
      frames = state.body.frames;
    })
    else Err (Malformed end)

-- the dump of words behind which a text ends
abbrev pub finish : ℕ → Result State VcdFault → Result Dump VcdFault
finish end (Ok state) = finished state end
finish end (Err fault) = Err fault

-- what a text is read as
abbrev pub read : List ℕ → Result Dump VcdFault
read text = finish (length text) (run start (words 0 text))

-- what the code keeps
abbrev pub state_of : Reader → State
state_of kept = record { header = header_of kept.header; body = body_of kept.body; part = kept.part }

-- the dump that the code makes
abbrev pub dump_of : Kept → Dump
dump_of kept = record {
  entries = kept.entries.items;
  bits = kept.bits.items;
  changes = kept.changes.items;
  frames = kept.frames.items;
}
