-- The changes of a dump, word by word (IEEE 1364-2001 sections 18.2.1 and 18.2.3).
-- Worked examples: crates/vcd_read/proofs/Examples.antt.
use Rattle.std.specs.Prelude.{ℕ, ◌+◌, ◌==◌, nat_lt, ◌&&◌, ◌||◌, not, if◌then◌else◌, List, [], ◌∷◌, ◌++◌, length, Option, None, Some, Result, Ok, Err}
use Rattle.rtl_bits.specs.declared.Bit.{Bit}
use Rattle.rtl_bits.specs.declared.Bit.TheVariants.{Zero, One, X, Z}
use Rattle.vcd_read.specs.declared.body.Body.{Body as Kept}
use Rattle.vcd_read.specs.declared.codes.Code.{Code}
use Rattle.vcd_read.specs.declared.dump.Change.{Change}
use Rattle.vcd_read.specs.declared.dump.Frame.{Frame}
use Rattle.vcd_read.specs.declared.fault.VcdFault.{VcdFault}
use Rattle.vcd_read.specs.declared.fault.VcdFault.TheVariants.{Malformed, TooLarge}
use Rattle.vcd_read.specs.declared.part.Keyword.{Keyword}
use Rattle.vcd_read.specs.declared.part.Keyword.TheVariants.{Scope, Upscope, Var, EndDefinitions, Comment as Remark, Dump, End, Other, No}
use Rattle.vcd_read.specs.declared.part.Recording.{Recording}
use Rattle.vcd_read.specs.declared.part.Recording.TheVariants.{Change as AtChange, Comment, VectorCode, RealCode}
use Rattle.vcd_read.specs.Codes.{Codes}
use Rattle.vcd_read.specs.Keywords.{keyword_of}
use Rattle.vcd_read.specs.Numbers.{number_of}

-- what is recorded: the bits of all changes, the changes, the times, how many words were times, and the last time or 0
pub record Body : Type 0 where
  pub bits : List Bit
  pub changes : List Change
  pub frames : List Frame
  pub times : ℕ
  pub last : ℕ

-- before the first change
abbrev pub nothing : Body
nothing = record { bits = []; changes = []; frames = []; times = 0; last = 0 }

-- what may follow, and what is recorded then, or a fault
abbrev pub Recorded : Type 0
Recorded = Result (Recording × Body) VcdFault

-- the bit that a byte writes
abbrev pub bit_of : ℕ → Option Bit
bit_of byte =
    if byte == 48 then Some Zero
    else if byte == 49 then Some One
    else if byte == 120 || byte == 88 then Some X
    else if byte == 122 || byte == 90 then Some Z
    else None

-- ---- times

-- a time that is written again is the same one
abbrev pub frames_with : Body → ℕ → List Frame
frames_with body time =
    if length body.frames == 0 || nat_lt body.last time
    then body.frames ++ record { time = time; before = length body.changes } ∷ []
    else body.frames

-- a time, which doesn't fall
abbrev pub begun : Body → ℕ → Option ℕ → Recorded
begun body at None = Err (Malformed at)
begun body at (Some time) =
    if nat_lt time body.last
    then Err (Malformed at)
    else Ok (
      AtChange,
      record {
        bits = body.bits;
        changes = body.changes;
        frames = frames_with body time;
        times = body.times;
        last = time;
      },
    )

-- a word that begins with `#`: there are 100,000 at most
abbrev pub timed : Body → ℕ → List ℕ → Recorded
timed body at digits =
    if nat_lt body.times 100000
    then begun (record {
      bits = body.bits;
      changes = body.changes;
      frames = body.frames;
      times = body.times + 1;
      last = body.last;
    }) at (number_of digits)
    else Err (TooLarge at)

-- ---- values

-- one bit more
abbrev pub with_bit : Body → Bit → Body
with_bit body bit = record {
  bits = body.bits ++ bit ∷ [];
  changes = body.changes;
  frames = body.frames;
  times = body.times;
  last = body.last;
}

-- the last so many bits are the new value of a code
abbrev pub with_change : Body → ℕ → ℕ → Body
with_change body code bits = record {
  bits = body.bits;
  changes = body.changes ++ record { code = code; bits = bits } ∷ [];
  frames = body.frames;
  times = body.times;
  last = body.last;
}

-- a bit that is written to a code
abbrev pub scalar_of : Body → ℕ → Bit → Option Code → Recorded
scalar_of body at bit None = Err (Malformed at)
scalar_of body at bit (Some code) = Ok (AtChange, with_change (with_bit body bit) code.number 1)

-- a bit and a code in one word
abbrev pub scalar : Codes → Body → ℕ → Option Bit → List ℕ → Recorded
scalar codes body at None text = Err (Malformed at)
scalar codes body at (Some bit) text = scalar_of body at bit (codes text)

-- what follows a byte that writes a bit; any other is malformed
abbrev pub and_then : Option Bit → ℕ → (Bit → Result Body VcdFault) → Result Body VcdFault
and_then None at next = Err (Malformed at)
and_then (Some bit) at next = next bit

-- the bits of a vector that stands at a place, from the most significant on
abbrev pub written : Body → ℕ → List ℕ → Result Body VcdFault
written body at [] = Ok body
written body at (digit ∷ digits) = and_then (bit_of digit) at (λ bit. written (with_bit body bit) at digits)

-- a vector, before its code; it has a bit at least
abbrev pub vector_of : ℕ → ℕ → Result Body VcdFault → Recorded
vector_of at bits (Ok body) = Ok (VectorCode at bits, body)
vector_of at bits (Err fault) = Err fault

-- the word of a vector, without its first letter
abbrev pub vector : Body → ℕ → List ℕ → Recorded
vector body at digits =
    if length digits == 0 then Err (Malformed at) else vector_of at (length digits) (written body at digits)

-- the code of a vector, which stands at a place: it has as many bits as the code's variables at most
abbrev pub coded : Body → ℕ → ℕ → ℕ → Option Code → Recorded
coded body before bits at None = Err (Malformed at)
coded body before bits at (Some code) =
    if not (code.width == 0) && nat_lt code.width bits
    then Err (Malformed before)
    else Ok (AtChange, with_change body code.number bits)

-- a real number, before its code: it isn't looked at
abbrev pub real : ℕ → List ℕ → Result Recording VcdFault
real at [] = Err (Malformed at)
real at (digit ∷ digits) = Ok RealCode

-- what follows, where nothing more is recorded
abbrev pub alike : Body → Result Recording VcdFault → Recorded
alike body (Ok part) = Ok (part, body)
alike body (Err fault) = Err fault

-- the code of a real number, which is passed over
abbrev pub real_coded : Body → ℕ → Option Code → Recorded
real_coded body at None = Err (Malformed at)
real_coded body at (Some code) = Ok (AtChange, body)

-- ---- words

-- a word that begins with a byte
abbrev pub opened : Codes → Body → ℕ → ℕ → List ℕ → Recorded
opened codes body at first text =
    if first == 35 then timed body at text
    else if first == 98 || first == 66 then vector body at text
    else if first == 114 || first == 82 then alike body (real at text)
    else scalar codes body at (bit_of first) text

-- a word that is no keyword
abbrev pub recorded : Codes → Body → ℕ → List ℕ → Recorded
recorded codes body at [] = Err (Malformed at)
recorded codes body at (first ∷ text) = opened codes body at first text

-- a word where a change may stand, which asks for this
abbrev pub recorded_as : Codes → Body → ℕ → List ℕ → Keyword → Recorded
recorded_as codes body at word Dump = Ok (AtChange, body)
recorded_as codes body at word Remark = Ok (Comment, body)
recorded_as codes body at word No = recorded codes body at word
recorded_as codes body at word Scope = Err (Malformed at)
recorded_as codes body at word Upscope = Err (Malformed at)
recorded_as codes body at word Var = Err (Malformed at)
recorded_as codes body at word EndDefinitions = Err (Malformed at)
recorded_as codes body at word End = Err (Malformed at)
recorded_as codes body at word Other = Err (Malformed at)

-- a word among the changes that isn't `$end`, where a part of a change may stand
abbrev pub taken : Codes → Recording → ℕ → List ℕ → Body → Recorded
taken codes AtChange at word body = recorded_as codes body at word (keyword_of word)
taken codes Comment at word body = Ok (Comment, body)
taken codes (VectorCode before bits) at word body = coded body before bits at (codes word)
taken codes RealCode at word body = real_coded body at (codes word)

-- what the code keeps
abbrev pub body_of : Kept → Body
body_of kept = record {
  bits = kept.bits.items;
  changes = kept.changes.items;
  frames = kept.frames.items;
  times = kept.times;
  last = kept.last;
}
