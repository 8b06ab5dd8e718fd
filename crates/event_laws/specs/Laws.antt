-- What a body makes in one run: on what it depends, and how it stands to the paths of the body.
use Rattle.std.specs.Prelude.{◌≡◌, ◌⊎◌, ℕ, ◌-◌, ◌<◌, Bool, true, false, List, length}
use Rattle.std.specs.List.{list_any, slice_index_or}
use Rattle.rtl_bits.specs.declared.Bit.TheVariants.{X}
use Rattle.rtl_flat.specs.declared.signal.Kind.TheVariants.{Var}
use Rattle.rtl_flat.specs.Expression.{Tree}
use Rattle.rtl_flat.specs.Flows.{body_flow, may_target, targets}
use Rattle.rtl_flat.specs.Paths.{Step, IsSure, MayWrite, MayWriteLate, MayWriteNow, ReadsOutside, some, writes_bit, writes_now}
use Rattle.rtl_flat.specs.Paths as step
use Rattle.rtl_flat.specs.Process.{Piece, Action, Actions}
use Rattle.rtl_flat.specs.Signs.{Has, IsExpression}
use Rattle.rtl_flat.specs.Sizes.{width_of}
use Rattle.rtl_flat.specs.Value.{value}
use Rattle.rtl_flat.specs.WellFormed.{IsAction, IsAssignment, IsBody}
use Rattle.event_model.specs.Bodies.{Made, after_made, assigned, body_made, made}
use Rattle.rtl_flat.specs.Flats.{Flat, widths}
use Rattle.event_model.specs.Traces.{FollowsPath, Same, body_trace, covers, makes, makes_late, makes_now, trace}
use Rattle.event_model.specs.Writes.{Values, Write, writes, written}
use Rattle.event_laws.specs.Steady.{HaveWidths, IsWithin}

-- ---- what one run makes

-- a run from given values writes a bit at once
abbrev pub MakesNow : Flat → Values → Actions → ℕ → ℕ → Type 0
MakesNow d v body i k = list_any (makes_now i k) (body_made (widths d) v body) ≡ true

-- it writes the bit later
abbrev pub MakesLate : Flat → Values → Actions → ℕ → ℕ → Type 0
MakesLate d v body i k = list_any (makes_late i k) (body_made (widths d) v body) ≡ true

-- it writes the bit in either way
abbrev pub Makes : Flat → Values → Actions → ℕ → ℕ → Type 0
Makes d v body i k = list_any (makes i k) (body_made (widths d) v body) ≡ true

-- the values after the run, of which its writes at once change some
abbrev pub after_body : Flat → Values → Actions → Values
after_body d v body = after_made v (body_made (widths d) v body)

-- some step on a path of the body passes a test
abbrev pub PathsPass : Flat → Actions → (Step → Bool) → Type 0
PathsPass d body test = some test (body_flow (widths d) body) ≡ true

-- ---- on what it depends

-- two values are the same in each bit that the body reads and hasn't written before
abbrev pub AgreeOutside : Flat → Actions → Values → Values → Type 0
AgreeOutside d body v u =
    (i k : ℕ) → ReadsOutside (body_flow (widths d) body) i k → Same v u i k

-- two runs make the same, by the same steps
pub record RunAlike (d : Flat) (body : Actions) (v u : Values) : Type 0 where
  pub made : body_made (widths d) v body ≡ body_made (widths d) u body
  pub steps : body_trace (widths d) v body ≡ body_trace (widths d) u body

-- where a run takes a path, another that finds the same in what the body reads outside runs alike
abbrev pub Depends : Flat → Type 0
Depends d =
    (v u : Values) (body : Actions) →
    HaveWidths d v → HaveWidths d u → IsBody d.signals body → FollowsPath (widths d) v body →
    AgreeOutside d body v u → RunAlike d body v u

-- ---- what is made, and what may be written

-- what the steps of a run write whatever an index is, the run makes
abbrev pub MakesSure : Flat → Type 0
MakesSure d =
    (v : Values) (body : Actions) (i k : ℕ) →
    HaveWidths d v → IsBody d.signals body →
    list_any (writes_bit i k) (body_trace (widths d) v body) ≡ true → Makes d v body i k

-- the same of a statement, and of what it writes at once
abbrev pub MakesSureNow : Flat → Type 0
MakesSureNow d =
    (v : Values) (one : Action) (i k : ℕ) →
    HaveWidths d v → IsAction d.signals one →
    list_any (writes_now i k) (trace (widths d) v one) ≡ true →
    list_any (makes_now i k) (made (widths d) v one) ≡ true

-- a run that takes a path makes each bit that every path writes
abbrev pub MakesOnPaths : Flat → Type 0
MakesOnPaths d =
    (v : Values) (body : Actions) (i k : ℕ) →
    HaveWidths d v → IsBody d.signals body → FollowsPath (widths d) v body →
    IsSure (body_flow (widths d) body) i k → Makes d v body i k

-- what is made at once, a blocking assignment of the body may write
abbrev pub MayNow : Flat → Type 0
MayNow d =
    (v : Values) (body : Actions) (i k : ℕ) →
    IsBody d.signals body → MakesNow d v body i k → MayWriteNow (body_flow (widths d) body) i k

-- what is made later, a nonblocking one may write
abbrev pub MayLate : Flat → Type 0
MayLate d =
    (v : Values) (body : Actions) (i k : ℕ) →
    IsBody d.signals body → MakesLate d v body i k → MayWriteLate (body_flow (widths d) body) i k

-- what is made, the body may write
abbrev pub MayMake : Flat → Type 0
MayMake d =
    (v : Values) (body : Actions) (i k : ℕ) →
    IsBody d.signals body → Makes d v body i k → MayWrite (body_flow (widths d) body) i k

-- a test of what is made tells one of steps, at each assignment
abbrev pub TellsSteps : Flat → (Made → Bool) → (Step → Bool) → Type 0
TellsSteps d test of_step =
    (v : Values) (target : List Piece) (e : Tree) (delayed : Bool) →
    IsAssignment d.signals Var target e →
    list_any test (assigned delayed (writes (widths d) v target (value v e))) ≡ true →
    of_step (step.Write delayed (may_target (widths d) target) (targets (widths d) target)) ≡ true

-- then it tells one of the steps of a run
abbrev pub TellsTraces : Flat → Type 0
TellsTraces d =
    (test : Made → Bool) (of_step : Step → Bool) → TellsSteps d test of_step →
    (v : Values) (body : Actions) → IsBody d.signals body →
    list_any test (body_made (widths d) v body) ≡ true →
    list_any of_step (body_trace (widths d) v body) ≡ true

-- and one of the paths of the body, whether the run takes a path or not
abbrev pub TellsPaths : Flat → Type 0
TellsPaths d =
    (test : Made → Bool) (of_step : Step → Bool) → TellsSteps d test of_step →
    (v : Values) (body : Actions) → IsBody d.signals body →
    list_any test (body_made (widths d) v body) ≡ true → PathsPass d body of_step

-- a test that passes on the steps of a run passes on a path, whether the run takes a path or not
abbrev pub TracesArePaths : Flat → Type 0
TracesArePaths d =
    (test : Step → Bool) (v : Values) (body : Actions) →
    list_any test (body_trace (widths d) v body) ≡ true → PathsPass d body test

-- ---- signals

-- what a body may write are variables
abbrev pub WritesVariables : Flat → Type 0
WritesVariables d =
    (body : Actions) (i k : ℕ) →
    IsBody d.signals body → MayWrite (body_flow (widths d) body) i k →
    Has (λ s. s.kind ≡ Var) d.signals i

-- what it may write lies inside its signal
abbrev pub WritesInside : Flat → Type 0
WritesInside d =
    (body : Actions) (i k : ℕ) →
    IsBody d.signals body → MayWrite (body_flow (widths d) body) i k → k < widths d i

-- what it reads outside lies inside its signal
abbrev pub ReadsInside : Flat → Type 0
ReadsInside d =
    (body : Actions) (i k : ℕ) →
    IsBody d.signals body → ReadsOutside (body_flow (widths d) body) i k → k < widths d i

-- the value of an expression has as many bits as the expression
abbrev pub ValuesAreWide : Flat → Type 0
ValuesAreWide d =
    (v : Values) (e : Tree) →
    HaveWidths d v → IsExpression d.signals e → length (value v e) ≡ width_of (widths d) e

-- ---- values after a write, and after a run

-- a bit that a write is over has the write's bit
abbrev pub WrittenIn : Flat → Type 0
WrittenIn d =
    (v : Values) (w : Write) (i k : ℕ) →
    HaveWidths d v → IsWithin (widths d) w → covers i k w ≡ true →
    slice_index_or (written v w i) k X ≡ slice_index_or w.bits (k - w.at) X

-- any other bit stays as it was
abbrev pub WrittenOut : Flat → Type 0
WrittenOut d =
    (v : Values) (w : Write) (i k : ℕ) →
    HaveWidths d v → IsWithin (widths d) w → covers i k w ≡ false → Same (written v w) v i k

-- values keep their widths over a run
abbrev pub KeepsWidths : Flat → Type 0
KeepsWidths d =
    (v : Values) (body : Actions) →
    HaveWidths d v → IsBody d.signals body → HaveWidths d (after_body d v body)

-- a bit that a run doesn't write at once stays as it was
abbrev pub KeepsOthers : Flat → Type 0
KeepsOthers d =
    (v : Values) (body : Actions) (i k : ℕ) →
    HaveWidths d v → IsBody d.signals body →
    list_any (makes_now i k) (body_made (widths d) v body) ≡ false → Same (after_body d v body) v i k

-- after two runs that make the same, a bit is the same where it was or where they write it at once
abbrev pub LeavesAlike : Flat → Type 0
LeavesAlike d =
    (v u : Values) (body : Actions) (i k : ℕ) →
    HaveWidths d v → HaveWidths d u → IsBody d.signals body →
    body_made (widths d) v body ≡ body_made (widths d) u body →
    Same v u i k ⊎ MakesNow d v body i k → Same (after_body d v body) (after_body d u body) i k
