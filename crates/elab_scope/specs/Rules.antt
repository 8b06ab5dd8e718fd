-- The rules on single parts of expressions, each a function of what it looks at.
-- Worked examples: crates/elab_body/proofs/Examples.antt, crates/tests_rows/stdin.
use Rattle.std.specs.Prelude.{ℕ, pos, int_le, ◌&&◌, if◌then◌else◌, List, [], ◌∷◌, ◌++◌, Option, None, Some, Ok, Err, Bool, true, false}
use Rattle.rtl_const.specs.Constant.{Outcome}
use Rattle.rtl_const.specs.declared.fault.ConstFault.{ConstFault}
use Rattle.rtl_const.specs.declared.fault.ConstFault.TheVariants as constant
use Rattle.rtl_tree.specs.declared.tree.operators.PartKind.{PartKind}
use Rattle.rtl_tree.specs.declared.tree.operators.PartKind.TheVariants.{Between, Up, Down}
use Rattle.rtl_tree.specs.declared.tree.operators.SystemFunction.{SystemFunction}
use Rattle.rtl_tree.specs.declared.tree.operators.SystemFunction.TheVariants.{Signed, Unsigned, Clog2}
use Rattle.rtl_tree.specs.TreeExpr.{Identifier}
use Rattle.elab_scope.specs.declared.known.Known.{Known}
use Rattle.elab_scope.specs.declared.known.Known.TheVariants as known
use Rattle.elab_scope.specs.declared.known.Role.TheVariants as role
use Rattle.elab_scope.specs.declared.rules.Writer.{Writer}
use Rattle.elab_scope.specs.declared.rules.Writer.TheVariants as writer
use Rattle.elab_scope.specs.declared.widths.Breadth.{Breadth}
use Rattle.elab_scope.specs.declared.widths.Breadth.TheVariants.{Bits, Unfit, Hidden}
use Rattle.elab_scope.specs.declared.widths.Field.{Field}
use Rattle.elab_scope.specs.Faults.{Breach, Undeclared, Width, NotAssignable, Range, Const, Refusal}
use Rattle.elab_scope.specs.Widths.{field}

-- a fault at a place
abbrev pub fault : ℕ → Breach → Refusal
fault at breach = record { at = at; breach = breach }

-- what is read is declared, and an `integer` is read in its own loop alone
abbrev pub read_faults : Identifier → Option Known → List Refusal
read_faults name None = fault name.at (Undeclared name.text) ∷ []
read_faults name (Some (known.Integer None)) = fault name.at (NotAssignable name.text) ∷ []
read_faults name (Some _) = []

-- only signals have bits to select (IEEE 1364-2001 section 4.2.1)
abbrev pub range_faults : Identifier → Option Known → List Refusal
range_faults name (Some (known.Parameter number width signed)) = fault name.at Range ∷ []
range_faults name (Some (known.Integer number)) = fault name.at Range ∷ []
range_faults name _ = []

-- what bits are read of is declared, and has bits
abbrev pub select_faults : Identifier → Option Known → List Refusal
select_faults name known = read_faults name known ++ range_faults name known

-- where a fault of a constant expression is
abbrev pub const_place : ConstFault → ℕ
const_place (constant.NotConstant at) = at
const_place (constant.Overflow at) = at
const_place (constant.DivideByZero at) = at
const_place constant.Memory = 0

-- what has to be constant has a number
abbrev pub number_faults : Outcome → List Refusal
number_faults (Ok number) = []
number_faults (Err cause) = fault (const_place cause) (Const cause) ∷ []

-- `$clog2` is worked out where the design is made, and so has a number
abbrev pub function_faults : SystemFunction → Outcome → List Refusal
function_faults Signed number = []
function_faults Unsigned number = []
function_faults Clog2 number = number_faults number

-- how often a repetition is made is constant, and at least once (IEEE 1364-2001 section 4.1.14)
abbrev pub times_faults : ℕ → Outcome → List Refusal
times_faults at (Ok times) = if int_le (pos 1) times then [] else fault at Width ∷ []
times_faults at (Err cause) = fault (const_place cause) (Const cause) ∷ []

-- a number of bits
abbrev pub count_faults : ℕ → Outcome → List Refusal
count_faults at (Ok count) = if int_le (pos 1) count && int_le count (pos 128) then [] else fault at Width ∷ []
count_faults at (Err cause) = []

-- a run, `[base +: width]` or `[base -: width]`, has from 1 to 128 bits
abbrev pub run_faults : ℕ → PartKind → Outcome → List Refusal
run_faults at Between lsb = []
run_faults at Up width = count_faults at width
run_faults at Down width = count_faults at width

-- a part that isn't there
abbrev pub missing : ℕ → Option Field → List Refusal
missing at None = fault at Range ∷ []
missing at (Some field) = []

-- a part-select lies inside its signal, from its high end down to its low one; where the signal's own range is at
-- fault, its ends alone are judged
abbrev pub part_faults : ℕ → Option Known → Outcome → Outcome → List Refusal
part_faults at (Some (known.Signal number role (Some shape))) (Ok msb) (Ok lsb) = missing at (field shape msb lsb)
part_faults at (Some (known.Signal number role None)) (Ok msb) (Ok lsb) =
    if int_le (pos 0) lsb && int_le lsb msb then [] else fault at Range ∷ []
part_faults at _ _ _ = []

-- an expression has from 1 to 128 bits
abbrev pub width_faults : ℕ → Breadth → List Refusal
width_faults at Unfit = fault at Width ∷ []
width_faults at (Bits n) = []
width_faults at Hidden = []

-- whether a continuous assignment may drive what a name stands for: nets alone (IEEE 1364-2001 section 6.1)
abbrev pub may_drive : Known → Bool
may_drive (known.Signal number role.Net shape) = true
may_drive _ = false

-- whether a statement may assign it: variables alone (section 9.2)
abbrev pub may_assign : Known → Bool
may_assign (known.Signal number role.Variable shape) = true
may_assign _ = false

-- whether it may be written in an assignment of this kind
abbrev pub may_write : Writer → Known → Bool
may_write writer.Continuous known = may_drive known
may_write writer.Procedural known = may_assign known

-- what is written is declared, and may be written
abbrev pub write_faults : Writer → Identifier → Option Known → List Refusal
write_faults by name None = fault name.at (Undeclared name.text) ∷ []
write_faults by name (Some known) =
    if may_write by known then [] else fault name.at (NotAssignable name.text) ∷ []

-- a continuous assignment writes the same bit at all times
abbrev pub index_faults : Writer → Identifier → Outcome → List Refusal
index_faults writer.Continuous name (Err cause) = fault name.at (NotAssignable name.text) ∷ []
index_faults by name _ = []
