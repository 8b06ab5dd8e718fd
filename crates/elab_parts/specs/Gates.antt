-- What gates drive, as continuous assignments, and their terminals, each of one bit (IEEE 1364-2001 sections 7.1 to 7.3).
-- Worked examples: proofs/Examples.antt.
use Rattle.std.specs.Prelude.{ℕ, ◌==◌, if◌then◌else◌, List, [], ◌∷◌, ◌++◌}
use Rattle.rtl_tree.specs.TreeExpr.{Formula, Parens, Unary, Binary, formula_place}
use Rattle.rtl_tree.specs.TreeStmt.{Target, target_place}
use Rattle.rtl_tree.specs.TreeItem.{Drive, GateDrive}
use Rattle.elab_body.specs.elab_scope.declared.widths.Breadth.{Breadth}
use Rattle.elab_body.specs.elab_scope.declared.widths.Breadth.TheVariants.{Bits, Unfit, Hidden}
use Rattle.elab_body.specs.elab_scope.Faults.{Width, Refusal}
use Rattle.elab_body.specs.elab_scope.Names.{Meanings}
use Rattle.elab_body.specs.elab_scope.Own.{breadth}
use Rattle.elab_body.specs.elab_scope.Rules.{fault}
use Rattle.elab_body.specs.elab_scope.Targets.{target_breadth}

-- an assignment of the same value to each output
abbrev pub output_drives : Formula → List Target → List Drive
output_drives value [] = []
output_drives value (output ∷ outputs) =
    record { target = output; value = value } ∷ output_drives value outputs

-- the assignments that gates are, output by output
abbrev pub assignments_of : List GateDrive → List Drive
assignments_of [] = []
assignments_of (drive ∷ drives) = output_drives drive.value drive.outputs ++ assignments_of drives

-- a terminal of a gate has one bit by itself; where how many it has is hidden by another fault, that one is told
abbrev pub one_bit_faults : ℕ → Breadth → List Refusal
one_bit_faults at (Bits n) = if n == 1 then [] else fault at Width ∷ []
one_bit_faults at Unfit = fault at Width ∷ []
one_bit_faults at Hidden = []

-- of the inputs of a gate, which stand in parentheses below its operators
abbrev pub input_faults : Meanings → Formula → List Refusal
input_faults scope (Parens at inner) = one_bit_faults (formula_place inner) (breadth scope inner)
input_faults scope (Unary operator at operand) = input_faults scope operand
input_faults scope (Binary operator at left right) = input_faults scope left ++ input_faults scope right
input_faults scope _ = []

abbrev pub output_faults : Meanings → List Target → List Refusal
output_faults scope [] = []
output_faults scope (output ∷ outputs) =
    one_bit_faults (target_place output) (target_breadth scope output) ++ output_faults scope outputs

abbrev pub gate_faults : Meanings → GateDrive → List Refusal
gate_faults scope drive = output_faults scope drive.outputs ++ input_faults scope drive.value

-- of all terminals of gates
abbrev pub terminal_faults : Meanings → List GateDrive → List Refusal
terminal_faults scope [] = []
terminal_faults scope (drive ∷ drives) = gate_faults scope drive ++ terminal_faults scope drives
