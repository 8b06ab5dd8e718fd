-- Nodes at work.
use Rattle.std.specs.Prelude.{false, true, if◌then◌else◌, [], ◌∷◌, None, Some}
use Rattle.std.specs.Str.{bytes_eq}
use Rattle.std.proofs.Common.{◌≡◌, refl}
use Rattle.rtl_tree.specs.declared.tree.operators.BinaryOperator.TheVariants.{Add, Power}
use Rattle.rtl_tree.specs.declared.tree.operators.PartKind.TheVariants.{Between}
use Rattle.rtl_tree.specs.declared.tree.operators.SystemFunction.TheVariants.{Signed, Clog2}
use Rattle.rtl_tree.specs.TreeExpr.{Identifier, Formula, Number, Read, ReadBit, ReadPart, Parens, Apply, Repeat, Binary, Choose, no_formulas, more_formulas}
use Rattle.rtl_tree.specs.TreeStmt.{Bit, Whole, Joined, Labelled, Default, Null, no_branches, more_branches, no_targets, more_targets}
use Rattle.rtl_tree.specs.TreeItem.{Change, ChangeBit, Listed, Star}
use Rattle.elab_scope.specs.declared.known.Known.TheVariants.{Signal}
use Rattle.elab_scope.specs.declared.known.Role.TheVariants.{Net}
use Rattle.elab_scope.specs.Names.{Meanings}
use Rattle.elab_nodes.specs.Nodes.{node_count}
use Rattle.elab_nodes.specs.Spares.{spared}
use Rattle.elab_nodes.specs.Totals.{assignment_count, case_count, listing_count}

-- a net a of eight bits
abbrev scope : Meanings
scope name =
    if bytes_eq name (97 ∷ []) then Some (Signal 0 Net (Some (record { width = 8; signed = false; low = 0 }))) else None

abbrev a : Identifier
a = record { text = 97 ∷ []; at = 1 }

abbrev three : Formula
three = Number (record { width = 32; val = 3; unk = 0; signed = true; sized = false; radix = 10 }) 2

-- (a) + 3: parentheses have no node
sum : node_count scope (Binary Add 4 (Parens 0 (Read a)) three) ≡ 3
sum = refl

-- a[3] is one, a[a] has its index too, and a[3:3] is one
constant_bit : node_count scope (ReadBit a three) ≡ 1
constant_bit = refl

computed_bit : node_count scope (ReadBit a (Read a)) ≡ 2
computed_bit = refl

part : node_count scope (ReadPart a Between three three) ≡ 1
part = refl

-- 3 ** 3 and $clog2(3) are one each, and $signed(a) is two
power : node_count scope (Binary Power 4 three three) ≡ 1
power = refl

logarithm : node_count scope (Apply Clog2 0 three) ≡ 1
logarithm = refl

conversion : node_count scope (Apply Signed 0 (Read a)) ≡ 2
conversion = refl

-- {3{a, a}}: itself, what it repeats, and the parts; the number of times isn't in the design
repeated : node_count scope (Repeat 0 three (more_formulas (Read a) (more_formulas (Read a) no_formulas))) ≡ 4
repeated = refl

chosen : node_count scope (Choose 5 (Read a) three (Parens 6 (Read a))) ≡ 4
chosen = refl

-- {a, a[a]} = a + 3
assigned : assignment_count scope (Joined 0 (more_targets (Whole a) (more_targets (Bit a (Read a)) no_targets))) (Binary Add 4 (Read a) three) ≡ 4
assigned = refl

-- case (a) 3, a: ; default: ; endcase
labelled : case_count scope (Read a) (more_branches (Labelled (three ∷ Read a ∷ []) (Null 7)) (more_branches (Default 8 (Null 9)) no_branches)) ≡ 3
labelled = refl

-- @(a or a[3] or a[a]), and @*
listed : listing_count scope (Listed (Change a ∷ ChangeBit a three ∷ ChangeBit a (Read a) ∷ [])) ≡ 1
listed = refl

starred : listing_count scope Star ≡ 0
starred = refl

-- of four nodes four leave none, and of three there are too few
enough : spared 4 4 ≡ Some 0
enough = refl

too_few : spared 3 4 ≡ None
too_few = refl
