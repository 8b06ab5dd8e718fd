-- Bodies and items at work.
use Rattle.std.specs.Prelude.{ℕ, ℤ, pos, true, false, if◌then◌else◌, List, [], ◌∷◌, map, Option, None, Some}
use Rattle.std.specs.Str.{bytes_eq}
use Rattle.std.proofs.Common.{◌≡◌, refl}
use Rattle.rtl_tree.specs.declared.tree.item.EventEdge.TheVariants.{Posedge}
use Rattle.rtl_tree.specs.declared.tree.operators.BinaryOperator.TheVariants.{Add, Less}
use Rattle.rtl_tree.specs.declared.tree.operators.UnaryOperator.TheVariants.{BitwiseNot}
use Rattle.rtl_tree.specs.declared.tree.stmt.AssignmentKind.TheVariants.{Blocking}
use Rattle.rtl_tree.specs.declared.tree.stmt.CaseKind.TheVariants.{Plain}
use Rattle.rtl_tree.specs.declared.tree.operators.PartKind.TheVariants.{Between, Up}
use Rattle.rtl_tree.specs.TreeExpr.{Identifier, Formula, Read, Parens, Unary, Binary}
use Rattle.rtl_tree.specs.TreeExpr as formula
use Rattle.rtl_tree.specs.TreeItem.{Drives, Gates, Always, Nets, Edge, Change, ChangeBit, ChangePart, Listed}
use Rattle.rtl_tree.specs.TreeStmt.{Bit, Part, Whole, Joined, no_targets, more_targets, Action, Null, Assign, If, IfElse, For, Case, Branches, Labelled, Default, no_branches, more_branches}
use Rattle.elab_body.specs.elab_scope.declared.known.Known.TheVariants.{Signal, Integer}
use Rattle.elab_body.specs.elab_scope.declared.known.Role.TheVariants.{Net, Variable}
use Rattle.elab_body.specs.elab_scope.Names.{Meanings, number_of}
use Rattle.elab_standard.specs.Scopes.{Scopes}
use Rattle.elab_standard.specs.Uses.{Use, Value, Number, Test, Count}
use Rattle.elab_standard.specs.Uses as uses
use Rattle.elab_uses.specs.Bodies.{Uses, body_uses, loop_uses, turn_uses}
use Rattle.elab_uses.specs.Items.{item_uses}

-- a variable d of two bits, a net w of one bit, and an integer i
abbrev scope : Meanings
scope name =
    if bytes_eq name (100 ∷ []) then Some (Signal 0 Variable (Some (record { width = 2; signed = false; low = 0 })))
    else if bytes_eq name (119 ∷ []) then Some (Signal 1 Net (Some (record { width = 1; signed = false; low = 0 })))
    else if bytes_eq name (105 ∷ []) then Some (Integer None) else None

abbrev s : Scopes
s = record { scope = scope; standards = λ name. None }

abbrev d : ℕ → Identifier
d at = record { text = 100 ∷ []; at = at }

abbrev w : ℕ → Identifier
w at = record { text = 119 ∷ []; at = at }

abbrev i : ℕ → Identifier
i at = record { text = 105 ∷ []; at = at }

abbrev whole : ℕ → ℕ → Formula
whole n at =
    formula.Number (record { width = 32; val = n; unk = 0; signed = true; sized = false; radix = 10 }) at

-- uses, each with the number that i has there
abbrev seen : Uses → List (Option ℤ × Use)
seen all = map (λ one. (number_of (one.0.scope (105 ∷ [])), one.1)) all

-- i < 2, and i + 1
abbrev below : Formula
below = Binary Less 24 (Read (i 22)) (whole 2 26)

abbrev next : Formula
next = Binary Add 35 (Read (i 33)) (whole 1 37)

-- for (i = 0; i < 2; i = i + 1) body
abbrev twice : Action → Action
twice body = For 10 (i 15) (whole 0 19) below (i 29) next body

-- d[i] = d;
abbrev one_bit : Action
one_bit = Assign (Bit (d 50) (Read (i 52))) Blocking None (Read (d 57))

-- d = d;
abbrev all_bits : Action
all_bits = Assign (Whole (d 60)) Blocking None (Read (d 64))

-- a loop is its turns, and its condition is tested before each and behind the last; in a turn an index that names i
-- is a number
two_turns : seen (body_uses (twice one_bit) s) ≡ (None, Count (whole 0 19)) ∷ (Some (pos 0), Test below) ∷ (Some (pos 0), Number (Read (i 52))) ∷ (Some (pos 0), Value (Read (d 57)) 1) ∷ (Some (pos 0), Count next) ∷ (Some (pos 1), Test below) ∷ (Some (pos 1), Number (Read (i 52))) ∷ (Some (pos 1), Value (Read (d 57)) 1) ∷ (Some (pos 1), Count next) ∷ (Some (pos 2), Test below) ∷ []
unfolding turn_uses loop_uses
two_turns = refl

-- d[d] = d; has an index that is worked out
computed_index : seen (body_uses (Assign (Bit (d 50) (Read (d 52))) Blocking None (Read (d 57))) s) ≡ (None, Value (Read (d 52)) 0) ∷ (None, Value (Read (d 57)) 1) ∷ []
computed_index = refl

-- if (0) d[i] = d; is its condition alone
not_taken : seen (body_uses (If 10 (whole 0 14) one_bit) s) ≡ (None, Test (whole 0 14)) ∷ []
not_taken = refl

-- if (0) d[i] = d; else d = d;
otherwise_taken : seen (body_uses (IfElse 10 (whole 0 14) one_bit all_bits) s) ≡ (None, Test (whole 0 14)) ∷ (None, Value (Read (d 64)) 2) ∷ []
otherwise_taken = refl

-- if (d) d = d; else d = d;
both_left : seen (body_uses (IfElse 10 (Read (d 14)) all_bits all_bits) s) ≡ (None, Value (Read (d 14)) 0) ∷ (None, Value (Read (d 64)) 2) ∷ (None, Value (Read (d 64)) 2) ∷ []
both_left = refl

-- case (d) 1: d = d; default: ; endcase
abbrev items : Branches
items =
    more_branches (Labelled (whole 1 20 ∷ []) all_bits) (more_branches (Default 70 (Null 79)) no_branches)

labels_with_selector : seen (body_uses (Case 10 Plain false false (Read (d 16)) items) s) ≡ (None, uses.Case 10 (Read (d 16)) items) ∷ (None, Value (Read (d 64)) 2) ∷ []
labels_with_selector = refl

-- assign {w, d[1:0]} = d;
joined : seen (item_uses s (Drives 1 None (record { target = Joined 8 (more_targets (Whole (w 9)) (more_targets (Part (d 12) Between (whole 1 14) (whole 0 16)) no_targets)); value = Read (d 22) } ∷ []))) ≡ (None, Number (whole 1 14)) ∷ (None, Number (whole 0 16)) ∷ (None, Value (Read (d 22)) 3) ∷ []
unfolding item_uses
joined = refl

-- not (w, d[1], d[0]); has the input once for both outputs
two_outputs : seen (item_uses s (Gates 1 [] None (record { outputs = Whole (w 5) ∷ Bit (d 8) (whole 1 10) ∷ []; value = Unary BitwiseNot 5 (Parens 14 (formula.ReadBit (d 14) (whole 0 16))) } ∷ []))) ≡ (None, Number (whole 1 10)) ∷ (None, Value (Unary BitwiseNot 5 (Parens 14 (formula.ReadBit (d 14) (whole 0 16)))) 1) ∷ []
unfolding item_uses
two_outputs = refl

-- assign d[0 +: 2] = d;
run_driven : seen (item_uses s (Drives 1 None (record { target = Part (d 12) Up (whole 0 14) (whole 2 19); value = Read (d 22) } ∷ []))) ≡ (None, Number (whole 0 14)) ∷ (None, Number (whole 2 19)) ∷ (None, Value (Read (d 22)) 2) ∷ []
unfolding item_uses
run_driven = refl

-- wire w = d; drives w whole
net_driven : seen (item_uses s (Nets 1 false None (record { name = w 6; value = Some (Read (d 10)) } ∷ []))) ≡ (None, Value (Read (d 10)) 1) ∷ []
unfolding item_uses
net_driven = refl

-- always @(posedge w or w or d[0] or d[w] or d[1:0]) ;
listed : seen (item_uses s (Always 1 (Listed (Edge Posedge 10 (w 18) ∷ Change (w 23) ∷ ChangeBit (d 28) (whole 0 30) ∷ ChangeBit (d 36) (Read (w 38)) ∷ ChangePart (d 44) (whole 1 46) (whole 0 48) ∷ [])) (Null 52))) ≡ (None, Number (whole 0 30)) ∷ (None, Value (Read (w 38)) 0) ∷ (None, Number (whole 1 46)) ∷ (None, Number (whole 0 48)) ∷ []
unfolding item_uses
listed = refl
