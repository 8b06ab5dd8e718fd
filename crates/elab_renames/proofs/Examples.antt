-- Items outside the block that declares their names.
use Rattle.std.specs.Prelude.{ℕ, true, false, List, [], ◌∷◌, None, Some}
use Rattle.std.proofs.Common.{◌≡◌, refl}
use Rattle.rtl_tree.specs.declared.tree.item.EventEdge.TheVariants.{Posedge}
use Rattle.rtl_tree.specs.declared.tree.operators.BinaryOperator.TheVariants.{Add, Less}
use Rattle.rtl_tree.specs.declared.tree.stmt.AssignmentKind.TheVariants.{Nonblocking}
use Rattle.rtl_tree.specs.TreeExpr.{Formula, Identifier, Number, Read, ReadBit, Binary}
use Rattle.rtl_tree.specs.TreeStmt.{Bit, Assign, For, Block, no_actions, more_actions}
use Rattle.rtl_tree.specs.TreeItem.{Nets, Always, Edge, Listed, ByPosition, ByName, Instances}
use Rattle.elab_scope.specs.declared.known.Known.TheVariants.{Integer}
use Rattle.elab_scope.specs.Names.{Meanings, no_meanings, with_meaning}
use Rattle.elab_renames.specs.Renames.{named, renamed_item}

-- a name of one letter, and the same behind g[0] and a dot
abbrev letter : ℕ → ℕ → Identifier
letter code at = record { text = code ∷ []; at = at }

abbrev inner : ℕ → ℕ → Identifier
inner code at = record { text = 103 ∷ 91 ∷ 48 ∷ 93 ∷ 46 ∷ code ∷ []; at = at }

-- the block declares a, u and i; b, c and m are names of the module around it
abbrev block : Meanings
block =
    with_meaning
    (with_meaning (with_meaning no_meanings (97 ∷ []) (Integer None)) (117 ∷ []) (Integer None))
    (105 ∷ [])
    (Integer None)

abbrev in_block : List ℕ → List ℕ
in_block = named block (103 ∷ 91 ∷ 48 ∷ 93 ∷ 46 ∷ [])

-- wire a = b; is wire g[0].a = b;
net : renamed_item in_block (Nets 0 false None (record { name = letter 97 5; value = Some (Read (letter 98 9)) } ∷ []))
    ≡ Nets 0 false None (record { name = inner 97 5; value = Some (Read (letter 98 9)) } ∷ [])
unfolding named
net = refl

-- m u (.a(a), .b()); is m g[0].u (.a(g[0].a), .b());
instance : renamed_item in_block (Instances (letter 109 0) (ByPosition []) (record { name = letter 117 2; connections = ByName (record { at = 5; name = letter 97 6; value = Some (Read (letter 97 8)) } ∷ record { at = 12; name = letter 98 13; value = None } ∷ []) } ∷ []))
    ≡ Instances (letter 109 0) (ByPosition []) (record { name = inner 117 2; connections = ByName (record { at = 5; name = letter 97 6; value = Some (Read (inner 97 8)) } ∷ record { at = 12; name = letter 98 13; value = None } ∷ []) } ∷ [])
unfolding named
instance = refl

abbrev whole : ℕ → ℕ → Formula
whole n at = Number (record { width = 32; val = n; unk = 0; signed = true; sized = false; radix = 10 }) at

-- always @(posedge c) for (i = 0; i < 2; i = i + 1) begin : a  a[i] <= b[i]; end: the label stays
process : renamed_item in_block (Always 0 (Listed (Edge Posedge 9 (letter 99 17) ∷ [])) (For 20 (letter 105 25) (whole 0 29) (Binary Less 34 (Read (letter 105 32)) (whole 2 36)) (letter 105 39) (Binary Add 45 (Read (letter 105 43)) (whole 1 47)) (Block 50 (Some (letter 97 58)) (more_actions (Assign (Bit (letter 97 60) (Read (letter 105 62))) Nonblocking None (ReadBit (letter 98 68) (Read (letter 105 70)))) no_actions))))
    ≡ Always 0 (Listed (Edge Posedge 9 (letter 99 17) ∷ [])) (For 20 (inner 105 25) (whole 0 29) (Binary Less 34 (Read (inner 105 32)) (whole 2 36)) (inner 105 39) (Binary Add 45 (Read (inner 105 43)) (whole 1 47)) (Block 50 (Some (letter 97 58)) (more_actions (Assign (Bit (inner 97 60) (Read (inner 105 62))) Nonblocking None (ReadBit (letter 98 68) (Read (inner 105 70)))) no_actions)))
unfolding named
process = refl
