-- Gates as assignments, and generate constructs apart from other items.
use Rattle.std.specs.Prelude.{ℕ, ◌+◌, ◌++◌, codes, true, false, List, [], ◌∷◌, None, Some}
use Rattle.std.proofs.Common.{◌≡◌, ap, lit<, refl}
use Rattle.std.proofs.lemmas.Fmt.{decimal_digit}
use Rattle.rtl_tree.specs.declared.tree.gate.GateKind.TheVariants.{And, Nand, Buf, Not}
use Rattle.rtl_tree.specs.declared.tree.operators.BinaryOperator.TheVariants.{BitwiseAnd}
use Rattle.rtl_tree.specs.declared.tree.operators.UnaryOperator.TheVariants.{BitwiseNot}
use Rattle.rtl_tree.specs.TreeExpr.{Formula, Identifier, Number, Read, Parens, Unary, Binary}
use Rattle.rtl_tree.specs.TreeStmt.{Whole, Valued}
use Rattle.rtl_tree.specs.TreeItem.{ModuleItem, Gates}
use Rattle.rtl_tree.specs.TreeGate.{Gate, Two}
use Rattle.rtl_tree.specs.TreeWritten.{WrittenItem, Plain, Primitives, Region, If, IfElse, For, WrittenItems, no_items, more_items, GenerateBlock, Null, Single, Block}
use Rattle.rtl_unroll.specs.Gates.{drives_of, gates_item}
use Rattle.rtl_unroll.specs.Lowered.{loop_name, lowered_items}
use Rattle.rtl_unroll.specs.Numbering.{item_constructs}
use Rattle.rtl_unroll.specs.Plain.{nothing_sorted, sorted_items}

-- the names a, b, c, y, z and g
abbrev a : Identifier
a = record { text = 97 ∷ []; at = 10 }

abbrev b : Identifier
b = record { text = 98 ∷ []; at = 13 }

abbrev c : Identifier
c = record { text = 99 ∷ []; at = 16 }

abbrev y : Identifier
y = record { text = 121 ∷ []; at = 7 }

abbrev z : Identifier
z = record { text = 122 ∷ []; at = 10 }

abbrev g : Identifier
g = record { text = 103 ∷ []; at = 4 }

-- a gate without a name whose output is y
abbrev gate_of : List Formula → Gate
gate_of terminals = record { name = None; output = Whole y; terminals = terminals }

-- (name)
abbrev given : Identifier → Formula
given name = Parens name.at (Read name)

-- and (y, a, b, c): neighbours are joined first
and_of_three : drives_of And (gate_of (Read a ∷ Read b ∷ Read c ∷ []))
    ≡ record { outputs = Whole y ∷ []; value = Binary BitwiseAnd 7 (Binary BitwiseAnd 7 (given a) (given b)) (given c) } ∷ []
and_of_three = refl

-- nand (y, a): an inverter
nand_of_one : drives_of Nand (gate_of (Read a ∷ []))
    ≡ record { outputs = Whole y ∷ []; value = Unary BitwiseNot 7 (given a) } ∷ []
nand_of_one = refl

-- nand (y, a, b)
nand_of_two : drives_of Nand (gate_of (Read a ∷ Read b ∷ []))
    ≡ record { outputs = Whole y ∷ []; value = Unary BitwiseNot 7 (Binary BitwiseAnd 7 (given a) (given b)) } ∷ []
nand_of_two = refl

-- buf (y, z, b): two outputs, and no z passes
buf_of_two : drives_of Buf (gate_of (Read z ∷ Read b ∷ []))
    ≡ record { outputs = Whole y ∷ Whole z ∷ []; value = Unary BitwiseNot 7 (Unary BitwiseNot 7 (given b)) } ∷ []
buf_of_two = refl

-- not (y, a)
inverter : drives_of Not (gate_of (Read a ∷ []))
    ≡ record { outputs = Whole y ∷ []; value = Unary BitwiseNot 7 (given a) } ∷ []
inverter = refl

-- not g (y, a), (y, b);
two_gates : gates_item 0 Not None (record { name = Some g; output = Whole y; terminals = Read a ∷ [] } ∷ gate_of (Read b ∷ []) ∷ [])
    ≡ Gates 0 (g ∷ []) None (record { outputs = Whole y ∷ []; value = Unary BitwiseNot 7 (given a) } ∷ record { outputs = Whole y ∷ []; value = Unary BitwiseNot 7 (given b) } ∷ [])
two_gates = refl

abbrev whole : ℕ → ℕ → Formula
whole n at = Number (record { width = 32; val = n; unk = 0; signed = true; sized = false; radix = 10 }) at

-- not #(1, 2) (y, a);
rise_and_fall : gates_item 0 Not (Some (record { at = 4; span = Two (whole 1 6) (whole 2 9) })) (gate_of (Read a ∷ []) ∷ [])
    ≡ Gates 0 [] (Some (record { at = 4; span = Valued (whole 1 6) })) (record { outputs = Whole y ∷ []; value = Unary BitwiseNot 7 (given a) } ∷ [])
rise_and_fall = refl

-- ---- generate constructs

-- genblk2
named_loop : loop_name 2 20 ≡ record { text = 103 ∷ 101 ∷ 110 ∷ 98 ∷ 108 ∷ 107 ∷ 50 ∷ []; at = 20 }
named_loop = ap (λ digits. record { text = codes "genblk" ++ digits; at = 20 }) (decimal_digit 2 (lit< tt))

-- buf (y, b); and the assignment that it is
abbrev buffer : WrittenItem
buffer = Primitives 0 Buf None (gate_of (Read b ∷ []) ∷ [])

abbrev assignment : ModuleItem
assignment =
    Gates 0 [] None (record { outputs = Whole y ∷ []; value = Unary BitwiseNot 7 (Unary BitwiseNot 7 (given b)) } ∷ [])

-- for (a = b; c; a = z) body
abbrev loop : ℕ → GenerateBlock → WrittenItem
loop at body = For at a (Read b) (Read c) a (Read z) body

abbrev alone : WrittenItem → WrittenItems
alone item = more_items item no_items

abbrev row_of : WrittenItem → WrittenItem → WrittenItems
row_of first second = more_items first (alone second)

-- what a loop with a number, at a place, makes of `;` right behind its place
abbrev empty : ℕ → ℕ → GenerateBlock
empty number at = Block (at + 1) (Some (loop_name number at)) no_items

-- if (c) buf (y, b); for .. buf (y, b); the loop is the second construct of its scope
loop_behind_if : (sorted_items nothing_sorted (row_of (If 5 (Read c) (Single buffer)) (loop 20 (Single buffer)))).constructs
    ≡ record { position = 0; written = If 5 (Read c) (Single (Plain assignment)) }
    ∷ record { position = 0; written = loop 20 (Block 20 (Some (loop_name 2 20)) (alone (Plain assignment))) }
    ∷ []
loop_behind_if = refl

-- if (c) begin for .. ; end else if (a) for .. ; else for .. ;
abbrev chain : GenerateBlock → GenerateBlock → GenerateBlock → WrittenItem
chain first second third =
    let others = IfElse 30 (Read a) (Single (loop 40 second)) (Single (loop 50 third)) in
    IfElse 5 (Read c) (Block 8 None (alone (loop 20 first))) (Single others)

-- the loops of a chain and one behind it: the second `if` isn't a construct more
loops_of_chain : lowered_items 0 (row_of (chain (Null 21) (Null 41) (Null 51)) (loop 60 (Null 61)))
    ≡ row_of (chain (empty 2 20) (empty 3 40) (empty 4 50)) (loop 60 (empty 5 60))
loops_of_chain = refl

-- if (c) ; else if (a) ; else if (b) ; is one construct
constructs_of_chain : (let others = IfElse 15 (Read a) (Null 19) (Single (If 25 (Read b) (Null 29))) in
    item_constructs (IfElse 5 (Read c) (Null 9) (Single others)) ≡ 1)
constructs_of_chain = refl

-- if (c) begin : g for .. body end
abbrev choice : GenerateBlock → WrittenItem
choice body = If 5 (Read c) (Block 8 (Some g) (alone (loop 20 body)))

-- if (c) begin : g for .. for .. ; end for .. ; a block with a label and a loop have numbers of their own
numbers_of_scopes : lowered_items 0 (row_of (choice (Single (loop 30 (Null 31)))) (loop 40 (Null 41)))
    ≡ row_of (choice (Block 20 (Some (loop_name 1 20)) (alone (loop 30 (empty 1 30))))) (loop 40 (empty 2 40))
numbers_of_scopes = refl

-- generate buf (y, b); if (c) ; endgenerate buf (y, b);
region : sorted_items nothing_sorted (row_of (Region 0 (row_of buffer (If 5 (Read c) (Null 9)))) buffer)
    ≡ record {
      items = assignment ∷ assignment ∷ [];
      constructs = record { position = 1; written = If 5 (Read c) (Null 9) } ∷ [];
      count = 1;
    }
region = refl
