-- Uses of genvars at work.
use Rattle.std.specs.Prelude.{ℕ, true, false, if◌then◌else◌, pos, [], ◌∷◌, None, Some}
use Rattle.std.specs.Str.{bytes_eq}
use Rattle.std.proofs.Common.{◌≡◌, refl}
use Rattle.rtl_tree.specs.declared.tree.operators.BinaryOperator.TheVariants.{BitwiseAnd, Less, Add}
use Rattle.rtl_tree.specs.TreeExpr.{Formula, Identifier, Number, Read, ReadBit, Binary}
use Rattle.rtl_tree.specs.TreeStmt.{Bit, Null, For}
use Rattle.rtl_tree.specs.TreeItem.{Drives, Instances, ByName}
use Rattle.elab_scope.specs.declared.known.Known.TheVariants.{Integer}
use Rattle.elab_scope.specs.Faults.{Genvar}
use Rattle.elab_scope.specs.Names.{Meanings}
use Rattle.elab_scope.specs.Rules.{fault}
use Rattle.elab_genvars.specs.Genvars.{action_genvars, item_genvars}

-- a genvar i outside its loop, and a genvar j that is 2 in a turn of its loop
abbrev scope : Meanings
scope name =
    if bytes_eq name (105 ∷ []) then Some (Integer None)
    else if bytes_eq name (106 ∷ []) then Some (Integer (Some (pos 2))) else None

-- the names i, j and y
abbrev i : ℕ → Identifier
i at = record { text = 105 ∷ []; at = at }

abbrev j : ℕ → Identifier
j at = record { text = 106 ∷ []; at = at }

abbrev y : ℕ → Identifier
y at = record { text = 121 ∷ []; at = at }

abbrev whole : ℕ → ℕ → Formula
whole n at = Number (record { width = 32; val = n; unk = 0; signed = true; sized = false; radix = 10 }) at

-- assign y[i] = j[1] & j; has i without a number, and a bit of j
selects : item_genvars scope (Drives 0 None (record { target = Bit (y 7) (Read (i 9)); value = Binary BitwiseAnd 19 (ReadBit (j 14) (whole 1 16)) (Read (j 21)) } ∷ []))
    ≡ fault 9 (Genvar (105 ∷ [])) ∷ fault 14 (Genvar (106 ∷ [])) ∷ []
selects = refl

-- i #(.i(j)) i (.i(i)); uses i in the last parentheses alone
placed : item_genvars scope (Instances (i 0) (ByName (record { at = 4; name = i 5; value = Some (Read (j 7)) } ∷ [])) (record { name = i 11; connections = ByName (record { at = 14; name = i 15; value = Some (Read (i 17)) } ∷ []) } ∷ []))
    ≡ fault 17 (Genvar (105 ∷ [])) ∷ []
placed = refl

-- for (i = 0; j < 4; i = j + 1) ;
stepped : action_genvars scope (For 0 (i 5) (whole 0 9) (Binary Less 14 (Read (j 12)) (whole 4 16)) (i 19) (Binary Add 25 (Read (j 23)) (whole 1 27)) (Null 30))
    ≡ fault 5 (Genvar (105 ∷ [])) ∷ fault 19 (Genvar (105 ∷ [])) ∷ []
stepped = refl
