-- Sizes at work.
use Rattle.std.specs.Prelude.{ℕ, true, false, [], ◌∷◌, None, Some}
use Rattle.std.proofs.Common.{◌≡◌, refl}
use Rattle.rtl_tree.specs.declared.tree.operators.BinaryOperator.TheVariants.{BitwiseAnd}
use Rattle.rtl_tree.specs.TreeExpr.{Formula, Identifier, Number, Read, Binary}
use Rattle.rtl_tree.specs.TreeStmt.{Whole}
use Rattle.rtl_tree.specs.TreeItem.{Drives, Nets}
use Rattle.elab_sizes.specs.Sizes.{item_size}

-- the names y and ab
abbrev y : ℕ → Identifier
y at = record { text = 121 ∷ []; at = at }

abbrev ab : ℕ → Identifier
ab at = record { text = 97 ∷ 98 ∷ []; at = at }

abbrev whole : ℕ → ℕ → Formula
whole n at = Number (record { width = 32; val = n; unk = 0; signed = true; sized = false; radix = 10 }) at

-- assign y = ab & 1; the item, a target with y, an operator, a read of ab and a number
assignment : item_size (Drives 0 None (record { target = Whole (y 7); value = Binary BitwiseAnd 14 (Read (ab 11)) (whole 1 16) } ∷ [])) ≡ 10
assignment = refl

-- wire [7:0] y, ab = y; the item, two ends, and two names, of which one is driven by a read of y
nets : item_size (Nets 0 false (Some (record { at = 5; msb = whole 7 6; lsb = whole 0 8 })) (record { name = y 11; value = None } ∷ record { name = ab 14; value = Some (Read (y 19)) } ∷ [])) ≡ 11
nets = refl
