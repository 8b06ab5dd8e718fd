-- Constructs at work.
use Rattle.std.specs.Prelude.{ℕ, false, true, List, [], ◌∷◌, ◌++◌, codes, map, None, Some}
use Rattle.std.proofs.Common.{◌≡◌, refl}
use Rattle.rtl_tree.specs.declared.tree.operators.BinaryOperator.TheVariants.{Add, Less}
use Rattle.rtl_tree.specs.declared.tree.item.ParameterKind.TheVariants as kind
use Rattle.rtl_tree.specs.TreeExpr.{Formula, Identifier, Binary, Number, Read}
use Rattle.rtl_tree.specs.TreeItem.{ModuleItem, Gates, Nets, Parameters}
use Rattle.rtl_tree.specs.TreeModule.{Circuit, Construct, Absent}
use Rattle.rtl_tree.specs.TreeWritten.{WrittenItem, Plain, Genvars, For, If, Block, no_items, more_items}
use Rattle.elab_scope.specs.Faults.{Genvar}
use Rattle.elab_scope.specs.Rules.{fault}
use Rattle.elab_items.specs.Settings.{no_settings}
use Rattle.elab_renames.specs.Renames.{named, renamed_item}
use Rattle.elab_expand.specs.Expansions.{Expansion, Loop, Opening, expansion, index_literal, turn_component, turning, turns}
use Rattle.elab_expand.specs.Scoping.{no_scopes, with_names}
use Rattle.elab_items.specs.Drafts.{numberless}

-- the names b, i and x
abbrev b : ℕ → Identifier
b at = record { text = codes "b"; at = at }

abbrev i : ℕ → Identifier
i at = record { text = codes "i"; at = at }

abbrev x : ℕ → Identifier
x at = record { text = codes "x"; at = at }

abbrev number : ℕ → ℕ → Formula
number n at = Number (index_literal n) at

-- a module without items, which has these constructs
abbrev with_constructs : List WrittenItem → Circuit
with_constructs all =
    record {
      at = 0;
      name = record { text = codes "m"; at = 7 };
      parameters = [];
      header = Absent;
      items = [];
      constructs = map (λ written. record { position = 0; written = written }) all;
      dropped = [];
    }

abbrev wire : ℕ → Identifier → ModuleItem
wire at name = Nets at false None (record { name = name; value = None } ∷ [])

-- for (i = 0; i < n; i = i + 1) begin : b wire x; end
abbrev loop : ℕ → WrittenItem
loop n =
    For 20 (i 25) (number 0 29) (Binary Less 34 (Read (i 32)) (number n 36)) (i 39) (Binary Add 45 (Read (i 43)) (number 1 47))
    (Block 50 (Some (b 58)) (more_items (Plain (wire 60 (x 65))) no_items))

abbrev b_loop : Loop
b_loop = record { at = 20; index = i 25; condition = number 1 34; step = number 1 45; label = codes "b" }

abbrev made : List WrittenItem → Expansion
made all = expansion no_settings (with_constructs all)

abbrev index : List ℕ → ℕ → ModuleItem
index name n = Parameters 25 kind.Local None (record { name = record { text = name; at = 25 }; value = number n 25 } ∷ [])

abbrev in_turn : ℕ → List ℕ → List ℕ
in_turn n name = turn_component (codes "b") n ++ name

-- a loop without turns declares its genvar and the name of its block
no_turn : (made (Genvars 10 (i 17 ∷ []) ∷ loop 0 ∷ [])).circuit.items ≡ Gates 10 (i 17 ∷ []) None [] ∷ Gates 58 (b 58 ∷ []) None [] ∷ []
unfolding expansion turns named
no_turn = refl

-- a turn has a genvar and a net of its own
turn_items : (o : Opening) → (turning b_loop 3 o).items ≡ index (codes "i") 3 ∷ []
turn_items o = refl

-- a net of the turn has the turn's name before its own
lifted_net : renamed_item (named (with_names no_scopes (x 65 ∷ []) numberless).own (in_turn 3 [])) (wire 60 (x 65)) ≡ wire 60 (record { text = in_turn 3 [] ++ codes "x"; at = 65 })
unfolding named
lifted_net = refl

-- what goes over another name than a genvar
no_genvar : (made (loop 2 ∷ [])).tally.told ≡ Some (record { at = 25; breach = Genvar (codes "i") })
unfolding expansion turns named
no_genvar = refl

-- an `if` that isn't taken makes nothing
not_taken : (made (If 10 (number 0 14) (Block 17 None (more_items (Plain (wire 23 (x 28))) no_items)) ∷ [])).circuit.items ≡ []
unfolding expansion turns named
not_taken = refl
