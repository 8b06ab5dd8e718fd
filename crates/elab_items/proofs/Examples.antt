-- Declarations at work.
use Rattle.std.specs.Prelude.{ℕ, false, true, pos, List, [], ◌∷◌, map, None, Some}
use Rattle.std.proofs.Common.{◌≡◌, refl}
use Rattle.rtl_tree.specs.declared.tree.item.Direction.TheVariants.{Input, Output}
use Rattle.rtl_tree.specs.declared.tree.item.ParameterKind.TheVariants.{Parameter}
use Rattle.rtl_tree.specs.declared.tree.operators.BinaryOperator.TheVariants.{Subtract}
use Rattle.rtl_tree.specs.TreeExpr.{Bounds, Formula, Identifier, Number, Read, Binary}
use Rattle.rtl_tree.specs.TreeItem.{ModuleItem, Ports, Variables, Parameters, Gates}
use Rattle.rtl_tree.specs.TreeModule.{Circuit, Named}
use Rattle.elab_scope.specs.declared.known.Known.TheVariants as known
use Rattle.elab_scope.specs.declared.known.Role.TheVariants as role
use Rattle.elab_scope.specs.Faults.{DeclaredTwice, TooLarge}
use Rattle.elab_scope.specs.Rules.{fault}
use Rattle.elab_items.specs.Scopes.{declaration_faults, listings_of, scope_of}
use Rattle.elab_items.specs.Settings.{no_settings, with_setting}

-- the names a, y, n, W and q
abbrev a : ℕ → Identifier
a at = record { text = 97 ∷ []; at = at }

abbrev y : ℕ → Identifier
y at = record { text = 121 ∷ []; at = at }

abbrev w : ℕ → Identifier
w at = record { text = 87 ∷ []; at = at }

abbrev whole : ℕ → ℕ → Formula
whole n at = Number (record { width = 32; val = n; unk = 0; signed = true; sized = false; radix = 10 }) at

-- [W-1:0]
abbrev down_from_w : ℕ → Bounds
down_from_w at =
    record { at = at; msb = Binary Subtract at (Read (w at)) (whole 1 at); lsb = whole 0 at }

-- module m(y, a); input [W-1:0] a; parameter W = 4; output y; items endmodule
abbrev with_items : List ModuleItem → Circuit
with_items items =
    record {
      at = 0;
      name = record { text = 109 ∷ []; at = 7 };
      parameters = [];
      header = Named (y 9 ∷ a 12 ∷ []);
      items =
          Ports (record { at = 20; direction = Input; kind = None; signed = false; bounds = Some (down_from_w 26) }) (a 32 ∷ [])
          ∷ Parameters 35 Parameter None (record { name = w 45; value = whole 4 49 } ∷ [])
          ∷ Ports (record { at = 52; direction = Output; kind = None; signed = false; bounds = None }) (y 59 ∷ [])
          ∷ items;
      constructs = [];
      dropped = [];
    }

abbrev reg_y : ModuleItem
reg_y = Variables 62 false None (record { name = y 66; initial = false } ∷ [])

-- reg [W-1:0] y
abbrev wide_y : ModuleItem
wide_y = Variables 62 false (Some (down_from_w 66)) (record { name = y 72; initial = false } ∷ [])

-- ports come in the order of the head; a parameter counts before its declaration too
input_a : scope_of no_settings (with_items (reg_y ∷ [])) (97 ∷ []) ≡ Some (known.Signal 1 role.Input (Some (record { width = 4; signed = false; low = 0 })))
input_a = refl

variable_y : scope_of no_settings (with_items (reg_y ∷ [])) (121 ∷ []) ≡ Some (known.Signal 0 role.Variable (Some (record { width = 1; signed = false; low = 0 })))
variable_y = refl

parameter_w : scope_of no_settings (with_items (reg_y ∷ [])) (87 ∷ []) ≡ Some (known.Parameter (Some (pos 4)) 32 true)
parameter_w = refl

-- the place of a signal is that of the name in its first declaration
places : map (λ listing. listing.line.at) (listings_of no_settings (with_items (reg_y ∷ []))) ≡ 59 ∷ 32 ∷ []
places = refl

no_fault : declaration_faults no_settings 19998 (with_items (reg_y ∷ [])) ≡ []
no_fault = refl

-- the signal that is one too many
one_too_many : declaration_faults no_settings 19999 (with_items (reg_y ∷ [])) ≡ fault 32 TooLarge ∷ []
one_too_many = refl

-- two declarations of a port with unequal ranges
unequal : declaration_faults no_settings 0 (with_items (wide_y ∷ [])) ≡ fault 72 (DeclaredTwice (121 ∷ [])) ∷ []
unequal = refl

-- the name of a gate is a name of the module, which stands for nothing
gate_again : declaration_faults no_settings 0 (with_items (reg_y ∷ Gates 70 (y 74 ∷ []) None [] ∷ [])) ≡ fault 74 (DeclaredTwice (121 ∷ [])) ∷ []
gate_again = refl

gate_alone : scope_of no_settings (with_items (Gates 70 (record { text = 103 ∷ []; at = 74 } ∷ []) None [] ∷ [])) (103 ∷ []) ≡ None
gate_alone = refl

-- an instance sets the parameter, and with it the width
set_to_9 : scope_of (with_setting no_settings (87 ∷ []) (record { number = Some (pos 9); literal = None })) (with_items []) (97 ∷ []) ≡ Some (known.Signal 1 role.Input (Some (record { width = 9; signed = false; low = 0 })))
set_to_9 = refl
