-- Designs at work.
use Rattle.std.specs.Prelude.{ℕ, ◌+◌, false, List, [], ◌∷◌, map, None, Some}
use Rattle.std.proofs.Common.{◌≡◌, refl}
use Rattle.rtl_tree.specs.declared.tree.item.Direction.{Direction}
use Rattle.rtl_tree.specs.declared.tree.item.Direction.TheVariants.{Input, Output}
use Rattle.rtl_tree.specs.declared.tree.item.ParameterKind.TheVariants.{Local}
use Rattle.rtl_tree.specs.TreeExpr.{Identifier, Read}
use Rattle.rtl_tree.specs.TreeStmt.{Whole}
use Rattle.rtl_tree.specs.TreeItem.{ModuleItem, Drives, Instances, Parameters, ByName}
use Rattle.rtl_tree.specs.TreeModule.{Circuit, HeaderPort, Declared}
use Rattle.elab_links.specs.elab_scope.Faults.{InstanceLoop, Named, NoSuchModule, Placed, TooLarge}
use Rattle.elab_links.specs.Modules.{all_placed, found}
use Rattle.elab_walk.specs.Refusals.{come_to, refusal}
use Rattle.elab_walk.specs.Rooms.{whole_room}
use Rattle.elab_walk.specs.Visits.{Library, Visit, top_visit, visits}

abbrev named : ℕ → ℕ → Identifier
named letter at = record { text = letter ∷ []; at = at }

abbrev port : Direction → ℕ → ℕ → HeaderPort
port direction letter at =
    record {
      head = Some (record { at = at; direction = direction; kind = None; signed = false; bounds = None });
      name = named letter at;
    }

-- module NAME(input a, output y); items endmodule, at a place
abbrev with_items : ℕ → ℕ → List ModuleItem → Circuit
with_items letter at items =
    record {
      at = at;
      name = named letter (at + 7);
      parameters = [];
      header = Declared (port Input 97 (at + 9) ∷ port Output 121 (at + 12) ∷ []);
      items = items;
      constructs = [];
      dropped = [];
    }

-- l, with assign y = a;
abbrev leaf : Circuit
leaf = with_items 108 100 (Drives 120 None (record { target = Whole (named 121 127); value = Read (named 97 131) } ∷ []) ∷ [])

-- NAME u(.a(a), .y(y));
abbrev holds : ℕ → ModuleItem
holds letter =
    Instances (named letter 20) (ByName []) (record { name = named 117 22; connections = ByName (record { at = 24; name = named 97 25; value = Some (Read (named 97 27)) } ∷ record { at = 30; name = named 121 31; value = Some (Read (named 121 33)) } ∷ []) } ∷ [])

abbrev library_of : List Circuit → Library
library_of circuits = record { lookups = found (all_placed (circuits ∷ [])); files = circuits ∷ [] }

-- t, which holds l as u
abbrev two : Library
two = library_of (with_items 116 0 (holds 108 ∷ []) ∷ leaf ∷ [])

abbrev top : Library → Circuit → Visit
top library circuit = top_visit (record { file = 0; index = 0 }) circuit

abbrev met : List Visit
met = visits two 2 (top two (with_items 116 0 (holds 108 ∷ [])))

-- the top and behind it what it holds
paths : map (λ v. v.path) met ≡ (116 ∷ []) ∷ (116 ∷ 46 ∷ 117 ∷ []) ∷ []
paths = refl

nothing : refusal two whole_room met ≡ None
nothing = refl

-- one instance too many is told where its module is named
crowded : refusal two (record { base = 0; number = 19999; processes = 20000; left = record { statements = 9; delays = 9; nodes = 9 }; extras = 9 }) met ≡ Some (Placed TooLarge (record { file = 0; at = 20 }))
crowded = refl

-- one process too many, at its place
busy : refusal two (record { base = 0; number = 0; processes = 2; left = record { statements = 9; delays = 9; nodes = 9 }; extras = 9 }) met ≡ Some (Placed TooLarge (record { file = 0; at = 127 }))
busy = refl

-- what has one node too many, of three in all: the second connection, or the assignment of the instance
connected : refusal two (record { base = 0; number = 0; processes = 9; left = record { statements = 9; delays = 9; nodes = 1 }; extras = 9 }) met ≡ Some (Placed TooLarge (record { file = 0; at = 30 }))
connected = refl

assigned : refusal two (record { base = 0; number = 0; processes = 9; left = record { statements = 9; delays = 9; nodes = 2 }; extras = 9 }) met ≡ Some (Placed TooLarge (record { file = 0; at = 127 }))
assigned = refl

fitting : refusal two (record { base = 0; number = 0; processes = 9; left = record { statements = 9; delays = 9; nodes = 3 }; extras = 9 }) met ≡ None
fitting = refl

-- one signal too many
wide : refusal two (record { base = 19997; number = 0; processes = 9; left = record { statements = 9; delays = 9; nodes = 9 }; extras = 9 }) met ≡ Some (Placed TooLarge (record { file = 0; at = 112 }))
wide = refl

-- a, which holds l as u and again as v
abbrev pair : Circuit
pair =
    with_items 97 0 (holds 108 ∷ Instances (named 108 40) (ByName []) (record { name = named 118 42; connections = ByName [] } ∷ []) ∷ [])

abbrev with_pair : Library
with_pair = library_of (pair ∷ leaf ∷ [])

-- where something is told of the second of three instances, the walk comes to the first two
reached : map (λ v. v.path) (come_to with_pair (record { base = 0; number = 19999; processes = 9; left = record { statements = 9; delays = 9; nodes = 9 }; extras = 9 }) (visits with_pair 2 (top with_pair pair))) ≡ (97 ∷ []) ∷ (97 ∷ 46 ∷ 117 ∷ []) ∷ []
reached = refl

-- and else to all
come : map (λ v. v.path) (come_to with_pair (record { base = 0; number = 0; processes = 9; left = record { statements = 9; delays = 9; nodes = 9 }; extras = 9 }) (visits with_pair 2 (top with_pair pair))) ≡ (97 ∷ []) ∷ (97 ∷ 46 ∷ 117 ∷ []) ∷ (97 ∷ 46 ∷ 118 ∷ []) ∷ []
come = refl

-- t, which holds as u a module with a localparam
abbrev counted : Circuit
counted =
    with_items 108 100 (Parameters 120 Local None (record { name = named 76 122; value = Read (named 76 122) } ∷ []) ∷ [])

abbrev with_one : Library
with_one = library_of (with_items 116 0 (holds 108 ∷ []) ∷ counted ∷ [])

-- one parameter too many is told where the module of its instance is named
loaded : refusal with_one (record { base = 0; number = 0; processes = 9; left = record { statements = 9; delays = 9; nodes = 9 }; extras = 0 }) (visits with_one 2 (top with_one (with_items 116 0 (holds 108 ∷ [])))) ≡ Some (Placed TooLarge (record { file = 0; at = 20 }))
loaded = refl

-- a module that isn't there is told without a place
lost : refusal (library_of []) whole_room (visits (library_of []) 2 (top two (with_items 116 0 (holds 108 ∷ [])))) ≡ Some (Named (NoSuchModule (108 ∷ [])))
lost = refl

-- a module that holds itself, where it is named
abbrev looped : Library
looped = library_of (with_items 116 0 (holds 116 ∷ []) ∷ [])

loop : refusal looped whole_room (visits looped 3 (top looped (with_items 116 0 (holds 116 ∷ [])))) ≡ Some (Placed (InstanceLoop (116 ∷ [])) (record { file = 0; at = 20 }))
loop = refl
