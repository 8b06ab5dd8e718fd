-- Designs at work.
use Rattle.std.specs.Prelude.{ℕ, ◌+◌, false, List, [], ◌∷◌, ◌++◌, map, None, Some}
use Rattle.std.proofs.Common.{◌≡◌, refl}
use Rattle.rtl_tree.specs.declared.tree.item.Direction.{Direction}
use Rattle.rtl_tree.specs.declared.tree.item.Direction.TheVariants.{Input, Output}
use Rattle.rtl_flat.specs.Expression.{Tree, Sized}
use Rattle.rtl_flat.specs.Expression as tree
use Rattle.rtl_flat.specs.Process.{Doing, Assign}
use Rattle.rtl_tree.specs.TreeExpr.{Identifier, Read}
use Rattle.rtl_tree.specs.TreeStmt.{Whole}
use Rattle.rtl_tree.specs.TreeItem.{ModuleItem, Nets, Drives, Instances, ByName, Instantiation}
use Rattle.rtl_tree.specs.TreeModule.{Circuit, HeaderPort, Declared}
use Rattle.elab_walk.specs.elab_links.Modules.{all_placed, found}
use Rattle.elab_walk.specs.Placements.{placements}
use Rattle.elab_walk.specs.Visits.{Library, Visit, top_visit, visits}
use Rattle.elab_flat.specs.Flats.{flat_of}

abbrev named : ℕ → ℕ → Identifier
named letter at = record { text = letter ∷ []; at = at }

abbrev port : Direction → ℕ → ℕ → HeaderPort
port direction letter at =
    record {
      head = Some (record { at = at; direction = direction; kind = None; signed = false; bounds = None });
      name = named letter at;
    }

-- module NAME(input a, output y); items endmodule, at a place
abbrev with_items : ℕ → ℕ → List ModuleItem → Circuit
with_items letter at items =
    record {
      at = at;
      name = named letter (at + 7);
      parameters = [];
      header = Declared (port Input 97 (at + 9) ∷ port Output 121 (at + 12) ∷ []);
      items = items;
      constructs = [];
      dropped = [];
    }

-- l, with assign y = a;
abbrev leaf : Circuit
leaf = with_items 108 100 (Drives 120 None (record { target = Whole (named 121 127); value = Read (named 97 131) } ∷ []) ∷ [])

-- NAME(.a(a_name), .y(y_name))
abbrev placed : ℕ → ℕ → ℕ → ℕ → Instantiation
placed letter at a_name y_name =
    record { name = named letter at; connections = ByName (record { at = at + 2; name = named 97 (at + 3); value = Some (Read (named a_name (at + 5))) } ∷ record { at = at + 8; name = named 121 (at + 9); value = Some (Read (named y_name (at + 11))) } ∷ []) }

-- NAME u(.a(a), .y(y));
abbrev holds : ℕ → ModuleItem
holds letter =
    Instances (named letter 20) (ByName []) (placed 117 22 97 121 ∷ [])

abbrev library_of : List Circuit → Library
library_of circuits = record { lookups = found (all_placed (circuits ∷ [])); files = circuits ∷ [] }

-- t, which holds l as u
abbrev two : Library
two = library_of (with_items 116 0 (holds 108 ∷ []) ∷ leaf ∷ [])

abbrev top : Library → Circuit → Visit
top library circuit = top_visit (record { file = 0; index = 0 }) circuit

abbrev met : List Visit
met = visits two 2 (top two (with_items 116 0 (holds 108 ∷ [])))

-- the signals of l come behind those of t
signals : map (λ s. s.path) (flat_of two (placements 0 0 met)).parts.flat.signals ≡ (116 ∷ 46 ∷ 97 ∷ []) ∷ (116 ∷ 46 ∷ 121 ∷ []) ∷ (116 ∷ 46 ∷ 117 ∷ 46 ∷ 97 ∷ []) ∷ (116 ∷ 46 ∷ 117 ∷ 46 ∷ 121 ∷ []) ∷ []
signals = refl

-- the processes of connections belong to the instance that holds the other
instances : map (λ task. task.instance) (flat_of two (placements 0 0 met)).parts.flat.tasks ≡ 0 ∷ 0 ∷ 1 ∷ []
instances = refl

-- where a signal is assigned to another, the two numbers
abbrev source : Tree → List ℕ
source (Sized width signed spot (tree.Whole signal)) = signal ∷ []
source other = []

abbrev ends : Doing → List ℕ
ends (Assign target value) = map (λ piece. piece.signal) target ++ source value
ends other = []

-- module t(input a, output y); l u(.a(a), .y(b)), w(.a(b), .y(y)); wire b; endmodule
abbrev chained : Circuit
chained =
    with_items 116 0 (Instances (named 108 20) (ByName []) (placed 117 22 97 98 ∷ placed 119 42 98 121 ∷ []) ∷ Nets 60 false None (record { name = named 98 65; value = None } ∷ []) ∷ [])

abbrev both : Library
both = library_of (chained ∷ leaf ∷ [])

-- t has a, y and b as 0, 1 and 2, u has a and y as 3 and 4, and w as 5 and 6; each connection is with those of its own
wired : map (λ task. ends task.does) (flat_of both (placements 0 0 (visits both 2 (top both chained)))).parts.flat.tasks ≡ (3 ∷ 0 ∷ []) ∷ (2 ∷ 4 ∷ []) ∷ (5 ∷ 2 ∷ []) ∷ (1 ∷ 6 ∷ []) ∷ (4 ∷ 3 ∷ []) ∷ (6 ∷ 5 ∷ []) ∷ []
wired = refl
