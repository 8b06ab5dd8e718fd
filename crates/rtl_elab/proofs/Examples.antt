-- Tops at work.
use Rattle.std.specs.Prelude.{ℕ, ◌+◌, false, List, [], ◌∷◌, None, Some, Err}
use Rattle.std.proofs.Common.{◌≡◌, refl}
use Rattle.rtl_tree.specs.declared.tree.item.Direction.{Direction}
use Rattle.rtl_tree.specs.declared.tree.item.Direction.TheVariants.{Input, Output}
use Rattle.rtl_tree.specs.TreeExpr.{Identifier, Read}
use Rattle.rtl_tree.specs.TreeStmt.{Whole}
use Rattle.rtl_tree.specs.TreeItem.{ModuleItem, Drives}
use Rattle.rtl_tree.specs.TreeModule.{Circuit, HeaderPort, Declared}
use Rattle.elab_lawful.specs.elab_scope.Faults.{ModuleTwice, Named, NoSuchModule}
use Rattle.elab_lawful.specs.elab_links.Modules.{all_placed, found}
use Rattle.elab_lawful.specs.elab_walk.Visits.{Library}
use Rattle.rtl_elab.specs.Elaborated.{elaborated}

abbrev named : ℕ → ℕ → Identifier
named letter at = record { text = letter ∷ []; at = at }

abbrev port : Direction → ℕ → ℕ → HeaderPort
port direction letter at =
    record {
      head = Some (record { at = at; direction = direction; kind = None; signed = false; bounds = None });
      name = named letter at;
    }

-- module NAME(input a, output y); items endmodule, at a place
abbrev with_items : ℕ → ℕ → List ModuleItem → Circuit
with_items letter at items =
    record {
      at = at;
      name = named letter (at + 7);
      parameters = [];
      header = Declared (port Input 97 (at + 9) ∷ port Output 121 (at + 12) ∷ []);
      items = items;
      constructs = [];
      dropped = [];
    }

-- l, with assign y = a;
abbrev leaf : Circuit
leaf = with_items 108 100 (Drives 120 None (record { target = Whole (named 121 127); value = Read (named 97 131) } ∷ []) ∷ [])

abbrev library_of : List Circuit → Library
library_of circuits = record { lookups = found (all_placed (circuits ∷ [])); files = circuits ∷ [] }

missing : elaborated (library_of []) (116 ∷ []) ≡ Err (Named (NoSuchModule (116 ∷ [])))
missing = refl

twice : elaborated (library_of (leaf ∷ leaf ∷ [])) (108 ∷ []) ≡ Err (Named (ModuleTwice (108 ∷ [])))
twice = refl
