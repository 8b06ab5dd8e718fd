-- The items of a block among those of the block round it, with the block's name before each name that the block declares (IEEE
-- 1364-2001 sections 12.1.3 and 12.5).
-- Worked examples: proofs/Examples.antt.
use Rattle.std.specs.Prelude.{ℕ, ◌+◌, ◌*◌, cond, List, [], ◌∷◌, ◌++◌, length}
use Rattle.rtl_tree.specs.TreeItem.{ModuleItem}
use Rattle.elab_scope.specs.Faults.{least}
use Rattle.elab_scope.specs.Names.{Meanings}
use Rattle.elab_renames.specs.Renames.{named, renamed_item}
use Rattle.elab_sizes.specs.Sizes.{item_size}
use Rattle.elab_genvars.specs.Genvars.{item_genvars}
use Rattle.elab_expand.specs.Tallies.{Tally, counting, is_full, telling_least}

-- items, with what is told and counted
pub record Pile : Type 0 where
  pub items : List ModuleItem
  pub tally : Tally

-- a copy counts with the name that it gets; of a genvar it is told where it is used and may not be
abbrev pub lifted : Meanings → List ℕ → ℕ → ModuleItem → Pile → Pile
lifted own component at item pile =
    let tally : Tally = counting at (item_size item * (1 + length component)) pile.tally in
    cond (is_full tally)
    (record { items = pile.items; tally = tally })
    (record { items = pile.items ++ renamed_item (named own component) item ∷ []; tally = telling_least (least (item_genvars own item)) tally })

-- all of them, until a limit is passed
abbrev pub all_lifted : Meanings → List ℕ → ℕ → List ModuleItem → Pile → Pile
all_lifted own component at [] pile = pile
all_lifted own component at (item ∷ items) pile =
    all_lifted own component at items (cond (is_full pile.tally) pile (lifted own component at item pile))
