-- It serves inner contracts and proofs; no answer of the program is stated by it.
-- What the code keeps of how far constructs are followed.
use Rattle.std.specs.Prelude.{ℕ, List, map, Option, None, Some}
use Rattle.std.specs.Borrow.{Bor}
use Rattle.std.specs.Option.{option_map}
use Rattle.rtl_tree.specs.TreeItem.{ModuleItem, module_item}
use Rattle.elab_scope.specs.declared.names.Names.{Names}
use Rattle.elab_scope.specs.Names.{Meanings, meanings}
use Rattle.rtl_tree.specs.TreeExpr.{formula, identifier}
use Rattle.rtl_tree.specs.TreeModule.{circuit}
use Rattle.rtl_tree.specs.TreeWritten.{choice}
use Rattle.rtl_tree.specs.declared.tree.written.GenerateChoice.{GenerateChoice}
use Rattle.elab_items.specs.Settings.{Settings}
use Rattle.elab_expand.specs.declared.whole.Expansion.{Expansion as Found}
use Rattle.elab_expand.specs.declared.loops.Head.{Head}
use Rattle.elab_expand.specs.declared.block.BlockSoFar.{BlockSoFar}
use Rattle.elab_expand.specs.declared.block.Piece.{Piece}
use Rattle.elab_expand.specs.declared.block.Piece.TheVariants.{Borrowed, Made}
use Rattle.elab_expand.specs.declared.tally.Tally.{Tally as Kept}
use Rattle.elab_expand.specs.Expansions.{Expansion, Loop, Opening, opened_choice}
use Rattle.elab_expand.specs.Scoping.{Scopes}
use Rattle.elab_expand.specs.Tallies.{Tally}
use Rattle.elab_expand.specs.Told.{refusal_of}

abbrev pub piece : Piece → ModuleItem
piece (Borrowed item) = module_item item.now
piece (Made item) = module_item item

abbrev pub tally : Kept → Tally
tally kept = record { told = option_map refusal_of kept.told; turns = kept.turns.items; size = kept.size }

-- a block in these others, with what is told and counted
abbrev pub opening : List Meanings → BlockSoFar → Kept → Opening
opening outer block kept =
    record {
      scopes = record { outer = outer; own = meanings block.own };
      items = map piece block.items.items;
      tally = tally kept;
    }

abbrev pub outers : List (Bor Names) → List Meanings
outers all = map (λ names. meanings names.now) all

-- what a block declares, in these others
abbrev pub scopes_of : List (Bor Names) → BlockSoFar → Scopes
scopes_of all block = record { outer = outers all; own = meanings block.own }

-- a loop whose block has this name
abbrev pub loop_of : Head → List ℕ → Loop
loop_of head name =
    record {
      at = head.at;
      index = identifier head.index.now;
      condition = formula head.condition.now;
      step = formula head.step.now;
      label = name;
    }

abbrev pub expansion_of : Found → Expansion
expansion_of found = record { circuit = circuit found.written; tally = tally found.tally }

-- the choice that is there, if one is
abbrev pub opened_at : Settings → Option GenerateChoice → Opening → Opening
opened_at settings None o = o
opened_at settings (Some one) o = opened_choice settings (choice one) o
