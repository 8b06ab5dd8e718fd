use Rattle.std.proofs.Common.{◌≡◌, ◌+◌, ◌*◌, ◌-◌, map}
use Rattle.rtl_tree.specs.Symbols.{terminal}
use Rattle.rtl_tree.specs.TreeWritten.{choice, written_item}
use Rattle.rtl_tree.specs.declared.symbol.Symbol.TheVariants as symbol
use Rattle.text_grammar.specs.declared.nesting.TheConstants.{MAX_NESTING}
use Rattle.text_build.specs.Reading as generic
use Rattle.text_build.specs.ReadingExpr.{expression}
use Rattle.text_build.specs.ReadingGenerate as reading
use Rattle.text_build.proofs.cursor.Cursor.+generate.Given as goal

-- by depth, and within a depth by what calls what

abbrev pub decreases-item : goal.decreases-item
decreases-item l = 10 * l.depth + 0

abbrev pub decreases-items_before : goal.decreases-items_before
decreases-items_before l = 10 * l.depth + 1

abbrev pub decreases-region : goal.decreases-region
decreases-region l = 10 * l.depth + 2

abbrev pub decreases-region_or_simple : goal.decreases-region_or_simple
decreases-region_or_simple l = 10 * l.depth + 3

abbrev pub decreases-marked_item : goal.decreases-marked_item
decreases-marked_item l = 10 * l.depth + 4

abbrev pub decreases-made_single : goal.decreases-made_single
decreases-made_single l = 10 * l.depth + 1

abbrev pub decreases-made_block : goal.decreases-made_block
decreases-made_block l = 10 * l.depth + 2

abbrev pub decreases-made : goal.decreases-made
decreases-made l = 10 * l.depth + 3

abbrev pub decreases-boxed_made : goal.decreases-boxed_made
decreases-boxed_made l = 10 * l.depth + 4

abbrev pub decreases-generate_else : goal.decreases-generate_else
decreases-generate_else l = 10 * l.depth + 5

abbrev pub decreases-after_made : goal.decreases-after_made
decreases-after_made l = 10 * l.depth + 6

abbrev pub decreases-generate_if : goal.decreases-generate_if
decreases-generate_if l = 10 * l.depth + 7

abbrev pub decreases-default_choice : goal.decreases-default_choice
decreases-default_choice l = 10 * l.depth + 4

abbrev pub decreases-labelled_choice : goal.decreases-labelled_choice
decreases-labelled_choice l = 10 * l.depth + 4

abbrev pub decreases-generate_choice : goal.decreases-generate_choice
decreases-generate_choice l = 10 * l.depth + 5

abbrev pub decreases-choices : goal.decreases-choices
decreases-choices l = 10 * l.depth + 6

abbrev pub decreases-generate_case : goal.decreases-generate_case
decreases-generate_case l = 10 * l.depth + 7

abbrev pub decreases-generate_for : goal.decreases-generate_for
decreases-generate_for l = 10 * l.depth + 5

abbrev pub decreases-item_within : goal.decreases-item_within
decreases-item_within l = 10 * l.depth + 8

abbrev pub invariant-items_before-loop-turn : goal.invariant-items_before-loop-turn
invariant-items_before-loop-turn l =
    generic.until_in (l._turn-end - l._turn) l.end (reading.item MAX_NESTING l.depth) (map written_item l.all.items) (map terminal l.self.rest.now)
    ≡ generic.until l.end (reading.item MAX_NESTING l.depth) (map terminal l.initial.self.rest.now)

abbrev pub invariant-choices-loop-turn : goal.invariant-choices-loop-turn
invariant-choices-loop-turn l =
    generic.until_in (l._turn-end - l._turn) symbol.Endcase (reading.choice (expression l.depth) (reading.made (reading.item MAX_NESTING l.depth))) (map choice l.all.items) (map terminal l.self.rest.now)
    ≡ generic.until symbol.Endcase (reading.choice (expression l.depth) (reading.made (reading.item MAX_NESTING l.depth))) (map terminal l.initial.self.rest.now)
