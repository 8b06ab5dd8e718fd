use Rattle.std.proofs.Common.{◌≡◌, ◌+◌, ◌*◌, ◌-◌, map}
use Rattle.rtl_tree.specs.Symbols.{terminal}
use Rattle.rtl_tree.specs.TreeExpr.{formula}
use Rattle.rtl_tree.specs.declared.symbol.Symbol.TheVariants as symbol
use Rattle.text_build.specs.Reading as generic
use Rattle.text_build.specs.ReadingExpr as reading
use Rattle.text_build.proofs.cursor.Cursor.+expression.Given as goal

-- by depth, and within a depth by what calls what

abbrev pub decreases-climb : goal.decreases-climb
decreases-climb l = 16 * l.depth + 0

abbrev pub decreases-boxed : goal.decreases-boxed
decreases-boxed l = 16 * l.depth + 1

abbrev pub decreases-expressions_after : goal.decreases-expressions_after
decreases-expressions_after l = 16 * l.depth + 1

abbrev pub decreases-listed_expressions : goal.decreases-listed_expressions
decreases-listed_expressions l = 16 * l.depth + 2

abbrev pub decreases-more_listed : goal.decreases-more_listed
decreases-more_listed l = 16 * l.depth + 2

abbrev pub decreases-replication : goal.decreases-replication
decreases-replication l = 16 * l.depth + 3

abbrev pub decreases-concatenation : goal.decreases-concatenation
decreases-concatenation l = 16 * l.depth + 3

abbrev pub decreases-after_first : goal.decreases-after_first
decreases-after_first l = 16 * l.depth + 4

abbrev pub decreases-braces : goal.decreases-braces
decreases-braces l = 16 * l.depth + 5

abbrev pub decreases-rest_of_part : goal.decreases-rest_of_part
decreases-rest_of_part l = 16 * l.depth + 2

abbrev pub decreases-rest_of_selection : goal.decreases-rest_of_selection
decreases-rest_of_selection l = 16 * l.depth + 3

abbrev pub decreases-selection : goal.decreases-selection
decreases-selection l = 16 * l.depth + 4

abbrev pub decreases-selected : goal.decreases-selected
decreases-selected l = 16 * l.depth + 5

abbrev pub decreases-reference : goal.decreases-reference
decreases-reference l = 16 * l.depth + 6

abbrev pub decreases-read : goal.decreases-read
decreases-read l = 16 * l.depth + 7

abbrev pub decreases-parens : goal.decreases-parens
decreases-parens l = 16 * l.depth + 2

abbrev pub decreases-application : goal.decreases-application
decreases-application l = 16 * l.depth + 2

abbrev pub decreases-operation : goal.decreases-operation
decreases-operation l = 16 * l.depth + 2

abbrev pub decreases-prefixed : goal.decreases-prefixed
decreases-prefixed l = 16 * l.depth + 3

abbrev pub decreases-operand : goal.decreases-operand
decreases-operand l = 16 * l.depth + 8

abbrev pub decreases-joint : goal.decreases-joint
decreases-joint l = 16 * l.depth + 2

abbrev pub decreases-choice : goal.decreases-choice
decreases-choice l = 16 * l.depth + 2

abbrev pub decreases-link_of : goal.decreases-link_of
decreases-link_of l = 16 * l.depth + 3

abbrev pub decreases-link : goal.decreases-link
decreases-link l = 16 * l.depth + 4

abbrev pub decreases-chain : goal.decreases-chain
decreases-chain l = 16 * l.depth + 5

abbrev pub decreases-sequence : goal.decreases-sequence
decreases-sequence l = 16 * l.depth + 9

abbrev pub invariant-chain-loop-turn : goal.invariant-chain-loop-turn
invariant-chain-loop-turn l =
    generic.and_then (generic.turns (l.depth - l._turn) (reading.goes l.loosest) (reading.link (reading.climb l.depth)) (formula l.left) (map terminal l.self.rest.now)) (reading.ended l.loosest)
    ≡ reading.chain l.depth l.loosest (reading.climb l.depth) (formula l.fn.first) (map terminal l.initial.self.rest.now)

abbrev pub invariant-expressions_after-loop-turn : goal.invariant-expressions_after-loop-turn
invariant-expressions_after-loop-turn l =
    generic.links (l._turn-end - l._turn) (generic.starts symbol.Comma) (generic.after symbol.Comma) (generic.add (reading.climb l.depth 12)) (map formula l.all.items) (map terminal l.self.rest.now)
    ≡ generic.commas (generic.add (reading.climb l.depth 12)) (map formula l.fn.before.items) (map terminal l.initial.self.rest.now)
