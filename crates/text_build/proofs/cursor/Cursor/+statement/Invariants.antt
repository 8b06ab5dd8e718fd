use Rattle.std.proofs.Common.{◌≡◌, ◌+◌, ◌*◌, ◌-◌, map}
use Rattle.rtl_tree.specs.Symbols.{terminal}
use Rattle.rtl_tree.specs.TreeStmt.{action, branch}
use Rattle.rtl_tree.specs.declared.symbol.Symbol.TheVariants as symbol
use Rattle.text_build.specs.Reading as generic
use Rattle.text_build.specs.ReadingExpr.{expression}
use Rattle.text_build.specs.ReadingStmt as reading
use Rattle.text_build.proofs.cursor.Cursor.+statement.Given as goal

-- by depth, and within a depth by what calls what

abbrev pub decreases-statement : goal.decreases-statement
decreases-statement l = 8 * l.depth + 0

abbrev pub decreases-boxed_statement : goal.decreases-boxed_statement
decreases-boxed_statement l = 8 * l.depth + 1

abbrev pub decreases-delayed : goal.decreases-delayed
decreases-delayed l = 8 * l.depth + 2

abbrev pub decreases-alternative : goal.decreases-alternative
decreases-alternative l = 8 * l.depth + 2

abbrev pub decreases-after_taken : goal.decreases-after_taken
decreases-after_taken l = 8 * l.depth + 3

abbrev pub decreases-conditional : goal.decreases-conditional
decreases-conditional l = 8 * l.depth + 4

abbrev pub decreases-default_item : goal.decreases-default_item
decreases-default_item l = 8 * l.depth + 1

abbrev pub decreases-labelled_item : goal.decreases-labelled_item
decreases-labelled_item l = 8 * l.depth + 1

abbrev pub decreases-case_item : goal.decreases-case_item
decreases-case_item l = 8 * l.depth + 2

abbrev pub decreases-case_items : goal.decreases-case_items
decreases-case_items l = 8 * l.depth + 3

abbrev pub decreases-case : goal.decreases-case
decreases-case l = 8 * l.depth + 4

abbrev pub decreases-loop_of : goal.decreases-loop_of
decreases-loop_of l = 8 * l.depth + 2

abbrev pub decreases-statements : goal.decreases-statements
decreases-statements l = 8 * l.depth + 1

abbrev pub decreases-block : goal.decreases-block
decreases-block l = 8 * l.depth + 2

abbrev pub decreases-action : goal.decreases-action
decreases-action l = 8 * l.depth + 5

abbrev pub decreases-statement_within : goal.decreases-statement_within
decreases-statement_within l = 8 * l.depth + 6

abbrev pub invariant-case_items-loop-turn : goal.invariant-case_items-loop-turn
invariant-case_items-loop-turn l =
    generic.until_in (l._turn-end - l._turn) symbol.Endcase (reading.branch (expression l.depth) (reading.statement l.depth)) (map branch l.all.items) (map terminal l.self.rest.now)
    ≡ generic.until symbol.Endcase (reading.branch (expression l.depth) (reading.statement l.depth)) (map terminal l.initial.self.rest.now)

abbrev pub invariant-statements-loop-turn : goal.invariant-statements-loop-turn
invariant-statements-loop-turn l =
    generic.until_in (l._turn-end - l._turn) symbol.End (reading.statement l.depth) (map action l.all.items) (map terminal l.self.rest.now)
    ≡ generic.until symbol.End (reading.statement l.depth) (map terminal l.initial.self.rest.now)
