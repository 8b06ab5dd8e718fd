use Rattle.std.proofs.Common.{◌≡◌, ◌+◌, ◌*◌, ◌-◌, map}
use Rattle.rtl_tree.specs.Symbols.{terminal}
use Rattle.rtl_tree.specs.TreeStmt.{target}
use Rattle.rtl_tree.specs.declared.symbol.Symbol.TheVariants as symbol
use Rattle.text_build.specs.Reading as generic
use Rattle.text_build.specs.ReadingStmt as reading
use Rattle.text_build.proofs.cursor.Cursor.+target.Given as goal

abbrev pub decreases-target : goal.decreases-target
decreases-target l = 8 * l.depth + 0

abbrev pub decreases-listed_targets : goal.decreases-listed_targets
decreases-listed_targets l = 8 * l.depth + 1

abbrev pub decreases-joined : goal.decreases-joined
decreases-joined l = 8 * l.depth + 2

abbrev pub decreases-target_within : goal.decreases-target_within
decreases-target_within l = 8 * l.depth + 3

abbrev pub invariant-listed_targets-loop-turn : goal.invariant-listed_targets-loop-turn
invariant-listed_targets-loop-turn l =
    generic.links (l._turn-end - l._turn) (generic.starts symbol.Comma) (generic.after symbol.Comma) (generic.add (reading.target l.depth)) (map target l.all.items) (map terminal l.self.rest.now)
    ≡ generic.listed (reading.target l.depth) (map terminal l.initial.self.rest.now)
