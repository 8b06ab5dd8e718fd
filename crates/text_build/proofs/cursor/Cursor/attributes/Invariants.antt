use Rattle.std.proofs.Common.{◌≡◌, ◌-◌, map}
use Rattle.rtl_tree.specs.Symbols.{terminal}
use Rattle.rtl_tree.specs.declared.symbol.Symbol.TheVariants as symbol
use Rattle.text_build.specs.Reading as generic
use Rattle.text_build.specs.ReadingStmt as reading
use Rattle.text_build.proofs.cursor.Cursor.attributes.Given as goal

abbrev pub invariant-loop-turn : goal.invariant-loop-turn
invariant-loop-turn l =
    generic.turns (l._turn-end - l._turn) (generic.starts symbol.OpenAttribute) reading.marked l.marks (map terminal l.self.rest.now)
    ≡ reading.attributes (map terminal l.initial.self.rest.now)
