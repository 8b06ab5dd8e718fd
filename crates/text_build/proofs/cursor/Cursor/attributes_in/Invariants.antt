use Rattle.std.proofs.Common.{◌≡◌, ◌-◌, map}
use Rattle.rtl_tree.specs.Symbols.{terminal}
use Rattle.rtl_tree.specs.declared.symbol.Symbol.TheVariants as symbol
use Rattle.text_build.specs.Reading as generic
use Rattle.text_build.specs.ReadingStmt as reading
use Rattle.text_build.proofs.cursor.Cursor.attributes_in.Given as goal

abbrev pub invariant-loop-turn : goal.invariant-loop-turn
invariant-loop-turn l =
    generic.links (l._turn-end - l._turn) (generic.starts symbol.Comma) (generic.after symbol.Comma) reading.attribute l.marks (map terminal l.self.rest.now)
    ≡ generic.commas reading.attribute l.fn.before (map terminal l.initial.self.rest.now)
