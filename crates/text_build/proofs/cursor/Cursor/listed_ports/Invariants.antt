use Rattle.std.proofs.Common.{◌≡◌, ◌-◌, map}
use Rattle.rtl_tree.specs.Symbols.{terminal}
use Rattle.rtl_tree.specs.TreeModule.{header_port}
use Rattle.rtl_tree.specs.declared.symbol.Symbol.TheVariants as symbol
use Rattle.text_grammar.specs.declared.nesting.TheConstants.{MAX_NESTING}
use Rattle.text_build.specs.Reading as generic
use Rattle.text_build.specs.ReadingModule as reading
use Rattle.text_build.proofs.cursor.Cursor.listed_ports.Given as goal

abbrev pub invariant-loop-turn : goal.invariant-loop-turn
invariant-loop-turn l =
    generic.links (l._turn-end - l._turn) (generic.starts symbol.Comma) (generic.after symbol.Comma) (generic.add (reading.port MAX_NESTING)) (map header_port l.all.items) (map terminal l.self.rest.now)
    ≡ generic.listed (reading.port MAX_NESTING) (map terminal l.initial.self.rest.now)
