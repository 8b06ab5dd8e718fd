use Rattle.std.proofs.Common.{◌≡◌, ◌-◌, map}
use Rattle.rtl_tree.specs.Symbols.{terminal}
use Rattle.rtl_tree.specs.TreeExpr.{identifier}
use Rattle.rtl_tree.specs.declared.symbol.Symbol.TheVariants as symbol
use Rattle.text_build.specs.Reading as generic
use Rattle.text_build.proofs.cursor.Cursor.names.Given as goal

abbrev pub invariant-loop-turn : goal.invariant-loop-turn
invariant-loop-turn l =
    generic.links (l._turn-end - l._turn) (generic.starts symbol.Comma) (generic.after symbol.Comma) (generic.add generic.name) (map identifier l.all.items) (map terminal l.self.rest.now)
    ≡ generic.listed generic.name (map terminal l.initial.self.rest.now)
