use Rattle.std.proofs.Common.{◌≡◌, ◌-◌, map}
use Rattle.rtl_tree.specs.Symbols.{terminal}
use Rattle.rtl_tree.specs.TreeModule.{written_circuit}
use Rattle.text_grammar.specs.declared.nesting.TheConstants.{MAX_NESTING}
use Rattle.text_build.specs.Reading as generic
use Rattle.text_build.specs.ReadingModule as reading
use Rattle.text_build.specs.Told.{told}
use Rattle.text_build.proofs.cursor.Cursor.modules.Given as goal

abbrev pub invariant-loop-turn : goal.invariant-loop-turn
invariant-loop-turn l =
    generic.turns (l._turn-end - l._turn) reading.is_more (generic.add (reading.circuit MAX_NESTING (told l.fn.regions))) (map written_circuit l.all.items) (map terminal l.self.rest.now)
    ≡ reading.circuits MAX_NESTING (told l.fn.regions) (map terminal l.initial.self.rest.now)
