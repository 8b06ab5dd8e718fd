use Rattle.std.proofs.Common.{◌≡◌, ◌-◌, map}
use Rattle.rtl_tree.specs.Symbols.{terminal}
use Rattle.rtl_tree.specs.TreeItem.{happening}
use Rattle.text_grammar.specs.declared.nesting.TheConstants.{MAX_NESTING}
use Rattle.text_build.specs.Reading as generic
use Rattle.text_build.specs.ReadingItem as reading
use Rattle.text_build.proofs.cursor.Cursor.events.Given as goal

abbrev pub invariant-loop-turn : goal.invariant-loop-turn
invariant-loop-turn l =
    generic.links (l._turn-end - l._turn) reading.joins_events reading.after_joint (generic.add (reading.event MAX_NESTING)) (map happening l.all.items) (map terminal l.self.rest.now)
    ≡ reading.events MAX_NESTING (map terminal l.initial.self.rest.now)
