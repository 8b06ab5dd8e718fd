use Rattle.std.proofs.Common.{◌≡◌, ◌+◌, ◌≤◌, map, length}
use Rattle.rtl_tree.specs.Symbols.{terminal}
use Rattle.text_build.specs.ReadingStmt as reading
use Rattle.text_build.proofs.cursor.Cursor.pass.Given as goal

abbrev pub invariant-loop-turn : goal.invariant-loop-turn
invariant-loop-turn l =
    (reading.past l.count (map terminal l.self.rest.now) ≡ reading.past 0 (map terminal l.initial.self.rest.now)) × (l.count ≤ l._turn)
    × (length l.self.rest.now + l._turn ≡ l._turn-end)
