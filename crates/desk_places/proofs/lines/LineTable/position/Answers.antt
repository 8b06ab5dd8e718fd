use Rattle.std.proofs.Common.{◌≡◌, ◌+◌, ◌<◌, ap, arith, get_or, length, sym, ◌∙◌}
use Rattle.std.proofs.lemmas.Grind.{get_or_default_zero}
use Rattle.desk_places.specs.Places.{column_of, line_of}
use Rattle.desk_places.proofs.LineLaws.{placed}
use Rattle.desk_places.proofs.lines.LineTable.position.Goals as goal

pub returns-clause-line : goal.returns-clause-line
returns-clause-line c =
    let table = c.args.self.now in
    let looked = c.line_at-line.ensures in
    sym (placed table.text.now c.deref.result.now c.args.at c.min-at.result c.line_at-line.result (c.deref.ensures.value ∙ table.begun) c.min-at.ensures looked.within looked.begun looked.last).0

pub returns-clause-column : goal.returns-clause-column
returns-clause-column c =
    let table = c.args.self.now in
    let looked = c.line_at-line.ensures in
    let line = c.line_at-line.result in
    let told : (line_of table.text.now c.args.at ≡ line + 1) × (column_of table.text.now c.args.at + get_or c.deref.result.now line 0 ≡ c.min-at.result + 1) = placed table.text.now c.deref.result.now c.args.at c.min-at.result line (c.deref.ensures.value ∙ table.begun) c.min-at.ensures looked.within looked.begun looked.last in
    let inside : line < length table.starts.items = omega (arith, looked.within, ap length c.deref.ensures.value) in
    let start : c.index.result.now ≡ get_or c.deref.result.now line 0 =
    c.index.ensures
    ∙ get_or_default_zero table.starts.items line c.index.result.now inside
    ∙ ap (λ xs. get_or xs line 0) (sym c.deref.ensures.value) in
    omega (arith, told.1, start, c.from.ensures, looked.begun)
