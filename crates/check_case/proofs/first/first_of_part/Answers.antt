use Rattle.std.proofs.Common.{eq-eqb}
use Rattle.std.proofs.lemmas.Bool.{ne_eqb}
use Rattle.rtl_flat.specs.Process.{piece}
use Rattle.rtl_flat.specs.Flats.{flat}
use Rattle.check_case.proofs.Firsts.{piece_none, piece_some}
use Rattle.check_case.proofs.first.first_of_part.Goals as goal

pub returns-then-row-eq0 : goal.returns-then-row-eq0
returns-then-row-eq0 c =
    piece_none (flat c.args.design.now) (piece c.args.part.now) c.selected-row.result c.selected-row.ensures (eq-eqb c.selected-row.result.mask 0 c.if-row-eq0.true)

pub returns : goal.returns
returns c =
    piece_some (flat c.args.design.now) (piece c.args.part.now) c.selected-row.result c.selected-row.ensures (ne_eqb c.selected-row.result.mask 0 c.if-row-eq0.false)
