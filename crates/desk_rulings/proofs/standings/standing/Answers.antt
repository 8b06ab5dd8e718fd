use Rattle.std.proofs.Common.{◌∙◌, refl}
use Rattle.desk_tables.specs.Tables.{kept_of}
use Rattle.desk_rulings.specs.Rulings.{verdict_of}
use Rattle.desk_rulings.proofs.Loops.{standings_on}
use Rattle.desk_rulings.proofs.standings.standing.Goals as goal

pub loop-number-preserved : goal.loop-number-preserved
loop-number-preserved c =
    let ruled = c.args.ruled.now in
    standings_on c.args.today (kept_of c.args.tables.now) (verdict_of ruled).files ruled.rows.now c.loop-number.number _ c.deref.result.now c.deref-2.result.now _ _ c.loop-number.found.items _ _ c.loop-number-test.true c.in-Ok.ensures.items refl c.deref.ensures.value c.deref-2.ensures.value
    (c.site_of-site.ensures c.deref-2.result.now (c.deref-in-loop-number.ensures.value ∙ c.in_ok-digests.ensures))
    (c.in_ok-waiver.ensures c.args.today c.deref.result.now c.in_ok-index.ensures)
    c.loop-number.invariant
