use Rattle.std.proofs.Common.{◌≡◌, drop}
use Rattle.desk_rulings.specs.Grants.{asked_in}
use Rattle.desk_rulings.specs.Rulings.{verdict_of}
use Rattle.desk_rulings.proofs.waiving.asked_site.Given as goal

abbrev pub invariant-loop-number : goal.invariant-loop-number
invariant-loop-number l =
    asked_in l.rows (verdict_of l.ruled).files l.ask (drop l.number l.ruled.rows.now) ≡ asked_in l.rows (verdict_of l.ruled).files l.ask l.ruled.rows.now
