use Rattle.std.proofs.Common.{Option, subst}
use Rattle.std.specs.Prelude.{MatchOption}
use Rattle.rtl_flat.specs.Flats.{flat}
use Rattle.net_list.specs.declared.clocked.Clocked.{Clocked}
use Rattle.infer_regs.specs.Taken.{IsBroken, IsOne}
use Rattle.infer_regs.proofs.clocked.take.Goals as goal

pub returns-in_ok-push-in-Some : goal.returns-in_ok-push-in-Some
returns-in_ok-push-in-Some c =
    let d = flat c.args.design.now in
    let p = c.args.p.0 in
    (c.in-Some.one, c.in_ok-push-in-Some.ensures.items, subst (λ (o : Option Clocked). MatchOption o (IsBroken d p) (IsOne d p)) c.in-Some.is c.in_ok-one.ensures)
