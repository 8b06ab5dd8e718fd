use Rattle.std.proofs.Common.{sym, ◌∙◌, arith}
use Rattle.std.proofs.lemmas.Result.{err_from_is_err_and}
use Rattle.rtl_prep.specs.Regions as spec
use Rattle.rtl_prep.proofs.Each.{each_turn, each_stop, each_end, tells_err}
use Rattle.rtl_prep.proofs.Parts.{regions_err, regions_ok}
use Rattle.rtl_prep.proofs.region.cut_out.Goals as goal

pub returns-in_err-take : goal.returns-in_err-take
returns-in_err-take c =
    let p = err_from_is_err_and c.from_residual.result c.from_residual.ensures.1 in
    rw (p.1, p.2)
    (tells_err (λ (_ : Unit {0}). spec.seen c.take.new.self) spec.seen _ _ c.in_err-take.field-0.0
    (λ stop e. regions_err c.args.tokens.now stop (sym c.loop-token.invariant ∙ each_stop spec.cut (spec.seen c.loop-token.cut) c.args.tokens.now c.loop-token.token-index _ stop (omega arith) e))
    c.in_err-take.ensures)

pub loop-token-preserved : goal.loop-token-preserved
loop-token-preserved c =
    sym (each_turn spec.cut (spec.seen c.loop-token.cut) (spec.seen c.take.new.self) c.args.tokens.now c.loop-token.token-index _ (omega arith) c.in_ok-take.ensures) ∙ c.loop-token.invariant

pub returns-in-None : goal.returns-in-None
returns-in-None c =
    regions_ok c.args.tokens.now (spec.seen c.loop-token.cut) _ (sym c.loop-token.invariant ∙ each_end spec.cut (spec.seen c.loop-token.cut) c.args.tokens.now c.loop-token.token-index (omega arith)) c.in-None.is

pub returns-in-Some : goal.returns-in-Some
returns-in-Some c =
    regions_ok c.args.tokens.now (spec.seen c.loop-token.cut) _ (sym c.loop-token.invariant ∙ each_end spec.cut (spec.seen c.loop-token.cut) c.args.tokens.now c.loop-token.token-index (omega arith)) c.in-Some.is
