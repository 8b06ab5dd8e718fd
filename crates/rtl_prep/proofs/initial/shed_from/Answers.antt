use Rattle.std.proofs.Common.{sym, ◌∙◌, arith}
use Rattle.std.proofs.lemmas.Result.{err_from_is_err_and}
use Rattle.rtl_prep.specs.Initials as spec
use Rattle.rtl_prep.proofs.Each.{each_turn, each_stop, each_end, tells_err}
use Rattle.rtl_prep.proofs.Parts.{initials_err, initials_ok}
use Rattle.rtl_prep.proofs.initial.shed_from.Goals as goal

pub returns-in_err-take : goal.returns-in_err-take
returns-in_err-take c =
    let p = err_from_is_err_and c.from_residual.result c.from_residual.ensures.1 in
    rw (p.1, p.2)
    (tells_err (λ (_ : Unit {0}). spec.seen c.take.new.self) spec.seen _ _ c.in_err-take.field-0.0
    (λ stop e. initials_err c.args.text.now c.args.dropped.items c.args.tokens.now stop (sym c.loop-token.invariant.done ∙ each_stop (spec.shed c.args.text.now) (spec.seen c.loop-token.shed) c.args.tokens.now c.loop-token.token-index _ stop (omega arith) e))
    c.in_err-take.ensures.step)

pub loop-token-preserved : goal.loop-token-preserved
loop-token-preserved c = record {
  deep = omega (arith, c.in_ok-take.ensures.deep);
  done = sym (each_turn (spec.shed c.args.text.now) (spec.seen c.loop-token.shed) (spec.seen c.take.new.self) c.args.tokens.now c.loop-token.token-index _ (omega arith) c.in_ok-take.ensures.step) ∙ c.loop-token.invariant.done;
}

pub returns-in-None : goal.returns-in-None
returns-in-None c =
    initials_ok c.args.text.now c.args.dropped.items c.args.tokens.now (spec.seen c.loop-token.shed) _
    (sym c.loop-token.invariant.done ∙ each_end (spec.shed c.args.text.now) (spec.seen c.loop-token.shed) c.args.tokens.now c.loop-token.token-index (omega arith)) (sym c.in-None.ensures)

pub returns-in-Some : goal.returns-in-Some
returns-in-Some c =
    initials_ok c.args.text.now c.args.dropped.items c.args.tokens.now (spec.seen c.loop-token.shed) _
    (sym c.loop-token.invariant.done ∙ each_end (spec.shed c.args.text.now) (spec.seen c.loop-token.shed) c.args.tokens.now c.loop-token.token-index (omega arith)) (sym c.in-Some.ensures)
