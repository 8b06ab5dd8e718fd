use Rattle.std.proofs.Common.{Ok, Vec, Global, sym, ap, ◌∙◌, ◌++◌, arith}
use Rattle.std.proofs.lemmas.List.{append-nil}
use Rattle.std.proofs.lemmas.Result.{err_from_is_err_and}
use Rattle.text_ground.specs.declared.dropped.Dropped.{Dropped}
use Rattle.rtl_prep.specs.Comments as spec
use Rattle.rtl_prep.proofs.Each.{tells_err}
use Rattle.rtl_prep.proofs.Noted.{same_ok, from_turn, from_end}
use Rattle.rtl_prep.proofs.comments.comments_from.Goals as goal

pub returns-in_err-take : goal.returns-in_err-take
returns-in_err-take c =
    let p = err_from_is_err_and c.from_residual.result c.from_residual.ensures.1 in
    rw (p.1, p.2)
    (tells_err (λ (_ : Unit {0}). spec.seen c.take.new.self) (λ (v : Vec Dropped Global). v.items) _ _ c.in_err-take.field-0.0
    (λ stop e. cc)
    c.in_err-take.ensures.step)

pub loop-token-preserved : goal.loop-token-preserved
loop-token-preserved c =
    from_turn c.args.text.now (spec.seen c.loop-token.notes) (spec.seen c.take.new.self) c.loop-token.notes.dropped.items c.take.new.self.dropped.items c.args.tokens.now c.loop-token.token-index _ (omega arith)
    (same_ok _ _ c.in_ok-take.ensures.step) c.in_ok-take.ensures.told ∙ c.loop-token.invariant

pub returns : goal.returns
returns c =
    ap Ok
    (sym c.loop-token.invariant
    ∙ ap (λ xs. c.loop-token.notes.dropped.items ++ xs) (from_end c.args.text.now (spec.seen c.loop-token.notes) c.args.tokens.now c.loop-token.token-index (omega arith))
    ∙ append-nil c.loop-token.notes.dropped.items)
