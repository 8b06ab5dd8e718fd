use Rattle.std.proofs.Common.{◌∙◌, Ok, Err, Vec, Global, refl, sym, arith}
use Rattle.std.proofs.lemmas.Result.{err_from_is_err_and}
use Rattle.rtl_tree.specs.declared.token.Token.{Token}
use Rattle.rtl_prep.specs.declared.whole.Read.{Read}
use Rattle.rtl_prep.specs.Tables.{seen}
use Rattle.rtl_prep.specs.Passes.{all_seen}
use Rattle.rtl_prep.specs.Conditions.{notices}
use Rattle.rtl_prep.specs.Prepares as spec
use Rattle.rtl_prep.proofs.Each.{tells_err}
use Rattle.rtl_prep.proofs.Passes.{read_turn, read_end, conditions_err, conditions_ok}
use Rattle.rtl_prep.proofs.Noticed.{notices_turn, notices_end}
use Rattle.rtl_prep.proofs.whole.directed.Goals as goal

pub loop-at-preserved : goal.loop-at-preserved
loop-at-preserved c = record {
  text = c.in_ok-take.ensures.text ∙ c.loop-at.invariant.text;
  same = c.in_ok-take.ensures.same ∙ c.loop-at.invariant.same;
  read = sym (read_turn c.args.text.now c.loop-at.reader.text.now (seen c.loop-at.reader) c.args.tokens.now _ c.loop-at.at _ _ (Ok (seen c.take.new.self)) (omega arith) c.loop-at.invariant.text c.after-rest.ensures refl c.in_ok-take.ensures.step) ∙ c.loop-at.invariant.read;
  noted = notices_turn c.args.text.now c.loop-at.reader.text.now (seen c.loop-at.reader) (seen c.take.new.self) c.args.tokens.now _ c.loop-at.at _ _ (all_seen c.loop-at.notices.items) (all_seen c.note.new.notices.items) (notices c.args.text.now c.args.tokens.now spec.start) (omega arith) c.loop-at.invariant.text c.after-rest.ensures refl c.in_ok-take.ensures.step c.in_ok-note.ensures.noted c.loop-at.invariant.noted;
}

pub returns-in_err-take-clause-kept : goal.returns-in_err-take-clause-kept
returns-in_err-take-clause-kept c =
    let p = err_from_is_err_and c.from_residual-in_err-take.result c.from_residual-in_err-take.ensures.1 in
    rw (p.1, p.2)
    (tells_err (λ (_ : Unit {0}). seen c.take.new.self) (λ (r : Read). r.kept.items) _ _ c.in_err-take.field-0.0
    (λ stop e. conditions_err c.args.text.now c.args.tokens.now stop (sym c.loop-at.invariant.read ∙ read_turn c.args.text.now c.loop-at.reader.text.now (seen c.loop-at.reader) c.args.tokens.now _ c.loop-at.at _ _ (Err stop) (omega arith) c.loop-at.invariant.text c.after-rest.ensures refl e))
    c.in_err-take.ensures.step)

pub returns-in_err-finished-clause-kept : goal.returns-in_err-finished-clause-kept
returns-in_err-finished-clause-kept c =
    let p = err_from_is_err_and c.from_residual-in_err-finished.result c.from_residual-in_err-finished.ensures.1 in
    rw (p.1, p.2)
    (tells_err (λ (v : Vec Token Global). v.items) (λ (r : Read). r.kept.items) _ _ c.in_err-finished.field-0.0
    (λ stop e. conditions_ok c.args.text.now c.args.tokens.now (seen c.loop-at.reader) (sym c.loop-at.invariant.read ∙ read_end c.args.text.now (seen c.loop-at.reader) c.args.tokens.now c.loop-at.at (omega arith)) ∙ e)
    c.in_err-finished.ensures)

pub returns-clause-kept : goal.returns-clause-kept
returns-clause-kept c =
    conditions_ok c.args.text.now c.args.tokens.now (seen c.loop-at.reader) (sym c.loop-at.invariant.read ∙ read_end c.args.text.now (seen c.loop-at.reader) c.args.tokens.now c.loop-at.at (omega arith))
    ∙ c.in_ok-finished.ensures

pub returns-clause-noted : goal.returns-clause-noted
returns-clause-noted c =
    notices_end c.args.text.now (seen c.loop-at.reader) c.args.tokens.now c.loop-at.at (all_seen c.loop-at.notices.items) (notices c.args.text.now c.args.tokens.now spec.start) (omega arith) c.loop-at.invariant.noted
