use Rattle.std.proofs.Common.{◌≡◌, [], rules, map, ap, sym, ◌∙◌}
use Rattle.std.proofs.lemmas.Result.{err_from_is_err_and}
use Rattle.rtl_prep.specs.Tables.{table, held, gained, seen_frame}
use Rattle.rtl_prep.specs.declared.replace.TheConstants.{MAX_REPLACEMENTS}
use Rattle.rtl_prep.proofs.Each.{tells_err}
use Rattle.rtl_prep.proofs.Resumes.{spare, first_fails, first_step, loop_step, loop_fails, loop_ends, fails_back}
use Rattle.rtl_prep.proofs.replace.Replacer.replace.Goals as goal

pub returns-in_err-begin-clause-step : goal.returns-in_err-begin-clause-step
returns-in_err-begin-clause-step c =
    let p = err_from_is_err_and c.from_residual.result c.from_residual.ensures.1 in
    rw (p.1, p.2)
    (tells_err (λ (_ : Unit {0}). held c.begin.new.self c.begin.new.frames) (λ (_ : Unit {0}). gained c.args.self.now) _ _ c.in_err-begin.field-0.0
    (λ stop e. first_fails MAX_REPLACEMENTS c.args.self.now.text.now c.args.at (table c.args.self.now.macros) c.args.name.now (map seen_frame c.new-frames.result) (gained c.args.self.now) stop e)
    c.in_err-begin.ensures.step)

pub loop-frame-init : goal.loop-frame-init
loop-frame-init c =
    let s = first_step c.args.self.now.text.now c.args.at (table c.args.self.now.macros) c.args.name.now (map seen_frame c.new-frames.result) (gained c.args.self.now) (held c.begin.new.self c.begin.new.frames)
    (ap (map seen_frame) c.new-frames.ensures) c.in_ok-begin.ensures.step in
    (c.in_ok-begin.ensures.text, s.0, s.1)

pub loop-frame-smaller : goal.loop-frame-smaller
loop-frame-smaller c =
    (loop_step c.args.self.now.text.now c.loop-frame.self.text.now c.args.at (table c.loop-frame.self.macros) (map seen_frame c.loop-frame.frames) (seen_frame c.in-Some.frame) (map seen_frame c.pop_front.new.self) (gained c.loop-frame.self) (held c.go_on.new.self c.go_on.new.frames)
    c.loop-frame.invariant.0 (ap (map seen_frame) c.in-Some.ensures.items) c.loop-frame.invariant.1 c.in_ok-go_on.ensures.step).1

pub loop-frame-preserved : goal.loop-frame-preserved
loop-frame-preserved c =
    let s = loop_step c.args.self.now.text.now c.loop-frame.self.text.now c.args.at (table c.loop-frame.self.macros) (map seen_frame c.loop-frame.frames) (seen_frame c.in-Some.frame) (map seen_frame c.pop_front.new.self) (gained c.loop-frame.self) (held c.go_on.new.self c.go_on.new.frames)
    c.loop-frame.invariant.0 (ap (map seen_frame) c.in-Some.ensures.items) c.loop-frame.invariant.1 c.in_ok-go_on.ensures.step in
    (c.in_ok-go_on.ensures.text ∙ c.loop-frame.invariant.0, s.0, sym s.2 ∙ c.loop-frame.invariant.2)

pub returns-in_err-go_on-clause-step : goal.returns-in_err-go_on-clause-step
returns-in_err-go_on-clause-step c =
    let p = err_from_is_err_and c.from_residual-in_err-go_on.result c.from_residual-in_err-go_on.ensures.1 in
    rw (p.1, p.2)
    (tells_err (λ (_ : Unit {0}). held c.go_on.new.self c.go_on.new.frames) (λ (_ : Unit {0}). gained c.args.self.now) _ _ c.in_err-go_on.field-0.0
    (λ stop e. fails_back _ (table c.args.self.now.macros) stop (sym c.loop-frame.invariant.2 ∙ loop_fails c.args.self.now.text.now c.loop-frame.self.text.now c.args.at (table c.loop-frame.self.macros) (map seen_frame c.loop-frame.frames) (seen_frame c.in-Some.frame) (map seen_frame c.pop_front.new.self) (gained c.loop-frame.self) stop
    c.loop-frame.invariant.0 (ap (map seen_frame) c.in-Some.ensures.items) e))
    c.in_err-go_on.ensures.step)

pub returns-clause-macros : goal.returns-clause-macros
returns-clause-macros c =
    (loop_ends (spare (map seen_frame c.loop-frame.frames)) c.args.self.now.text.now c.args.at (table c.loop-frame.self.macros) (table c.args.self.now.macros) (map seen_frame c.loop-frame.frames) (gained c.loop-frame.self) _ (let e : map seen_frame c.loop-frame.frames ≡ [] = search rules in e) c.loop-frame.invariant.2).1

pub returns-clause-step : goal.returns-clause-step
returns-clause-step c =
    (loop_ends (spare (map seen_frame c.loop-frame.frames)) c.args.self.now.text.now c.args.at (table c.loop-frame.self.macros) (table c.args.self.now.macros) (map seen_frame c.loop-frame.frames) (gained c.loop-frame.self) _ (let e : map seen_frame c.loop-frame.frames ≡ [] = search rules in e) c.loop-frame.invariant.2).0
