use Rattle.std.proofs.Common.{length, take, sym, ap, ◌∙◌, arith}
use Rattle.std.specs.Str.{bytes_eq}
use Rattle.rtl_text.proofs.Parts.{holds_on, holds_here}
use Rattle.rtl_text.proofs.pragma.holds.Goals as goal

pub returns-then-eq : goal.returns-then-eq
returns-then-eq c =
    let part = c.args.part.now in
    sym (holds_here part c.args.text.now c.loop-at.at 0 (omega arith)
    (ap (λ xs. bytes_eq xs part) (sym (c.take.ensures ∙ ap (take (length part)) c.skip.ensures)) ∙ sym c.eq.ensures ∙ c.if-eq.true))
    ∙ c.loop-at.invariant

pub loop-at-preserved : goal.loop-at-preserved
loop-at-preserved c =
    let part = c.args.part.now in
    sym (holds_on part c.args.text.now c.loop-at.at 0 (omega arith)
    (ap (λ xs. bytes_eq xs part) (sym (c.take.ensures ∙ ap (take (length part)) c.skip.ensures)) ∙ sym c.eq.ensures ∙ c.if-eq.false))
    ∙ c.loop-at.invariant
