use Rattle.std.proofs.Common.{◌≡◌, ◌∙◌, ℕ, List, IfOk, sym, subst, arith}
use Rattle.rtl_prep.proofs.Asked.{macros_turn, macros_end}
use Rattle.rtl_prep.proofs.names.macros.Goals as goal

pub loop-notice-preserved : goal.loop-notice-preserved
loop-notice-preserved c =
    macros_turn c.loop-notice.names c.name_macro.new.names c.args.notices.now c.loop-notice.notice-index _ (omega arith) c.in_ok-name_macro.ensures ∙ c.loop-notice.invariant

pub returns : goal.returns
returns c =
    subst
    (λ (names : List (List ℕ)). IfOk c.to_texts.result (λ made. made.items ≡ names))
    (sym (macros_end c.loop-notice.names c.args.notices.now c.loop-notice.notice-index (omega arith)) ∙ c.loop-notice.invariant)
    c.to_texts.ensures
