-- Of inputs that are joined one is left at most.
use Rattle.std.proofs.Common.{map, arith, sym, ◌∙◌, ap, ◌≡◌, [], ◌∷◌}
use Rattle.std.proofs.lemmas.List.{nil_from_length}
use Rattle.rtl_tree.specs.TreeExpr.{formula}
use Rattle.rtl_unroll.specs.Gates.{inverted_if}
use Rattle.rtl_unroll.proofs.Joining.{popped_one, together_of}
use Rattle.rtl_unroll.proofs.inputs.together.Goals as goal

pub returns-in-None : goal.returns-in-None
returns-in-None c =
    let made = c.in_ok-values.values.items in
    let none : made ≡ [] = nil_from_length made (omega (arith, c.in_ok-values.values.ok.0, c.in-None.ensures.cases)) in
    sym
    (together_of _ _ _ _ _ _ c.in_ok-wrapped.ensures c.in_ok-values.ensures.value
    ∙ ap (λ es. map (inverted_if c.args.inverted c.args.at) (map formula es)) none)

pub returns : goal.returns
returns c =
    let made = c.in_ok-values.values.items in
    let one : made ≡ c.in-Some.value ∷ [] =
    popped_one made _ _ c.in-Some.ensures.items c.in_ok-values.ensures.one in
    sym
    (together_of _ _ _ _ _ _ c.in_ok-wrapped.ensures c.in_ok-values.ensures.value
    ∙ ap (λ es. map (inverted_if c.args.inverted c.args.at) (map formula es)) one
    ∙ ap (λ e. e ∷ []) (sym c.in_ok-inverted_if-in-Some.ensures))
