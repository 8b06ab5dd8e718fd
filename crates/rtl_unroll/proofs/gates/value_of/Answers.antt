-- A gate of several inputs has two or more, one, or none.
use Rattle.std.proofs.Common.{map, arith, sym, ◌∙◌, ap, length, ◌≡◌, ◌<◌, [], ◌∷◌}
use Rattle.std.proofs.lemmas.List.{length-map, nil_from_length}
use Rattle.std.proofs.lemmas.Result.{IfOk-weaker}
use Rattle.rtl_tree.specs.TreeExpr.{formula}
use Rattle.rtl_unroll.specs.Gates.{driven, several_inputs}
use Rattle.rtl_unroll.proofs.Joining.{popped_one, several_many}
use Rattle.rtl_unroll.proofs.gates.value_of.Goals as goal

pub returns-then-len-gt1 : goal.returns-then-len-gt1
returns-then-len-gt1 c =
    let es = map formula c.args.terminals.items in
    let many : 1 < length es = omega (arith, length-map c.args.terminals.items formula) in
    IfOk-weaker
    c.together.result
    _
    _
    (λ made e output. ap (driven (output ∷ [])) e ∙ sym (several_many c.args.inverted c.args.operator c.args.at output es many))
    c.together.ensures

pub returns-in-None : goal.returns-in-None
returns-in-None c = λ output.
    let none : c.args.terminals.items ≡ [] =
    nil_from_length c.args.terminals.items (omega (arith, c.args.terminals.ok.0, c.in-None.ensures.cases)) in
    ap
    (λ es. several_inputs c.args.inverted c.args.operator c.args.at output (map formula es))
    (sym none)

pub returns : goal.returns
returns c = λ output.
    let one : c.args.terminals.items ≡ c.in-Some.only ∷ [] =
    popped_one c.args.terminals.items _ _ c.in-Some.ensures.items (omega arith) in
    ap (λ e. driven (output ∷ []) (e ∷ [])) c.in_ok-alone-in-Some.ensures
    ∙ ap
    (λ es. several_inputs c.args.inverted c.args.operator c.args.at output (map formula es))
    (sym one)
