-- All terminals but the last are outputs.
use Rattle.std.proofs.Common.{map, sym, ◌∙◌, ap, ◌≡◌, [], ◌∷◌, ◌++◌}
use Rattle.std.proofs.lemmas.List.{map-append}
use Rattle.std.specs.List.{flat_map}
use Rattle.rtl_tree.specs.TreeExpr.{formula}
use Rattle.rtl_tree.specs.TreeStmt.{target}
use Rattle.rtl_unroll.specs.Gates.{driven, one_input, output_of}
use Rattle.rtl_unroll.proofs.Joining.{one_input_push}
use Rattle.rtl_unroll.proofs.gates.one_input.Goals as goal

pub returns : goal.returns
returns c =
    let outputs = map target c.args.outputs.items in
    let others = c.pop.new.self.items in
    let items : map formula c.args.terminals.items ≡ map formula others ++ formula c.in-Some.last ∷ [] =
    ap (map formula) c.in-Some.ensures.items ∙ map-append formula others (c.in-Some.last ∷ []) in
    sym
    (ap (one_input c.args.inverted c.args.at outputs) items
    ∙ one_input_push c.args.inverted c.args.at outputs (map formula others) (formula c.in-Some.last)
    ∙ ap (λ e. driven (outputs ++ flat_map output_of (map formula others)) (e ∷ [])) (sym c.in_ok-value.ensures)
    ∙ ap (λ all. driven all (formula c.in_ok-value.value ∷ [])) (sym c.in_ok-outputs.ensures))
