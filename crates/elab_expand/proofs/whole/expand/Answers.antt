use Rattle.std.specs.Prelude.{List, [], ℕ, length, map}
use Rattle.std.proofs.Common.{◌≡◌, ◌∙◌, ap, sym, rules}
use Rattle.rtl_tree.specs.TreeItem.{module_item}
use Rattle.rtl_tree.specs.declared.tree.item.Item.{Item}
use Rattle.rtl_tree.specs.declared.tree.modules.Construct.{Construct}
use Rattle.elab_expand.specs.declared.block.Piece.{Piece}
use Rattle.rtl_tree.specs.TreeModule.{Circuit, circuit, construct}
use Rattle.elab_scope.specs.Names.{meanings}
use Rattle.elab_items.specs.Settings.{settings_of}
use Rattle.elab_expand.specs.Expansions.{Opening, ended, opened_module, with_pile}
use Rattle.elab_expand.specs.Lifting.{Pile, all_lifted}
use Rattle.elab_expand.specs.Openings.{opening, piece, tally}
use Rattle.elab_expand.proofs.Expanding.{some_expanded, some_viewed}
use Rattle.elab_expand.proofs.whole.expand.Goals as goal

pub returns-clause-made : goal.returns-clause-made
returns-clause-made c =
    let whole : Circuit = circuit c.args.written.now in
    let settings = settings_of c.args.given.now in
    let block = c.follow.new.block in
    let at = c.args.written.now.at in
    let made = map piece block.items.items in
    let start : Pile = record { items = []; tally = tally c.follow.new.so_far } in
    let first : Opening = opening [] c.in_ok-block.block c.new-tally.result in
    let begun = c.in_ok-block.ensures c.new-tally.result c.new-tally.ensures in
    let followed : opening [] block c.follow.new.so_far ≡ opened_module settings 0 whole.items whole.constructs first =
    c.in_ok-follow.ensures
    ∙ ap (λ (items : List Item). opened_module settings 0 (map module_item items) (map construct c.deref-2.result.now) first) c.deref.ensures.value
    ∙ ap (λ (constructs : List Construct). opened_module settings 0 whole.items (map construct constructs) first) c.deref-2.ensures.value
    in
    let some : length c.args.written.now.constructs.items ≡ 0 → ⊥ = search rules in
    ap (λ (w : Circuit). record { circuit = w; tally = tally c.lift_items.new.so_far }) c.in_ok-written.ensures
    ∙ ap (λ (pile : Pile). with_pile whole pile) (sym c.in_ok-items.ensures)
    ∙ ap (λ (pieces : List Piece). with_pile whole (all_lifted (meanings block.own) c.from_vec-component.result at (map piece pieces) start)) c.deref-3.ensures.value
    ∙ ap (λ (component : List ℕ). with_pile whole (all_lifted (meanings block.own) component at made start)) (c.from_vec-component.ensures ∙ c.new.ensures.items)
    ∙ ap (λ (o : Opening). with_pile whole (ended at o)) (followed ∙ ap (opened_module settings 0 whole.items whole.constructs) begun)
    ∙ sym (some_expanded settings whole (some_viewed c.args.written.now.constructs.items some))
