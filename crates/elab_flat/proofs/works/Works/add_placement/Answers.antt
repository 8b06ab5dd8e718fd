use Rattle.std.proofs.Common.{◌≡◌, ◌∙◌, ap, map, subst, sym}
use Rattle.std.proofs.lemmas.Result.{on_ok_weaker}
use Rattle.rtl_tree.specs.TreeItem.{module_item}
use Rattle.elab_walk.specs.Trails.{placement}
use Rattle.elab_walk.specs.Visits.{library, scope_in}
use Rattle.elab_flat.specs.Children.{AreKnown, bases_of, placed_scopes}
use Rattle.elab_flat.specs.Held.{bases_under, depth_of, held_under}
use Rattle.elab_flat.specs.Views.{works}
use Rattle.elab_flat.specs.Works.{with_parts}
use Rattle.elab_flat.proofs.Children.{kept_bases, kept_known}
use Rattle.elab_flat.proofs.works.Works.add_placement.Goals as goal

pub add_all-requires-clause-known : goal.add_all-requires-clause-known
add_all-requires-clause-known c =
    let all = library c.args.all in
    let at = placement c.args.at.now in
    let kept = c.in_ok-held.held.items in
    let known : AreKnown kept (placed_scopes all (scope_in at.visit) at.visit.circuit.items) =
    subst (AreKnown kept) (sym c.requires.held.1) (kept_known kept (held_under (depth_of at) (map placement c.args.behind.now)) c.requires.held.0 c.in_ok-held.ensures) in
    let read = subst (λ items. AreKnown kept (placed_scopes all (scope_in at.visit) (map module_item items))) (sym c.deref-2.ensures.value) known in
    subst (λ held. AreKnown held (placed_scopes all (scope_in at.visit) (map module_item c.deref-2.result.now))) (sym c.deref.ensures.value) read

pub returns-clause-made : goal.returns-clause-made
returns-clause-made c =
    let all = library c.args.all in
    let at = placement c.args.at.now in
    let behind = map placement c.args.behind.now in
    let before = works c.args.self.now in
    let after = works c.add_all.new.self in
    let bases : bases_of c.deref.result.now ≡ bases_under (depth_of at) behind =
    ap bases_of c.deref.ensures.value ∙ kept_bases c.in_ok-held.held.items (held_under (depth_of at) behind) c.in_ok-held.ensures in
    let items : map module_item c.deref-2.result.now ≡ at.visit.circuit.items = ap (map module_item) c.deref-2.ensures.value in
    on_ok_weaker c.add_all.result
    (λ (told : after ≡ with_parts all at (bases_of c.deref.result.now) before (map module_item c.deref-2.result.now)).
    told
    ∙ ap (λ numbers. with_parts all at numbers before (map module_item c.deref-2.result.now)) bases
    ∙ ap (λ parts. with_parts all at (bases_under (depth_of at) behind) before parts) items)
    c.add_all.ensures.made
