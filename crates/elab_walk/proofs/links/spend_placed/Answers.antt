use Rattle.std.specs.List.{slice_get}
use Rattle.std.specs.Option.{option_map}
use Rattle.std.proofs.Common.{◌≡◌, ◌∙◌, ◌<◌, ℕ, Bor, List, Some, ap, get_or, length, map, refl, subst, sym}
use Rattle.std.proofs.lemmas.Option.{slice_get_read}
use Rattle.rtl_tree.specs.declared.tree.names.Name.{Name}
use Rattle.rtl_tree.specs.TreeExpr.{formula, identifier}
use Rattle.elab_links.specs.elab_scope.Names.{meanings}
use Rattle.elab_parts.specs.elab_body.Courses.{course}
use Rattle.elab_parts.specs.elab_body.Steps.{passed}
use Rattle.elab_links.specs.Ports.{sockets}
use Rattle.elab_links.proofs.Places.{at_place}
use Rattle.elab_walk.specs.Links.{argument_steps, placed_steps}
use Rattle.elab_walk.proofs.links.spend_placed.Goals as goal

some_at : {A B : Type 0} (f : A → B) (xs ys : List A) (i : ℕ) (x : A) → xs ≡ ys → i < length xs → x ≡ get_or xs i x → slice_get (map f ys) i ≡ Some (f x)
some_at f xs ys i x is inside there =
    at_place f ys i
    ∙ ap (option_map f) (slice_get_read ys (length ys) i x refl (subst (λ zs. i < length zs) is inside) (subst (λ zs. x ≡ get_or zs i x) is there))

pub returns-in-Some : goal.returns-in-Some
returns-in-Some c =
    let ports = sockets c.args.ports.now in
    let scope = meanings c.args.names.now in
    let at = c.args.argument.now.at in
    let value = option_map formula c.args.argument.now.value in
    c.spend_argument.ensures
    ∙ ap (λ d. passed (course c.args.so_far) (argument_steps scope at d value)) c.direction-direction.ensures
    ∙ sym (ap (λ o. passed (course c.args.so_far) (placed_steps ports scope at o value)) (some_at (λ (name : Bor Name). identifier name.now) c.deref.result.now c.args.ports.now.order.items c.args.place c.in-Some.port.now c.deref.ensures.value c.in-Some.ensures.lookup.3.0 c.in-Some.ensures.lookup.1))
