use Rattle.std.proofs.Common.{◌≡◌, ◌∙◌, ◌++◌, ap, map, subst, sym, Some}
use Rattle.std.specs.Option.{option_map}
use Rattle.std.proofs.lemmas.Result.{on_ok_weaker}
use Rattle.rtl_flat.specs.Process.{task}
use Rattle.elab_walk.specs.elab_items.Scopes.{scope_of}
use Rattle.elab_walk.specs.elab_scope.Names.{meanings}
use Rattle.elab_walk.specs.elab_links.Groups.{group}
use Rattle.elab_walk.specs.elab_links.Ports.{sockets, sockets_of}
use Rattle.elab_walk.specs.Trails.{placement}
use Rattle.elab_flat.specs.Children.{AreKnown, bases_of, group_scopes}
use Rattle.elab_flat.specs.Works.{group_tasks, instantiations_tasks}
use Rattle.elab_flat.proofs.Children.{known_tasks}
use Rattle.elab_flat.proofs.works.push_group.Goals as goal

pub returns-in-Some-first_names : goal.returns-in-Some-first_names
returns-in-Some-first_names c =
    let at = placement c.args.at.now in
    let held = c.args.held.now in
    let bases = bases_of held in
    let before = map task c.args.made.now.items in
    let after = map task c.push_instantiations.new.made.items in
    let own = group c.in-Some.found in
    let scope = scope_of own.settings own.circuit in
    let ports = sockets c.in_ok-ports.ports in
    let inner = meanings c.in-Some-first_names.inner.now in
    let is : option_map group c.args.found ≡ Some own = ap (option_map group) c.in-Some.is in
    let known = subst (λ found. AreKnown held (group_scopes found)) is c.requires.known in
    let same : instantiations_tasks at ports inner bases own.instantiations ≡ instantiations_tasks at (sockets_of own.circuit) scope bases own.instantiations =
    known_tasks at ports held scope inner bases own.instantiations known c.in-Some-first_names.ensures
    ∙ ap (λ ports. instantiations_tasks at ports scope bases own.instantiations) c.in_ok-ports.ensures in
    on_ok_weaker c.push_instantiations.result
    (λ (told : after ≡ before ++ instantiations_tasks at ports inner bases own.instantiations).
    told
    ∙ ap (λ tasks. before ++ tasks) same
    ∙ ap (λ found. before ++ group_tasks at bases found) (sym is))
    c.push_instantiations.ensures
