use Rattle.std.proofs.Common.{◌≡◌, ◌∙◌, None, ap, map, subst, sym}
use Rattle.std.specs.Option.{option_map}
use Rattle.elab_lawful.specs.elab_flat.Children.{HaveChildren}
use Rattle.elab_lawful.specs.elab_scope.Faults.{answer}
use Rattle.elab_lawful.specs.elab_walk.Placements.{placements}
use Rattle.elab_lawful.specs.elab_walk.Trails.{placement}
use Rattle.elab_lawful.specs.elab_walk.Visits.{library}
use Rattle.rtl_elab.specs.Elaborated.{elaborated, refused, visited}
use Rattle.rtl_elab.proofs.Coming.{elaborated_held, elaborated_made}
use Rattle.rtl_elab.proofs.elaborate.flat_design.Goals as goal

pub returns-in-None-clause-design : goal.returns-in-None-clause-design
returns-in-None-clause-design c =
    let all = library c.args.all in
    let top = c.args.top.now in
    let nothing : refused (elaborated all top) ≡ None
    = sym c.in_ok-placements.ensures.told ∙ ap (option_map answer) c.in-None.is in
    cc (elaborated_made all top nothing, c.in_ok-placements.ensures.visited, c.in_ok-made_of-in-None.ensures, c.deref_mut.ensures.value)

pub made_of-requires-clause-held : goal.made_of-requires-clause-held
made_of-requires-clause-held c =
    let all = library c.args.all in
    let top = c.args.top.now in
    let nothing : refused (elaborated all top) ≡ None
    = sym c.in_ok-placements.ensures.told ∙ ap (option_map answer) c.in-None.is in
    let come : map placement c.deref_mut.result.now ≡ placements 0 0 (visited all top) = cc (c.in_ok-placements.ensures.visited, c.deref_mut.ensures.value) in
    subst (HaveChildren all) (sym come) (elaborated_held all top nothing)
