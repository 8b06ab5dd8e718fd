use Rattle.std.proofs.Common.{◌≡◌, map, drop}
use Rattle.elab_scope.specs.Names.{meanings}
use Rattle.elab_items.specs.Declarations.{declaration}
use Rattle.elab_items.specs.Settings.{settings_of}
use Rattle.elab_items.specs.declared.reach.Reach.TheVariants.{Scalar}
use Rattle.elab_expand.specs.Openings.{outers}
use Rattle.elab_expand.specs.Scoping.{with_declarations}
use Rattle.elab_expand.proofs.placing.declare_all.Given as goal

abbrev pub invariant-loop-entry : goal.invariant-loop-entry
invariant-loop-entry l =
    with_declarations (settings_of l.given) (record { outer = outers l.outer; own = meanings l.own }) l.reach (map declaration (drop l.entry-index l.entries))
    ≡ with_declarations (settings_of l.given) (record { outer = outers l.outer; own = meanings l.initial.own }) Scalar (map declaration l.entries)
