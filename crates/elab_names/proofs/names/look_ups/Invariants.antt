use Rattle.std.proofs.Common.{◌∷◌, take}
use Rattle.rtl_elab.specs.elab_links.Modules.{lookups_of}
use Rattle.elab_names.specs.Asking.{AreAsked}
use Rattle.elab_names.proofs.Asking.{placed_names}
use Rattle.elab_names.proofs.names.look_ups.Given as goal

abbrev pub invariant-loop-placement : goal.invariant-loop-placement
invariant-loop-placement l =
    AreAsked (lookups_of l.set) (l.top ∷ placed_names (take l.placement-index l.placements)) l.asked
