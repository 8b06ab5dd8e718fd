-- It serves inner contracts and proofs; no answer of the program is stated by it.
-- What instances have from above, as the code keeps it.
use Rattle.std.specs.Prelude.{List, map, reverse}
use Rattle.std.specs.Option.{option_map}
use Rattle.name_map.specs.Values.{values_of}
use Rattle.rtl_tree.specs.TreeItem.{association}
use Rattle.elab_uses.specs.elab_standard.Scopes.{scopes}
use Rattle.elab_readings.specs.declared.above.Above.{Above as KeptAbove}
use Rattle.elab_readings.specs.declared.above.Below.{Below as KeptBelow}
use Rattle.elab_readings.specs.declared.above.Holder.{Holder as KeptHolder}
use Rattle.elab_readings.specs.declared.connections.Ends.{Ends as KeptEnds}
use Rattle.elab_readings.specs.Connections.{Ends, Holder}
use Rattle.elab_readings.specs.Readings.{Above, Below}
use Rattle.elab_uses.specs.elab_scope.Names.{meanings}

abbrev pub holder : KeptHolder → Holder
holder kept = record { home = kept.home; scopes = scopes kept.scopes; places = values_of kept.places }

abbrev pub below : KeptBelow → Below
below kept =
    record { parameters = association kept.parameters.now; connections = association kept.connections.now }

abbrev pub above : KeptAbove → Above
above kept = record { holder = holder kept.holder.value; below = below kept.below }

abbrev pub ends : KeptEnds → Ends
ends kept = record { holder = holder kept.holder.now; base = kept.base; inner = meanings kept.inner.now }

-- what is still to come, of which the next is kept last
abbrev pub waiting : List KeptAbove → List Above
waiting kept = reverse (map above kept)
