-- What elaboration is given and what it makes, as contracts see it.
-- Worked examples: crates/tests_layers/stdin.
use Rattle.std.specs.Prelude.{List, map}
use Rattle.rtl_tree.specs.TreeModule.{Circuit}
use Rattle.rtl_flat.specs.declared.design.Design.{Design}
use Rattle.rtl_flat.specs.Process.{task}
use Rattle.elab_lawful.specs.elab_links.Modules.{all_placed, found}
use Rattle.elab_lawful.specs.elab_walk.Visits.{Library}
use Rattle.elab_lawful.specs.elab_flat.Views.{flat}
use Rattle.rtl_flat.specs.Flats.{DesignParts}
use Rattle.rtl_elab.specs.declared.elaborate.NotedParts.{NotedParts}
use Rattle.rtl_elab.specs.Elaborated.{noted}

-- the modules of files, and which of them a name means
abbrev pub library_of : List (List Circuit) → Library
library_of files = record { lookups = found (all_placed files); files = files }

-- the parts of a design with its notes
abbrev pub noted_parts : NotedParts → DesignParts
noted_parts made = noted made.notes.items (flat made.flat)
