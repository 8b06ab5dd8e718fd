-- The library of files and the set that is made of them.
use Rattle.std.proofs.Common.{◌≡◌, ap}
use Rattle.std.specs.Prelude.{List, Vec}
use Rattle.std.specs.declared.alloc.Global.{Global}
use Rattle.rtl_tree.specs.declared.tree.modules.Module.{Module}
use Rattle.elab_lawful.specs.elab_links.declared.module_set.ModuleSet.{ModuleSet}
use Rattle.elab_lawful.specs.elab_links.Modules.{Lookups, all_placed, circuits_of, found, lookups_of}
use Rattle.elab_lawful.specs.elab_walk.Visits.{Library}
use Rattle.rtl_elab.specs.Designs.{library_of}

pub library_is : (files : List (Vec Module Global)) (set : ModuleSet) → lookups_of set ≡ found (all_placed (circuits_of files)) → (let both : Library = record { lookups = lookups_of set; files = circuits_of files } in both) ≡ library_of (circuits_of files)
library_is files set is = ap (λ (l : Lookups). let both : Library = record { lookups = l; files = circuits_of files } in both) is
