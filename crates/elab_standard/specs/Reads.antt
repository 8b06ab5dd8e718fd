-- It serves inner contracts and proofs; no answer of the program is stated by it.
-- By whom names are read.
use Rattle.elab_walk.specs.elab_scope.Names.{Meanings}
use Rattle.elab_standard.specs.declared.scopes.By.{By}
use Rattle.elab_standard.specs.declared.scopes.By.TheVariants as by
use Rattle.elab_standard.specs.Scopes.{Scopes, restated}

abbrev pub read_by : By → Scopes → Meanings
read_by by.Desk s = s.scope
read_by by.Standard s = restated s
