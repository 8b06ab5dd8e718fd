-- Modules with constructs.
use Rattle.std.specs.Prelude.{List, [], ◌∷◌, length, map}
use Rattle.std.proofs.Common.{◌≡◌, refl}
use Rattle.rtl_tree.specs.TreeModule.{Circuit, Construct, construct}
use Rattle.rtl_tree.specs.declared.tree.modules.Construct.{Construct as Made}
use Rattle.elab_items.specs.Settings.{Settings}
use Rattle.elab_expand.specs.Expansions.{ended, expansion, expansion_by, opened, with_pile}

some_by : (settings : Settings) (circuit : Circuit) (all : List Construct) → (length all ≡ 0 → ⊥) → expansion_by settings circuit all ≡ with_pile circuit (ended circuit.at (opened settings circuit))
some_by settings circuit [] some = absurd (some refl)
some_by settings circuit (first ∷ others) some = refl

pub some_expanded : (settings : Settings) (circuit : Circuit) → (length circuit.constructs ≡ 0 → ⊥) → expansion settings circuit ≡ with_pile circuit (ended circuit.at (opened settings circuit))
unfolding expansion
some_expanded settings circuit some = some_by settings circuit circuit.constructs some

pub some_viewed : (all : List Made) → (length all ≡ 0 → ⊥) → length (map construct all) ≡ 0 → ⊥
some_viewed [] some h = some refl
some_viewed (first ∷ others) some h = absurd cc
