-- The values that names have, as a function of the name.
-- Worked examples: crates/elab_items/proofs/Examples.antt.
use Rattle.std.specs.Prelude.{ℕ, List, Option, None, Some, if◌then◌else◌}
use Rattle.std.specs.Option.{is_some}
use Rattle.std.specs.BTreeMap.{get_by}
use Rattle.std.specs.Cmp.Lexicographic.{slice_cmp}
use Rattle.std.specs.Ordering.{nat_cmp}
use Rattle.std.specs.Str.{bytes_eq}
use Rattle.name_map.specs.Packed.{is_short, packed}
use Rattle.name_map.specs.declared.NameMap.{NameMap}

-- the value of each name that has one
abbrev pub Values : Type 0 → Type 0
Values V = List ℕ → Option V

-- no name has a value
abbrev pub no_values : {V : Type 0} → Values V
no_values name = None

-- the same, but that one name has this value
abbrev pub with_value : {V : Type 0} → Values V → List ℕ → V → Values V
with_value values name value = λ other. if bytes_eq name other then Some value else values other

-- the same, but that one name has this value if it had none
abbrev pub entered : {V : Type 0} → Values V → List ℕ → V → Values V
entered values name value = if is_some (values name) then values else with_value values name value

-- what a map holds
unfoldable pub values_of : {V : Type 0} → NameMap V → Values V
values_of names = λ name.
    if is_short name then get_by (λ key. nat_cmp (packed name) key) names.short
    else get_by (λ key. slice_cmp nat_cmp name key.items) names.long
