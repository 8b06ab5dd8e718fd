-- It serves inner contracts and proofs; no answer of the program is stated by it.
-- The instances right under one: that its items place them, and what the code keeps of them.
use Rattle.std.specs.Prelude.{◌≡◌, ℕ, List, [], ◌∷◌, ◌++◌, map, Option, None, Some, IfSome}
use Rattle.std.specs.Option.{option_map}
use Rattle.rtl_tree.specs.TreeItem.{ModuleItem}
use Rattle.elab_walk.specs.elab_scope.Names.{Meanings, meanings}
use Rattle.elab_walk.specs.elab_items.Scopes.{scope_of}
use Rattle.elab_walk.specs.elab_links.Groups.{Group, group_of}
use Rattle.elab_walk.specs.Placements.{Placement}
use Rattle.elab_walk.specs.Visits.{Library, scope_in}
use Rattle.elab_flat.specs.declared.works.Child.{Child}
use Rattle.elab_flat.specs.Held.{depth_of, held_under}

-- what names stand for in each instance that an item places
abbrev pub group_scopes : Option Group → List Meanings
group_scopes None = []
group_scopes (Some group) = map (λ instantiation. scope_of group.settings group.circuit) group.instantiations

-- the same of those that items place, in order, where the names of the items stand for this
abbrev pub placed_scopes : Library → Meanings → List ModuleItem → List Meanings
placed_scopes library scope [] = []
placed_scopes library scope (first ∷ others) =
    group_scopes (group_of library.lookups library.files scope first) ++ placed_scopes library scope others

-- what names stand for in instances in a row
abbrev pub scopes_of : List Placement → List Meanings
scopes_of placements = map (λ placement. scope_in placement.visit) placements

-- whether names stand in the instances right under one, of those behind it, for what they do in the first that its items
-- place
abbrev pub HasChildren : Library → Placement → List Placement → Type 0
HasChildren library placement behind =
    (left : List Meanings) × (placed_scopes library (scope_in placement.visit) placement.visit.circuit.items ≡ scopes_of (held_under (depth_of placement) behind) ++ left)

-- whether that holds of each instance in a row
abbrev pub HaveChildren : Library → List Placement → Type 0
HaveChildren library [] = Unit {0}
HaveChildren library (first ∷ others) = HasChildren library first others × HaveChildren library others

-- ---- what the code keeps

-- how many signals come before those of each
abbrev pub bases_of : List Child → List ℕ
bases_of children = map (λ child. child.base) children

-- what names stand for in an instance, where that is kept
abbrev pub known_names : Child → Option Meanings
known_names child = option_map (λ names. meanings names.now) child.names

-- the same of the first of some instances
abbrev pub first_names : List Child → Option Meanings
first_names [] = None
first_names (child ∷ children) = known_names child

-- whether names that are kept stand for this
abbrev pub IsKnown : Child → Meanings → Type 0
IsKnown child scope = IfSome (known_names child) (λ names. names ≡ scope)

-- whether these instances are kept, in order
abbrev pub AreKept : List Child → List Placement → Type 0
AreKept [] [] = Unit {0}
AreKept [] (placement ∷ placements) = ⊥
AreKept (child ∷ children) [] = ⊥
AreKept (child ∷ children) (placement ∷ placements) =
    ((child.base ≡ placement.base) × IsKnown child (scope_in placement.visit)) × AreKept children placements

-- whether names that are kept stand for these in the same order, as far as both go
abbrev pub AreKnown : List Child → List Meanings → Type 0
AreKnown [] scopes = Unit {0}
AreKnown (child ∷ children) [] = Unit {0}
AreKnown (child ∷ children) (scope ∷ scopes) = IsKnown child scope × AreKnown children scopes
