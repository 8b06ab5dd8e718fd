-- What of a module has no meaning in the design: regions that preparation dropped, the initial values of variables, and comments
-- that are worded like pragmas and tell nothing.
-- Worked examples: crates/tests_layers/stdin.
use Rattle.std.specs.Prelude.{ℕ, nat_lt, Bool, true, false, cond, List, [], ◌∷◌, ◌++◌}
use Rattle.std.specs.List.{filter}
use Rattle.text_ground.specs.declared.dropped.DropKind.{DropKind}
use Rattle.text_ground.specs.declared.dropped.DropKind.TheVariants.{Comment, Initial, TranslateOff}
use Rattle.text_ground.specs.declared.dropped.Dropped.{Dropped}
use Rattle.rtl_tree.specs.TreeItem.{Variable, ModuleItem, Ports, Nets, Variables, Integers, Parameters, Drives, Gates, Always, Instances}
use Rattle.rtl_tree.specs.TreeModule.{Circuit}

-- ---- the initial values of variables: each is dropped as an `initial` construct at its name would be (IEEE 1364-2001
-- section 6.2.1)

abbrev pub initial_of : Variable → List Dropped
initial_of variable = cond variable.initial (record { kind = Initial; at = variable.name.at } ∷ []) []

abbrev pub variable_initials : List Variable → List Dropped
variable_initials [] = []
variable_initials (first ∷ others) = initial_of first ++ variable_initials others

abbrev pub item_initials : ModuleItem → List Dropped
item_initials (Variables at signed bounds variables) = variable_initials variables
item_initials (Ports head names) = []
item_initials (Nets at signed bounds nets) = []
item_initials (Integers at names) = []
item_initials (Parameters at kind bounds values) = []
item_initials (Drives at pause drives) = []
item_initials (Gates at names pause drives) = []
item_initials (Always at sensitivity body) = []
item_initials (Instances child parameters instantiations) = []

abbrev pub initials : List ModuleItem → List Dropped
initials [] = []
initials (first ∷ others) = item_initials first ++ initials others

-- ---- all regions by place

abbrev pub is_kind : DropKind → DropKind → Bool
is_kind Initial Initial = true
is_kind TranslateOff TranslateOff = true
is_kind Comment Comment = true
is_kind _ _ = false

abbrev pub is_of : DropKind → Dropped → Bool
is_of kind region = is_kind kind region.kind

-- the regions up to a place, of regions by place
abbrev pub up_to : ℕ → List Dropped → List Dropped
up_to at [] = []
up_to at (first ∷ others) = cond (nat_lt at first.at) [] (first ∷ up_to at others)

-- and those behind it
abbrev pub past : ℕ → List Dropped → List Dropped
past at [] = []
past at (first ∷ others) = cond (nat_lt at first.at) (first ∷ others) (past at others)

-- regions by place and others by place, all by place; at one place the others come behind
abbrev pub merged : List Dropped → List Dropped → List Dropped
merged regions [] = regions
merged regions (first ∷ others) = up_to first.at regions ++ first ∷ merged (past first.at regions) others

-- what a module doesn't show, by place
abbrev pub dropped_in : Circuit → List Dropped
dropped_in circuit =
    merged
    (merged (merged (filter (is_of TranslateOff) circuit.dropped) (filter (is_of Initial) circuit.dropped)) (initials circuit.items))
    (filter (is_of Comment) circuit.dropped)
