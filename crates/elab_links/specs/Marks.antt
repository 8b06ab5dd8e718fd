-- Sets of names, as functions of the name.
-- Worked examples: crates/tests_rows/stdin.
use Rattle.std.specs.Prelude.{ℕ, List, [], ◌∷◌, Bool, true, false, if◌then◌else◌}
use Rattle.std.specs.Option.{is_some}
use Rattle.std.specs.Str.{bytes_eq}
use Rattle.name_map.specs.Values.{values_of}
use Rattle.rtl_tree.specs.TreeExpr.{Identifier}
use Rattle.elab_links.specs.declared.marks.NameSet.{NameSet}

-- whether each name is in the set
abbrev pub Marks : Type 0
Marks = List ℕ → Bool

abbrev pub no_marks : Marks
no_marks name = false

-- the same set and one name more
abbrev pub with_mark : Marks → List ℕ → Marks
with_mark marks name = λ other. if bytes_eq name other then true else marks other

-- the same set and the names of a list
abbrev pub with_marks : Marks → List Identifier → Marks
with_marks marks [] = marks
with_marks marks (first ∷ others) = with_marks (with_mark marks first.text) others

-- what a set of the code holds
abbrev pub marks_of : NameSet → Marks
marks_of set = λ name. is_some (values_of set.names name)
