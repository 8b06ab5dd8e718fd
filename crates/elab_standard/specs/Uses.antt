-- Expressions as they are used in an instance, and what other tools read otherwise in them.
-- Worked examples: crates/tests_rows/stdin.
use Rattle.std.specs.Prelude.{ℕ, Bool, List, [], ◌∷◌, ◌++◌, map}
use Rattle.std.specs.List.{list_any}
use Rattle.rtl_tree.specs.TreeExpr.{Formula, formula}
use Rattle.rtl_tree.specs.TreeStmt.{Branch, Labelled, Default, Branches, no_branches, more_branches, branch, branch_row}
use Rattle.rtl_flat.specs.declared.note.Note.{Note}
use Rattle.rtl_flat.specs.declared.note.Reading.TheVariants.{ParameterFormat, CaseSigns}
use Rattle.elab_walk.specs.elab_parts.elab_body.Acts.{case_context}
use Rattle.elab_walk.specs.elab_scope.declared.context.Context.{Context}
use Rattle.elab_standard.specs.declared.uses.Home.{Home}
use Rattle.elab_standard.specs.declared.uses.Use.{Use as Written}
use Rattle.elab_standard.specs.declared.uses.Use.TheVariants as written
use Rattle.elab_standard.specs.Cases.{case_labels, is_case_misread}
use Rattle.elab_standard.specs.Differing.{differs}
use Rattle.elab_standard.specs.Nested.{format_notes, nested_notes}
use Rattle.elab_standard.specs.Notes.{note_if, root_place}
use Rattle.elab_standard.specs.Numbers.{count_notes, number_notes, truth_notes}
use Rattle.elab_standard.specs.Scopes.{Scopes, restated}
use Rattle.elab_standard.specs.Unsized.{unsized_notes}

-- an expression as it is used: a value that is worked out while the design runs, in at least so many bits; a case, whose
-- selector and labels are sized together; and constants of which the number counts, the truth, or what an `integer` takes of it
pub data Use : Type 0 where
  Value : (value : Formula) (wanted : ℕ) → Use
  Case : (at : ℕ) (selector : Formula) (branches : Branches) → Use
  Number : (value : Formula) → Use
  Test : (value : Formula) → Use
  Count : (value : Formula) → Use

-- one of the code
abbrev pub used : Written → Use
used (written.Value value wanted) = Value (formula value.now) wanted
used (written.Case at selector items) = Case at (formula selector.now) (branch_row (map branch items.now))
used (written.Number value) = Number (formula value.now)
used (written.Test value) = Test (formula value.now)
used (written.Count value) = Count (formula value.now)

-- the constants, the computed indices and the numbers without a width in an expression
abbrev pub inner_notes : Home → Scopes → Formula → List Note
inner_notes home s e = nested_notes home s e ++ unsized_notes home s e

abbrev pub all_inner_notes : Home → Scopes → List Formula → List Note
all_inner_notes home s [] = []
all_inner_notes home s (first ∷ others) = inner_notes home s first ++ all_inner_notes home s others

-- those of the labels of a case
abbrev pub branch_notes : Home → Scopes → Branch → List Note
branch_notes home s (Labelled labels body) = all_inner_notes home s labels
branch_notes home s (Default at body) = []

abbrev pub branches_notes : Home → Scopes → Branches → List Note
branches_notes home s no_branches = []
branches_notes home s (more_branches first others) =
    branch_notes home s first ++ branches_notes home s others

abbrev pub value_notes : Home → Scopes → Formula → ℕ → List Note
value_notes home s e wanted = format_notes home s e wanted ++ inner_notes home s e

-- whether a selector or a label differs in the context that they share
abbrev pub any_differs : Scopes → List Formula → Context → Context → Bool
any_differs s members desk standard = list_any (λ e. differs s e desk standard) members

abbrev pub is_case_differing : Scopes → Formula → Branches → Bool
is_case_differing s selector branches =
    any_differs s (selector ∷ case_labels branches) (case_context s.scope selector branches) (case_context (restated s) selector branches)

abbrev pub case_notes : Home → Scopes → ℕ → Formula → Branches → List Note
case_notes home s at selector branches =
    note_if (is_case_misread s.scope selector branches) home CaseSigns at
    ++ note_if (is_case_differing s selector branches) home ParameterFormat (root_place selector)
    ++ inner_notes home s selector
    ++ branches_notes home s branches

-- what other tools read otherwise in it
unfoldable pub use_notes : Home → Scopes → Use → List Note
use_notes home s (Value value wanted) = value_notes home s value wanted
use_notes home s (Case at selector branches) = case_notes home s at selector branches
use_notes home s (Number value) = number_notes home s value ++ unsized_notes home s value
use_notes home s (Test value) = truth_notes home s value ++ unsized_notes home s value
use_notes home s (Count value) = count_notes home s value ++ unsized_notes home s value
