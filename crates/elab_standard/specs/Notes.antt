-- The notes of expressions: they stand at the roots, parentheses off.
-- Worked examples: crates/tests_rows/stdin.
use Rattle.std.specs.Prelude.{ℕ, Bool, if◌then◌else◌, List, [], ◌∷◌, None}
use Rattle.rtl_tree.specs.TreeExpr.{Formula, Number, Read, ReadBit, ReadPart, Parens, Apply, Concat, Repeat, Unary, Binary, Choose, formula_place}
use Rattle.rtl_flat.specs.declared.note.Note.{Note}
use Rattle.rtl_flat.specs.declared.note.Reading.{Reading}
use Rattle.elab_walk.specs.elab_scope.Trees.{spot_in}
use Rattle.elab_standard.specs.declared.uses.Home.{Home}

-- an expression without its parentheses
abbrev pub bare : Formula → Formula
bare (Parens at inner) = bare inner
bare e = e

-- the place of an expression without its parentheses
abbrev pub root_place : Formula → ℕ
root_place e = formula_place (bare e)

-- a note at a place
abbrev pub note_at : Home → Reading → ℕ → Note
note_at home reading at =
    record { reading = reading; signal = None; instance = home.instance; spot = spot_in home.file at }

-- a note where a rule is broken
abbrev pub note_if : Bool → Home → Reading → ℕ → List Note
note_if broken home reading at = if broken then note_at home reading at ∷ [] else []
