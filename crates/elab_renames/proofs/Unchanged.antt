-- Where each name stays, what is renamed stays.
use Rattle.std.proofs.Common.{◌≡◌, ◌∙◌, ℕ, List, Option, None, Some, refl, ap}
use Rattle.std.specs.Option.{option_map}
use Rattle.rtl_tree.specs.TreeExpr.{Identifier, Formula, Number, Read, ReadBit, ReadPart, Parens, Apply, Concat, Repeat, Unary, Binary, Choose, Formulas, no_formulas, more_formulas, Bounds}
use Rattle.elab_scope.specs.Names.{Meanings, no_meanings}
use Rattle.elab_renames.specs.Renames.{named, renamed_identifier, renamed_formula, renamed_formulas, renamed_bounds}

abbrev identifier_of : ℕ → List ℕ → Identifier
identifier_of at text = record { text = text; at = at }

pub identifier_unchanged : (f : List ℕ → List ℕ) → ((name : List ℕ) → f name ≡ name) → (name : Identifier) → renamed_identifier f name ≡ name
identifier_unchanged f same name = ap (identifier_of name.at) (same name.text)

mutual
  pub formula_unchanged : (f : List ℕ → List ℕ) → ((name : List ℕ) → f name ≡ name) → (e : Formula) → renamed_formula f e ≡ e
  formula_unchanged f same (Number value at) = refl
  formula_unchanged f same (Read name) = ap Read (identifier_unchanged f same name)
  formula_unchanged f same (ReadBit name index) =
      let name' = identifier_unchanged f same name in
      let index' = formula_unchanged f same index in
      cc
  formula_unchanged f same (ReadPart name kind first second) =
      let name' = identifier_unchanged f same name in
      let first' = formula_unchanged f same first in
      let second' = formula_unchanged f same second in
      cc
  formula_unchanged f same (Parens at inner) = ap (Parens at) (formula_unchanged f same inner)
  formula_unchanged f same (Apply function at inner) =
      ap (Apply function at) (formula_unchanged f same inner)
  formula_unchanged f same (Concat at parts) = ap (Concat at) (formulas_unchanged f same parts)
  formula_unchanged f same (Repeat at times parts) =
      let times' = formula_unchanged f same times in
      let parts' = formulas_unchanged f same parts in
      cc
  formula_unchanged f same (Unary operator at operand) =
      ap (Unary operator at) (formula_unchanged f same operand)
  formula_unchanged f same (Binary operator at left right) =
      let left' = formula_unchanged f same left in
      let right' = formula_unchanged f same right in
      cc
  formula_unchanged f same (Choose at condition taken otherwise) =
      let condition' = formula_unchanged f same condition in
      let taken' = formula_unchanged f same taken in
      let otherwise' = formula_unchanged f same otherwise in
      cc

  formulas_unchanged : (f : List ℕ → List ℕ) → ((name : List ℕ) → f name ≡ name) → (all : Formulas) → renamed_formulas f all ≡ all
  formulas_unchanged f same no_formulas = refl
  formulas_unchanged f same (more_formulas first others) =
      let first' = formula_unchanged f same first in
      let others' = formulas_unchanged f same others in
      cc

abbrev bounds_of : ℕ → Formula → Formula → Bounds
bounds_of at msb lsb = record { at = at; msb = msb; lsb = lsb }

pub bounds_unchanged : (f : List ℕ → List ℕ) → ((name : List ℕ) → f name ≡ name) → (bounds : Bounds) → renamed_bounds f bounds ≡ bounds
bounds_unchanged f same bounds =
    ap (λ msb. bounds_of bounds.at msb (renamed_formula f bounds.lsb)) (formula_unchanged f same bounds.msb)
    ∙ ap (bounds_of bounds.at bounds.msb) (formula_unchanged f same bounds.lsb)

-- in a scope with no names each name stays
pub unnamed : (scope : Meanings) (component : List ℕ) → scope ≡ no_meanings → (name : List ℕ) → named scope component name ≡ name
unfolding named
unnamed scope component empty name = ap (λ scope. named scope component name) empty

pub unnamed_formula : (scope : Meanings) (component : List ℕ) → scope ≡ no_meanings → (e : Formula) → renamed_formula (named scope component) e ≡ e
unnamed_formula scope component empty e =
    formula_unchanged (named scope component) (unnamed scope component empty) e

pub unnamed_range : (scope : Meanings) (component : List ℕ) → scope ≡ no_meanings → (range : Option Bounds) → option_map (renamed_bounds (named scope component)) range ≡ range
unnamed_range scope component empty None = refl
unnamed_range scope component empty (Some bounds) =
    ap Some (bounds_unchanged (named scope component) (unnamed scope component empty) bounds)
