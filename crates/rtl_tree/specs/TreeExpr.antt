-- The plain form of expressions: lists for vectors and texts, trees for boxes.
-- Worked examples: crates/elab_items/proofs/Examples.antt.
use Rattle.std.specs.Prelude.{ℕ, List, [], ◌∷◌}
use Rattle.rtl_tree.specs.declared.literal.Literal.{Literal}
use Rattle.rtl_tree.specs.declared.tree.names.Name.{Name}
use Rattle.rtl_tree.specs.declared.tree.operators.UnaryOperator.{UnaryOperator}
use Rattle.rtl_tree.specs.declared.tree.operators.BinaryOperator.{BinaryOperator}
use Rattle.rtl_tree.specs.declared.tree.operators.SystemFunction.{SystemFunction}
use Rattle.rtl_tree.specs.declared.tree.operators.PartKind.{PartKind}
use Rattle.rtl_tree.specs.declared.tree.expr.Expr.{Expr, Row_of-Expr, end_of-Expr, more_of-Expr}
use Rattle.rtl_tree.specs.declared.tree.expr.Expr.TheVariants as written
use Rattle.rtl_tree.specs.declared.tree.expr.Range.{Range}

-- a name: its bytes, and the place of the first of them
pub record Identifier : Type 0 where
  pub text : List ℕ
  pub at : ℕ

mutual
  -- an expression as it is written, each node with its place
  pub data Formula : Type 0 where
    Number : (value : Literal) (at : ℕ) → Formula
    Read : (name : Identifier) → Formula
    ReadBit : (name : Identifier) (index : Formula) → Formula
    ReadPart : (name : Identifier) (kind : PartKind) (first second : Formula) → Formula
    Parens : (at : ℕ) (inner : Formula) → Formula
    Apply : (function : SystemFunction) (at : ℕ) (inner : Formula) → Formula
    Concat : (at : ℕ) (parts : Formulas) → Formula
    Repeat : (at : ℕ) (times : Formula) (parts : Formulas) → Formula
    Unary : (operator : UnaryOperator) (at : ℕ) (operand : Formula) → Formula
    Binary : (operator : BinaryOperator) (at : ℕ) (left right : Formula) → Formula
    Choose : (at : ℕ) (condition taken otherwise : Formula) → Formula

  -- expressions in a row
  pub data Formulas : Type 0 where
    no_formulas : Formulas
    more_formulas : (first : Formula) (others : Formulas) → Formulas

-- the row of a list of expressions
abbrev pub formula_row : List Formula → Formulas
formula_row [] = no_formulas
formula_row (first ∷ others) = more_formulas first (formula_row others)

-- the list of a row of expressions
abbrev pub formula_list : Formulas → List Formula
formula_list no_formulas = []
formula_list (more_formulas first others) = first ∷ formula_list others

-- the place of an expression: of its operator where one stands between operands, else of its first token
abbrev pub formula_place : Formula → ℕ
formula_place (Number value at) = at
formula_place (Read name) = name.at
formula_place (ReadBit name index) = name.at
formula_place (ReadPart name kind first second) = name.at
formula_place (Parens at inner) = at
formula_place (Apply function at inner) = at
formula_place (Concat at parts) = at
formula_place (Repeat at times parts) = at
formula_place (Unary operator at operand) = at
formula_place (Binary operator at left right) = at
formula_place (Choose at condition taken otherwise) = at

-- the range of a declaration, with the place of its bracket
pub record Bounds : Type 0 where
  pub at : ℕ
  pub msb : Formula
  pub lsb : Formula

abbrev pub identifier : Name → Identifier
identifier name = record { text = name.text; at = name.at }

abbrev mutual
  pub formula : Expr → Formula
  formula (written.Number value at) = Number value at
  formula (written.Read name) = Read (identifier name)
  formula (written.ReadBit' name p index) = ReadBit (identifier name) (formula index)
  formula (written.ReadPart' name kind p first q second) =
      ReadPart (identifier name) kind (formula first) (formula second)
  formula (written.Parens' at p inner) = Parens at (formula inner)
  formula (written.Apply' function at p inner) = Apply function at (formula inner)
  formula (written.Concat' at shape parts) = Concat at (formulas parts)
  formula (written.Repeat' at p times shape parts) = Repeat at (formula times) (formulas parts)
  formula (written.Unary' operator at p operand) = Unary operator at (formula operand)
  formula (written.Binary' operator at p left q right) =
      Binary operator at (formula left) (formula right)
  formula (written.Choose' at p condition q taken r otherwise) =
      Choose at (formula condition) (formula taken) (formula otherwise)

  pub formulas : {m : _} → Row_of-Expr m → Formulas
  formulas end_of-Expr = no_formulas
  formulas (more_of-Expr first others) = more_formulas (formula first) (formulas others)

abbrev pub bounds : Range → Bounds
bounds range = record { at = range.at; msb = formula range.msb; lsb = formula range.lsb }
