-- Which operator a symbol is, and how loosely what comes next binds.
use Rattle.std.proofs.Common.{◌≡◌, ℕ, ◌-◌, ◌≤◌, true, false, List, [], ◌∷◌, Option, Some, None, refl, leb-true, leb-false, arith}
use Rattle.rtl_tree.specs.declared.symbol.Symbol.{Symbol}
use Rattle.rtl_tree.specs.declared.symbol.Symbol.TheVariants as symbol
use Rattle.rtl_tree.specs.declared.tree.operators.BinaryOperator.{BinaryOperator}
use Rattle.rtl_tree.specs.declared.tree.operators.UnaryOperator.{UnaryOperator}
use Rattle.rtl_tree.specs.Symbols.{Terminal}
use Rattle.rtl_tree.specs.TreeExpr.{Formula, Number, Read, ReadBit, ReadPart, Parens, Apply, Concat, Repeat, Unary, Binary, Choose}
use Rattle.text_grammar.specs.GrammarExpr.{unary_symbol, binary_symbol, level, IsFormula}
use Rattle.text_build.specs.Reading.{symbol_at}
use Rattle.text_build.specs.ReadingExpr.{binary_of, unary_of, looseness, goes}

-- what the operator of a symbol says of it; what goes on and is no operator is a `?`
abbrev pub IsLink : Option BinaryOperator → Symbol → Type 0
IsLink None s = looseness s ≤ 12 → s ≡ symbol.Question
IsLink (Some op) s = (s ≡ binary_symbol op) × (looseness s ≡ level op)

pub link_is : (s : Symbol) → IsLink (binary_of s) s
unfolding binary_of looseness
link_is symbol.StarStar = (refl, refl)
link_is symbol.Star = (refl, refl)
link_is symbol.Slash = (refl, refl)
link_is symbol.Percent = (refl, refl)
link_is symbol.Plus = (refl, refl)
link_is symbol.Minus = (refl, refl)
link_is symbol.ShiftLeft = (refl, refl)
link_is symbol.ShiftRight = (refl, refl)
link_is symbol.ArithmeticShiftLeft = (refl, refl)
link_is symbol.ArithmeticShiftRight = (refl, refl)
link_is symbol.Less = (refl, refl)
link_is symbol.LessEquals = (refl, refl)
link_is symbol.Greater = (refl, refl)
link_is symbol.GreaterEquals = (refl, refl)
link_is symbol.EqualEquals = (refl, refl)
link_is symbol.BangEquals = (refl, refl)
link_is symbol.CaseEquals = (refl, refl)
link_is symbol.CaseBangEquals = (refl, refl)
link_is symbol.Ampersand = (refl, refl)
link_is symbol.Caret = (refl, refl)
link_is symbol.TildeCaret = (refl, refl)
link_is symbol.Bar = (refl, refl)
link_is symbol.AndAnd = (refl, refl)
link_is symbol.OrOr = (refl, refl)
link_is symbol.Question = λ h. refl
link_is s = λ h. absurd (omega (arith, h))

-- what the operator before an operand says of its symbol
abbrev pub IsPrefix : Option UnaryOperator → Symbol → Type 0
IsPrefix None s = Unit {0}
IsPrefix (Some op) s = s ≡ unary_symbol op

pub prefix_is : (s : Symbol) → IsPrefix (unary_of s) s
unfolding unary_of
prefix_is symbol.Plus = refl
prefix_is symbol.Minus = refl
prefix_is symbol.Bang = refl
prefix_is symbol.Tilde = refl
prefix_is symbol.Ampersand = refl
prefix_is symbol.TildeAmpersand = refl
prefix_is symbol.Bar = refl
prefix_is symbol.TildeBar = refl
prefix_is symbol.Caret = refl
prefix_is symbol.TildeCaret = refl
prefix_is s = tt

-- the symbol that goes on
pub record Goes (k : ℕ) (ts : List Terminal) : Type 0 where
  pub mark : Symbol
  pub is : symbol_at ts ≡ Some mark
  pub binds : looseness mark ≤ k

pub goes_is : (k : ℕ) (ts : List Terminal) → goes k ts ≡ true → Goes k ts
unfolding goes
goes_is k [] h = absurd (cc)
goes_is k (t ∷ ts) h = record { mark = t.symbol; is = refl; binds = leb-true (looseness t.symbol) k h }

-- what doesn't go on at a level binds looser
pub looser : (j : ℕ) (ts : List Terminal) → goes (j - 1) ts ≡ false → (i : ℕ) → goes i ts ≡ true → j ≤ i
unfolding goes
looser j [] e i g = absurd (cc)
looser j (t ∷ ts) e i g = omega (arith, leb-true (looseness t.symbol) i g, leb-false (looseness t.symbol) (j - 1) e)

-- an expression of a level is one of each looser level
pub wider : (j k : ℕ) → j ≤ k → (f : Formula) (ts rest : List Terminal) → IsFormula j f ts rest → IsFormula k f ts rest
wider j k h (Number value at) ts rest w = w
wider j k h (Read n) ts rest w = w
wider j k h (ReadBit n i) ts rest w = w
wider j k h (ReadPart n p a b) ts rest w = w
wider j k h (Parens at f) ts rest w = w
wider j k h (Apply x at f) ts rest w = w
wider j k h (Concat at fs) ts rest w = w
wider j k h (Repeat at t fs) ts rest w = w
wider j k h (Unary op at f) ts rest w = w
wider j k h (Binary op at l r) ts rest w = (omega (arith, h, w.0), w.1)
wider j k h (Choose at x t o) ts rest w = (omega (arith, h, w.0), w.1)
