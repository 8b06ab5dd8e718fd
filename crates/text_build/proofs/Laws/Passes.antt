-- The pass over a value goes over just an expression, however deep it is nested.
use Rattle.std.proofs.Common.{◌≡◌, ℕ, suc, ◌+◌, ◌-◌, List, ◌∷◌, Some, refl, sym, ap, ◌∙◌, arith}
use Rattle.rtl_tree.specs.declared.symbol.Symbol.{Symbol}
use Rattle.rtl_tree.specs.declared.symbol.Symbol.TheVariants as symbol
use Rattle.rtl_tree.specs.declared.tree.operators.BinaryOperator.{BinaryOperator}
use Rattle.rtl_tree.specs.declared.tree.operators.BinaryOperator.TheVariants as binary
use Rattle.rtl_tree.specs.declared.tree.operators.UnaryOperator.{UnaryOperator}
use Rattle.rtl_tree.specs.declared.tree.operators.UnaryOperator.TheVariants as unary
use Rattle.rtl_tree.specs.declared.tree.operators.SystemFunction.{SystemFunction}
use Rattle.rtl_tree.specs.declared.tree.operators.SystemFunction.TheVariants as function
use Rattle.rtl_tree.specs.declared.tree.operators.PartKind.{PartKind}
use Rattle.rtl_tree.specs.declared.tree.operators.PartKind.TheVariants as selects
use Rattle.rtl_tree.specs.Symbols.{Terminal}
use Rattle.rtl_tree.specs.TreeExpr.{Formula, Number, Read, ReadBit, ReadPart, Parens, Apply, Concat, Repeat, Unary, Binary, Choose, Formulas, no_formulas, more_formulas}
use Rattle.text_grammar.specs.Grammar.{IsA}
use Rattle.text_grammar.specs.GrammarExpr.{unary_symbol, binary_symbol, part_symbol, function_symbol, level, IsFormula, AreFormulas, AreMoreFormulas}
use Rattle.text_build.specs.declared.attributes.Role.{Role}
use Rattle.text_build.specs.declared.attributes.Role.TheVariants as role
use Rattle.text_build.specs.ReadingStmt.{role_of, open_after, past_by, past}
use Rattle.text_build.proofs.Laws.Tokens.{at_is, name_is}

goes_past : (n m : ℕ) (r : Role) (s : Symbol) (ts rest : List Terminal) → IsA s ts rest → role_of s ≡ r → open_after r n ≡ Some m → past n ts ≡ past m rest
goes_past n m r s ts rest w h k =
    ap (past n) w.1
    ∙ ap (λ x. past_by (open_after (role_of x) n) (w.0 ∷ rest) (λ i. past i rest)) w.2
    ∙ ap (λ x. past_by (open_after x n) (w.0 ∷ rest) (λ i. past i rest)) h
    ∙ ap (λ x. past_by x (w.0 ∷ rest) (λ i. past i rest)) k

past_inside : (n : ℕ) (s : Symbol) (ts rest : List Terminal) → IsA s ts rest → role_of s ≡ role.Inside → past n ts ≡ past n rest
past_inside n s ts rest w h = goes_past n n role.Inside s ts rest w h refl

past_open : (n : ℕ) (s : Symbol) (ts rest : List Terminal) → IsA s ts rest → role_of s ≡ role.Opens → past n ts ≡ past (suc n) rest
past_open n s ts rest w h = goes_past n (suc n) role.Opens s ts rest w h (let e : n + 1 ≡ suc n = omega arith in ap (λ x. Some x) e)

past_close : (n : ℕ) (s : Symbol) (ts rest : List Terminal) → IsA s ts rest → role_of s ≡ role.Closes → past (suc n) ts ≡ past n rest
past_close n s ts rest w h = goes_past (suc n) n role.Closes s ts rest w h (let e : suc n - 1 ≡ n = omega arith in ap (λ x. Some x) e)

past_comma : (n : ℕ) (ts rest : List Terminal) → IsA symbol.Comma ts rest → past (suc n) ts ≡ past (suc n) rest
past_comma n ts rest w = goes_past (suc n) (suc n) role.Ends symbol.Comma ts rest w refl refl

-- outside brackets a value ends before such a mark
pub past_ends : (s : Symbol) (ts rest : List Terminal) → IsA s ts rest → role_of s ≡ role.Ends → past 0 ts ≡ ts
past_ends s ts rest w h =
    ap (past 0) w.1
    ∙ ap (λ x. past_by (open_after (role_of x) 0) (w.0 ∷ rest) (λ i. past i rest)) w.2
    ∙ ap (λ x. past_by (open_after x 0) (w.0 ∷ rest) (λ i. past i rest)) h
    ∙ sym w.1

pub past_quoted : (ts rest : List Terminal) → IsA symbol.Quoted ts rest → past 0 ts ≡ past 0 rest
past_quoted ts rest w = past_inside 0 symbol.Quoted ts rest w refl

unary_inside : (op : UnaryOperator) → role_of (unary_symbol op) ≡ role.Inside
unary_inside unary.Plus = refl
unary_inside unary.Minus = refl
unary_inside unary.LogicalNot = refl
unary_inside unary.BitwiseNot = refl
unary_inside unary.ReduceAnd = refl
unary_inside unary.ReduceNand = refl
unary_inside unary.ReduceOr = refl
unary_inside unary.ReduceNor = refl
unary_inside unary.ReduceXor = refl
unary_inside unary.ReduceXnor = refl

binary_inside : (op : BinaryOperator) → role_of (binary_symbol op) ≡ role.Inside
binary_inside binary.Power = refl
binary_inside binary.Multiply = refl
binary_inside binary.Divide = refl
binary_inside binary.Modulus = refl
binary_inside binary.Add = refl
binary_inside binary.Subtract = refl
binary_inside binary.ShiftLeft = refl
binary_inside binary.ShiftRight = refl
binary_inside binary.ArithmeticShiftLeft = refl
binary_inside binary.ArithmeticShiftRight = refl
binary_inside binary.Less = refl
binary_inside binary.LessOrEqual = refl
binary_inside binary.Greater = refl
binary_inside binary.GreaterOrEqual = refl
binary_inside binary.Equal = refl
binary_inside binary.NotEqual = refl
binary_inside binary.CaseEqual = refl
binary_inside binary.CaseNotEqual = refl
binary_inside binary.BitwiseAnd = refl
binary_inside binary.BitwiseXor = refl
binary_inside binary.BitwiseXnor = refl
binary_inside binary.BitwiseOr = refl
binary_inside binary.LogicalAnd = refl
binary_inside binary.LogicalOr = refl

part_inside : (k : PartKind) → role_of (part_symbol k) ≡ role.Inside
part_inside selects.Between = refl
part_inside selects.Up = refl
part_inside selects.Down = refl

function_inside : (f : SystemFunction) → role_of (function_symbol f) ≡ role.Inside
function_inside function.Signed = refl
function_inside function.Unsigned = refl
function_inside function.Clog2 = refl

mutual
  pub past_formula : (k : ℕ) (f : Formula) (n : ℕ) (ts rest : List Terminal) → IsFormula k f ts rest → past n ts ≡ past n rest
  past_formula k (Number value at) n ts rest w = past_inside n symbol.Number ts rest (w.0, w.1, w.2.0) refl
  past_formula k (Read x) n ts rest w = past_inside n symbol.Name ts rest (name_is x ts rest w) refl
  past_formula k (ReadBit x i) n ts rest w =
      let a = w.2 in
      let b = a.2 in
      past_inside n symbol.Name ts w.0 (name_is x ts w.0 w.1) refl
      ∙ past_open n symbol.OpenBracket w.0 a.0 a.1 refl
      ∙ past_formula 12 i (suc n) a.0 b.0 b.1
      ∙ past_close n symbol.CloseBracket b.0 rest b.2 refl
  past_formula k (ReadPart x j m l) n ts rest w =
      let a = w.2 in
      let b = a.2 in
      let c = b.2 in
      let d = c.2 in
      past_inside n symbol.Name ts w.0 (name_is x ts w.0 w.1) refl
      ∙ past_open n symbol.OpenBracket w.0 a.0 a.1 refl
      ∙ past_formula 12 m (suc n) a.0 b.0 b.1
      ∙ past_inside (suc n) (part_symbol j) b.0 c.0 c.1 (part_inside j)
      ∙ past_formula 12 l (suc n) c.0 d.0 d.1
      ∙ past_close n symbol.CloseBracket d.0 rest d.2 refl
  past_formula k (Parens at f) n ts rest w =
      let a = w.2 in
      past_open n symbol.OpenParen ts w.0 (at_is symbol.OpenParen at ts w.0 w.1) refl
      ∙ past_formula 12 f (suc n) w.0 a.0 a.1
      ∙ past_close n symbol.CloseParen a.0 rest a.2 refl
  past_formula k (Apply s at f) n ts rest w =
      let a = w.2 in
      let b = a.2 in
      past_inside n (function_symbol s) ts w.0 (at_is (function_symbol s) at ts w.0 w.1) (function_inside s)
      ∙ past_open n symbol.OpenParen w.0 a.0 a.1 refl
      ∙ past_formula 12 f (suc n) a.0 b.0 b.1
      ∙ past_close n symbol.CloseParen b.0 rest b.2 refl
  past_formula k (Concat at parts) n ts rest w =
      let a = w.2 in
      past_open n symbol.OpenBrace ts w.0 (at_is symbol.OpenBrace at ts w.0 w.1) refl
      ∙ past_formulas parts n w.0 a.0 a.1
      ∙ past_close n symbol.CloseBrace a.0 rest a.2 refl
  past_formula k (Repeat at times parts) n ts rest w =
      let a = w.2 in
      let b = a.2 in
      let c = b.2 in
      let d = c.2 in
      past_open n symbol.OpenBrace ts w.0 (at_is symbol.OpenBrace at ts w.0 w.1) refl
      ∙ past_formula 12 times (suc n) w.0 a.0 a.1
      ∙ past_open (suc n) symbol.OpenBrace a.0 b.0 b.1 refl
      ∙ past_formulas parts (suc n) b.0 c.0 c.1
      ∙ past_close (suc n) symbol.CloseBrace c.0 d.0 d.1 refl
      ∙ past_close n symbol.CloseBrace d.0 rest d.2 refl
  past_formula k (Unary op at f) n ts rest w =
      past_inside n (unary_symbol op) ts w.0 (at_is (unary_symbol op) at ts w.0 w.1) (unary_inside op) ∙ past_formula 0 f n w.0 rest w.2
  past_formula k (Binary op at l r) n ts rest w =
      let v = w.1 in
      let a = v.2 in
      past_formula (level op) l n ts v.0 v.1
      ∙ past_inside n (binary_symbol op) v.0 a.0 (at_is (binary_symbol op) at v.0 a.0 a.1) (binary_inside op)
      ∙ past_formula (level op - 1) r n a.0 rest a.2
  past_formula k (Choose at x t o) n ts rest w =
      let v = w.1 in
      let a = v.2 in
      let b = a.2 in
      let c = b.2 in
      past_formula 11 x n ts v.0 v.1
      ∙ past_inside n symbol.Question v.0 a.0 (at_is symbol.Question at v.0 a.0 a.1) refl
      ∙ past_formula 12 t n a.0 b.0 b.1
      ∙ past_inside n symbol.Colon b.0 c.0 c.1 refl
      ∙ past_formula 12 o n c.0 rest c.2

  past_formulas : (fs : Formulas) (n : ℕ) (ts rest : List Terminal) → AreFormulas fs ts rest → past (suc n) ts ≡ past (suc n) rest
  past_formulas no_formulas n ts rest w = absurd w
  past_formulas (more_formulas f fs) n ts rest w = past_formula 12 f (suc n) ts w.0 w.1 ∙ past_further fs n w.0 rest w.2

  past_further : (fs : Formulas) (n : ℕ) (ts rest : List Terminal) → AreMoreFormulas fs ts rest → past (suc n) ts ≡ past (suc n) rest
  past_further no_formulas n ts rest w = ap (past (suc n)) w
  past_further (more_formulas f fs) n ts rest w =
      let a = w.2 in
      past_comma n ts w.0 w.1 ∙ past_formula 12 f (suc n) w.0 a.0 a.1 ∙ past_further fs n a.0 rest a.2
