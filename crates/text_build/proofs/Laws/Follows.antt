-- What may follow an expression, and what an expression begins with.
use Rattle.std.proofs.Common.{◌≡◌, ℕ, ◌-◌, ◌≤◌, ◌<◌, Bool, true, false, List, ◌∷◌, length, Option, Some, None, refl, sym, ap, ◌∙◌, le-leb, leb-true, nat_le, arith}
use Rattle.rtl_tree.specs.declared.symbol.Symbol.{Symbol}
use Rattle.rtl_tree.specs.declared.symbol.Symbol.TheVariants as symbol
use Rattle.rtl_tree.specs.declared.tree.operators.BinaryOperator.{BinaryOperator}
use Rattle.rtl_tree.specs.declared.tree.operators.BinaryOperator.TheVariants as binary
use Rattle.rtl_tree.specs.declared.tree.operators.UnaryOperator.{UnaryOperator}
use Rattle.rtl_tree.specs.declared.tree.operators.UnaryOperator.TheVariants as unary
use Rattle.rtl_tree.specs.declared.tree.operators.SystemFunction.TheVariants as function
use Rattle.rtl_tree.specs.declared.tree.operators.PartKind.{PartKind}
use Rattle.rtl_tree.specs.declared.tree.operators.PartKind.TheVariants as selects
use Rattle.rtl_tree.specs.Symbols.{Terminal}
use Rattle.rtl_tree.specs.TreeExpr.{Formula, Number, Read, ReadBit, ReadPart, Parens, Apply, Concat, Repeat, Unary, Binary, Choose, Formulas, no_formulas, more_formulas}
use Rattle.text_grammar.specs.Grammar.{IsA, IsAt}
use Rattle.text_grammar.specs.GrammarExpr.{unary_symbol, binary_symbol, part_symbol, level, IsFormula, AreFormulas, AreMoreFormulas}
use Rattle.text_build.specs.Reading.{same_symbol, symbol_at, starts}
use Rattle.text_build.specs.ReadingExpr.{binary_of, unary_of, part_of, level_or, looseness, goes_by, goes}
use Rattle.text_build.proofs.Laws.Tokens.{symbol_is, starts_not, differ}

-- no operator of at most this level comes next, nor a selection
pub record Stops (k : ℕ) (ts : List Terminal) : Type 0 where
  pub ends : goes k ts ≡ false
  pub whole : starts symbol.OpenBracket ts ≡ false

-- ---- operators

pub binary_back : (op : BinaryOperator) → binary_of (binary_symbol op) ≡ Some op
unfolding binary_of
binary_back binary.Power = refl
binary_back binary.Multiply = refl
binary_back binary.Divide = refl
binary_back binary.Modulus = refl
binary_back binary.Add = refl
binary_back binary.Subtract = refl
binary_back binary.ShiftLeft = refl
binary_back binary.ShiftRight = refl
binary_back binary.ArithmeticShiftLeft = refl
binary_back binary.ArithmeticShiftRight = refl
binary_back binary.Less = refl
binary_back binary.LessOrEqual = refl
binary_back binary.Greater = refl
binary_back binary.GreaterOrEqual = refl
binary_back binary.Equal = refl
binary_back binary.NotEqual = refl
binary_back binary.CaseEqual = refl
binary_back binary.CaseNotEqual = refl
binary_back binary.BitwiseAnd = refl
binary_back binary.BitwiseXor = refl
binary_back binary.BitwiseXnor = refl
binary_back binary.BitwiseOr = refl
binary_back binary.LogicalAnd = refl
binary_back binary.LogicalOr = refl

pub loose_back : (op : BinaryOperator) → looseness (binary_symbol op) ≡ level op
unfolding looseness binary_of
loose_back binary.Power = refl
loose_back binary.Multiply = refl
loose_back binary.Divide = refl
loose_back binary.Modulus = refl
loose_back binary.Add = refl
loose_back binary.Subtract = refl
loose_back binary.ShiftLeft = refl
loose_back binary.ShiftRight = refl
loose_back binary.ArithmeticShiftLeft = refl
loose_back binary.ArithmeticShiftRight = refl
loose_back binary.Less = refl
loose_back binary.LessOrEqual = refl
loose_back binary.Greater = refl
loose_back binary.GreaterOrEqual = refl
loose_back binary.Equal = refl
loose_back binary.NotEqual = refl
loose_back binary.CaseEqual = refl
loose_back binary.CaseNotEqual = refl
loose_back binary.BitwiseAnd = refl
loose_back binary.BitwiseXor = refl
loose_back binary.BitwiseXnor = refl
loose_back binary.BitwiseOr = refl
loose_back binary.LogicalAnd = refl
loose_back binary.LogicalOr = refl

pub unary_back : (op : UnaryOperator) → unary_of (unary_symbol op) ≡ Some op
unfolding unary_of
unary_back unary.Plus = refl
unary_back unary.Minus = refl
unary_back unary.LogicalNot = refl
unary_back unary.BitwiseNot = refl
unary_back unary.ReduceAnd = refl
unary_back unary.ReduceNand = refl
unary_back unary.ReduceOr = refl
unary_back unary.ReduceNor = refl
unary_back unary.ReduceXor = refl
unary_back unary.ReduceXnor = refl

pub part_back : (k : PartKind) → part_of (part_symbol k) ≡ Some k
unfolding part_of
part_back selects.Between = refl
part_back selects.Up = refl
part_back selects.Down = refl

-- levels are from 1 to 11
pub record IsLevel (k : ℕ) : Type 0 where
  pub least : 1 ≤ k
  pub most : k ≤ 11

pub level_is : (op : BinaryOperator) → IsLevel (level op)
level_is binary.Power = record { least = omega arith; most = omega arith }
level_is binary.Multiply = record { least = omega arith; most = omega arith }
level_is binary.Divide = record { least = omega arith; most = omega arith }
level_is binary.Modulus = record { least = omega arith; most = omega arith }
level_is binary.Add = record { least = omega arith; most = omega arith }
level_is binary.Subtract = record { least = omega arith; most = omega arith }
level_is binary.ShiftLeft = record { least = omega arith; most = omega arith }
level_is binary.ShiftRight = record { least = omega arith; most = omega arith }
level_is binary.ArithmeticShiftLeft = record { least = omega arith; most = omega arith }
level_is binary.ArithmeticShiftRight = record { least = omega arith; most = omega arith }
level_is binary.Less = record { least = omega arith; most = omega arith }
level_is binary.LessOrEqual = record { least = omega arith; most = omega arith }
level_is binary.Greater = record { least = omega arith; most = omega arith }
level_is binary.GreaterOrEqual = record { least = omega arith; most = omega arith }
level_is binary.Equal = record { least = omega arith; most = omega arith }
level_is binary.NotEqual = record { least = omega arith; most = omega arith }
level_is binary.CaseEqual = record { least = omega arith; most = omega arith }
level_is binary.CaseNotEqual = record { least = omega arith; most = omega arith }
level_is binary.BitwiseAnd = record { least = omega arith; most = omega arith }
level_is binary.BitwiseXor = record { least = omega arith; most = omega arith }
level_is binary.BitwiseXnor = record { least = omega arith; most = omega arith }
level_is binary.BitwiseOr = record { least = omega arith; most = omega arith }
level_is binary.LogicalAnd = record { least = omega arith; most = omega arith }
level_is binary.LogicalOr = record { least = omega arith; most = omega arith }

-- ---- tests of levels

above_by : (l k : ℕ) → k < l → (o : Bool) → nat_le l k ≡ o → nat_le l k ≡ false
above_by l k h true e = absurd (omega (arith, h, leb-true l k e))
above_by l k h false e = e

pub above : (l k : ℕ) → k < l → nat_le l k ≡ false
above l k h = above_by l k h (nat_le l k) refl

mono_by : (l j k : ℕ) → j ≤ k → nat_le l k ≡ false → (o : Bool) → nat_le l j ≡ o → nat_le l j ≡ false
mono_by l j k h e true q = let w : true ≡ false = sym (le-leb l k (omega (arith, h, leb-true l j q))) ∙ e in absurd (cc)
mono_by l j k h e false q = q

goes_mono_by : (j k : ℕ) → j ≤ k → (o : Option Symbol) → goes_by k o ≡ false → goes_by j o ≡ false
goes_mono_by j k h None e = refl
goes_mono_by j k h (Some s) e = mono_by (looseness s) j k h e (nat_le (looseness s) j) refl

pub goes_mono : (j k : ℕ) → j ≤ k → (ts : List Terminal) → goes k ts ≡ false → goes j ts ≡ false
unfolding goes
goes_mono j k h ts e = goes_mono_by j k h (symbol_at ts) e

pub stops_mono : (j k : ℕ) → j ≤ k → (ts : List Terminal) → Stops k ts → Stops j ts
stops_mono j k h ts s = record { ends = goes_mono j k h ts s.ends; whole = s.whole }

positive : (o : Option BinaryOperator) → 1 ≤ level_or 13 o
positive None = omega arith
positive (Some op) = (level_is op).least

loose : (s : Symbol) → 1 ≤ looseness s
unfolding looseness
loose symbol.Question = omega arith
loose s = positive (binary_of s)

none_by : (o : Option Symbol) → goes_by 0 o ≡ false
none_by None = refl
none_by (Some s) = above (looseness s) 0 (omega (arith, loose s))

-- no operator has level 0
pub goes_none : (ts : List Terminal) → goes 0 ts ≡ false
unfolding goes
goes_none ts = none_by (symbol_at ts)

pub goes_at : (k : ℕ) (s : Symbol) (ts rest : List Terminal) (t : Terminal) → ts ≡ t ∷ rest → t.symbol ≡ s → goes k ts ≡ goes_by k (Some s)
unfolding goes
goes_at k s ts rest t e h = ap (goes_by k) (symbol_is s ts rest t e h)

-- ---- before an operator

abbrev is_there : Option BinaryOperator → Bool
is_there None = false
is_there (Some o) = true

abbrev is_binary : Symbol → Bool
is_binary s = is_there (binary_of s)

bracket_is_none : is_binary symbol.OpenBracket ≡ false
unfolding binary_of
bracket_is_none = refl

no_bracket : (op : BinaryOperator) → same_symbol (binary_symbol op) symbol.OpenBracket ≡ false
no_bracket op = differ is_binary (binary_symbol op) symbol.OpenBracket (ap is_there (binary_back op)) bracket_is_none

pub operator_stops : (op : BinaryOperator) (at : ℕ) (ts rest : List Terminal) → IsAt (binary_symbol op) at ts rest → Stops (level op - 1) ts
operator_stops op at ts rest w =
    record {
      ends = goes_at (level op - 1) (binary_symbol op) ts rest w.0 w.1 w.2.0 ∙ ap (λ l. nat_le l (level op - 1)) (loose_back op) ∙ above (level op) (level op - 1) (omega (arith, (level_is op).least));
      whole = starts_not symbol.OpenBracket (binary_symbol op) ts rest w.0 w.1 w.2.0 (no_bracket op);
    }

pub operator_goes : (op : BinaryOperator) (k at : ℕ) (ts rest : List Terminal) → level op ≤ k → IsAt (binary_symbol op) at ts rest → goes k ts ≡ true
operator_goes op k at ts rest h w =
    goes_at k (binary_symbol op) ts rest w.0 w.1 w.2.0 ∙ ap (λ l. nat_le l k) (loose_back op) ∙ le-leb (level op) k h

question_bracket : same_symbol symbol.Question symbol.OpenBracket ≡ false
unfolding same_symbol
question_bracket = refl

question_loose : looseness symbol.Question ≡ 12
unfolding looseness
question_loose = refl

pub question_stops : (at : ℕ) (ts rest : List Terminal) → IsAt symbol.Question at ts rest → Stops 11 ts
question_stops at ts rest w =
    record {
      ends = goes_at 11 symbol.Question ts rest w.0 w.1 w.2.0 ∙ ap (λ l. nat_le l 11) question_loose;
      whole = starts_not symbol.OpenBracket symbol.Question ts rest w.0 w.1 w.2.0 question_bracket;
    }

pub question_goes : (k at : ℕ) (ts rest : List Terminal) → 12 ≤ k → IsAt symbol.Question at ts rest → goes k ts ≡ true
question_goes k at ts rest h w = goes_at k symbol.Question ts rest w.0 w.1 w.2.0 ∙ ap (λ l. nat_le l k) question_loose ∙ le-leb 12 k h

-- ---- before another mark

-- the marks that may stand behind any expression
abbrev pub is_stop : Symbol → Bool
is_stop symbol.Comma = true
is_stop symbol.Semicolon = true
is_stop symbol.Colon = true
is_stop symbol.PlusColon = true
is_stop symbol.MinusColon = true
is_stop symbol.Or = true
is_stop symbol.CloseParen = true
is_stop symbol.CloseBracket = true
is_stop symbol.CloseBrace = true
is_stop symbol.CloseAttribute = true
is_stop symbol.OpenBrace = true
is_stop symbol.Equals = true
is_stop s = false

stop_loose : (s : Symbol) → is_stop s ≡ true → looseness s ≡ 13
unfolding looseness binary_of
stop_loose symbol.Comma h = refl
stop_loose symbol.Semicolon h = refl
stop_loose symbol.Colon h = refl
stop_loose symbol.PlusColon h = refl
stop_loose symbol.MinusColon h = refl
stop_loose symbol.Or h = refl
stop_loose symbol.CloseParen h = refl
stop_loose symbol.CloseBracket h = refl
stop_loose symbol.CloseBrace h = refl
stop_loose symbol.CloseAttribute h = refl
stop_loose symbol.OpenBrace h = refl
stop_loose symbol.Equals h = refl
stop_loose s h = absurd (cc)

pub part_stops : (k : PartKind) → is_stop (part_symbol k) ≡ true
part_stops selects.Between = refl
part_stops selects.Up = refl
part_stops selects.Down = refl

pub stop_stops : (s : Symbol) (ts rest : List Terminal) → is_stop s ≡ true → IsA s ts rest → Stops 12 ts
stop_stops s ts rest h w =
    record {
      ends = goes_at 12 s ts rest w.0 w.1 w.2 ∙ ap (λ l. nat_le l 12) (stop_loose s h);
      whole = starts_not symbol.OpenBracket s ts rest w.0 w.1 w.2 (differ is_stop s symbol.OpenBracket h refl);
    }

-- ---- how an expression begins

-- the symbols that an expression may begin with
abbrev pub is_start : Symbol → Bool
is_start symbol.Number = true
is_start symbol.Name = true
is_start symbol.OpenParen = true
is_start symbol.ToSigned = true
is_start symbol.ToUnsigned = true
is_start symbol.Clog2 = true
is_start symbol.OpenBrace = true
is_start symbol.Plus = true
is_start symbol.Minus = true
is_start symbol.Bang = true
is_start symbol.Tilde = true
is_start symbol.Ampersand = true
is_start symbol.TildeAmpersand = true
is_start symbol.Bar = true
is_start symbol.TildeBar = true
is_start symbol.Caret = true
is_start symbol.TildeCaret = true
is_start s = false

unary_starts : (op : UnaryOperator) → is_start (unary_symbol op) ≡ true
unary_starts unary.Plus = refl
unary_starts unary.Minus = refl
unary_starts unary.LogicalNot = refl
unary_starts unary.BitwiseNot = refl
unary_starts unary.ReduceAnd = refl
unary_starts unary.ReduceNand = refl
unary_starts unary.ReduceOr = refl
unary_starts unary.ReduceNor = refl
unary_starts unary.ReduceXor = refl
unary_starts unary.ReduceXnor = refl

-- the next token is one of these
pub record Opens (test : Symbol → Bool) (ts : List Terminal) : Type 0 where
  pub first : Terminal
  pub others : List Terminal
  pub is : ts ≡ first ∷ others
  pub passes : test first.symbol ≡ true

pub opens_by : (test : Symbol → Bool) (s : Symbol) (ts rest : List Terminal) (t : Terminal) → ts ≡ t ∷ rest → t.symbol ≡ s → test s ≡ true → Opens test ts
opens_by test s ts rest t e h k = record { first = t; others = rest; is = e; passes = ap test h ∙ k }

pub opens_not : (test : Symbol → Bool) (s : Symbol) (ts : List Terminal) → test s ≡ false → Opens test ts → starts s ts ≡ false
opens_not test s ts h o = starts_not s o.first.symbol ts o.others o.first o.is refl (differ test o.first.symbol s o.passes h)

pub formula_opens : (k : ℕ) (f : Formula) (ts rest : List Terminal) → IsFormula k f ts rest → Opens is_start ts
formula_opens k (Number value at) ts rest w = opens_by is_start symbol.Number ts rest w.0 w.1 w.2.0 refl
formula_opens k (Read n) ts rest w = opens_by is_start symbol.Name ts rest w.0 w.1 w.2.0 refl
formula_opens k (ReadBit n i) ts rest w = let v = w.1 in opens_by is_start symbol.Name ts w.0 v.0 v.1 v.2.0 refl
formula_opens k (ReadPart n p m l) ts rest w = let v = w.1 in opens_by is_start symbol.Name ts w.0 v.0 v.1 v.2.0 refl
formula_opens k (Parens at f) ts rest w = let v = w.1 in opens_by is_start symbol.OpenParen ts w.0 v.0 v.1 v.2.0 refl
formula_opens k (Apply function.Signed at f) ts rest w = let v = w.1 in opens_by is_start symbol.ToSigned ts w.0 v.0 v.1 v.2.0 refl
formula_opens k (Apply function.Unsigned at f) ts rest w = let v = w.1 in opens_by is_start symbol.ToUnsigned ts w.0 v.0 v.1 v.2.0 refl
formula_opens k (Apply function.Clog2 at f) ts rest w = let v = w.1 in opens_by is_start symbol.Clog2 ts w.0 v.0 v.1 v.2.0 refl
formula_opens k (Concat at parts) ts rest w = let v = w.1 in opens_by is_start symbol.OpenBrace ts w.0 v.0 v.1 v.2.0 refl
formula_opens k (Repeat at times parts) ts rest w = let v = w.1 in opens_by is_start symbol.OpenBrace ts w.0 v.0 v.1 v.2.0 refl
formula_opens k (Unary op at f) ts rest w = let v = w.1 in opens_by is_start (unary_symbol op) ts w.0 v.0 v.1 v.2.0 (unary_starts op)
formula_opens k (Binary op at l r) ts rest w = let v = w.1 in formula_opens (level op) l ts v.0 v.1
formula_opens k (Choose at c t o) ts rest w = let v = w.1 in formula_opens 11 c ts v.0 v.1

-- ---- nothing is longer after it was read

mutual
  pub formula_shorter : (k : ℕ) (f : Formula) (ts rest : List Terminal) → IsFormula k f ts rest → length rest < length ts
  formula_shorter k (Number value at) ts rest w = omega (arith, ap length w.1)
  formula_shorter k (Read n) ts rest w = omega (arith, ap length w.1)
  formula_shorter k (ReadBit n i) ts rest w =
      let a = w.2 in let b = a.2 in omega (arith, ap length w.1.1, ap length a.1.1, formula_shorter 12 i a.0 b.0 b.1, ap length b.2.1)
  formula_shorter k (ReadPart n p m l) ts rest w =
      let a = w.2 in let b = a.2 in let c = b.2 in let e = c.2 in
      omega (arith, ap length w.1.1, ap length a.1.1, formula_shorter 12 m a.0 b.0 b.1, ap length c.1.1, formula_shorter 12 l c.0 e.0 e.1, ap length e.2.1)
  formula_shorter k (Parens at f) ts rest w =
      let a = w.2 in omega (arith, ap length w.1.1, formula_shorter 12 f w.0 a.0 a.1, ap length a.2.1)
  formula_shorter k (Apply s at f) ts rest w =
      let a = w.2 in let b = a.2 in omega (arith, ap length w.1.1, ap length a.1.1, formula_shorter 12 f a.0 b.0 b.1, ap length b.2.1)
  formula_shorter k (Concat at parts) ts rest w =
      let a = w.2 in omega (arith, ap length w.1.1, formulas_shorter parts w.0 a.0 a.1, ap length a.2.1)
  formula_shorter k (Repeat at times parts) ts rest w =
      let a = w.2 in let b = a.2 in let c = b.2 in let e = c.2 in
      omega (arith, ap length w.1.1, formula_shorter 12 times w.0 a.0 a.1, ap length b.1.1, formulas_shorter parts b.0 c.0 c.1, ap length e.1.1, ap length e.2.1)
  formula_shorter k (Unary op at f) ts rest w = omega (arith, ap length w.1.1, formula_shorter 0 f w.0 rest w.2)
  formula_shorter k (Binary op at l r) ts rest w =
      let v = w.1 in let a = v.2 in omega (arith, formula_shorter (level op) l ts v.0 v.1, ap length a.1.1, formula_shorter (level op - 1) r a.0 rest a.2)
  formula_shorter k (Choose at c t o) ts rest w =
      let v = w.1 in let a = v.2 in let b = a.2 in let e = b.2 in
      omega (arith, formula_shorter 11 c ts v.0 v.1, ap length a.1.1, formula_shorter 12 t a.0 b.0 b.1, ap length e.1.1, formula_shorter 12 o e.0 rest e.2)

  pub formulas_shorter : (fs : Formulas) (ts rest : List Terminal) → AreFormulas fs ts rest → length rest < length ts
  formulas_shorter no_formulas ts rest w = absurd w
  formulas_shorter (more_formulas f fs) ts rest w = omega (arith, formula_shorter 12 f ts w.0 w.1, further_shorter fs w.0 rest w.2)

  pub further_shorter : (fs : Formulas) (ts rest : List Terminal) → AreMoreFormulas fs ts rest → length rest ≤ length ts
  further_shorter no_formulas ts rest w = omega (arith, ap length w)
  further_shorter (more_formulas f fs) ts rest w =
      let a = w.2 in omega (arith, ap length w.1.1, formula_shorter 12 f w.0 a.0 a.1, further_shorter fs a.0 rest a.2)
