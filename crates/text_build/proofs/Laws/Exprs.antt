-- What is spelled is read: expressions.
use Rattle.std.proofs.Common.{◌≡◌, ℕ, suc, ◌≤◌, true, false, List, [], ◌∷◌, length, Option, Some, refl, sym, ap, subst, ◌∙◌, max, arith}
use Rattle.rtl_tree.specs.declared.symbol.Symbol.{Symbol}
use Rattle.rtl_tree.specs.declared.symbol.Symbol.TheVariants as symbol
use Rattle.rtl_tree.specs.declared.tree.operators.UnaryOperator.{UnaryOperator}
use Rattle.rtl_tree.specs.declared.tree.operators.UnaryOperator.TheVariants as unary
use Rattle.rtl_tree.specs.declared.tree.operators.SystemFunction.{SystemFunction}
use Rattle.rtl_tree.specs.declared.tree.operators.SystemFunction.TheVariants as function
use Rattle.rtl_tree.specs.declared.tree.operators.PartKind.{PartKind}
use Rattle.rtl_tree.specs.declared.literal.Literal.{Literal}
use Rattle.rtl_tree.specs.Symbols.{Terminal}
use Rattle.rtl_tree.specs.TreeExpr.{Identifier, Formula, Number, Read, ReadBit, ReadPart, Parens, Apply, Concat, Repeat, Unary, Binary, Choose, Formulas, no_formulas, more_formulas, formula_row, formula_list}
use Rattle.text_grammar.specs.Depth.{greatest, formula_depth, formulas_depth}
use Rattle.text_grammar.specs.Grammar.{◌⨾◌, IsA, IsAt, IsName, IsNumberAt}
use Rattle.text_grammar.specs.GrammarExpr.{unary_symbol, part_symbol, function_symbol, IsFormula, AreFormulas, AreMoreFormulas}
use Rattle.text_build.specs.Reading.{Parser, and_then, ◌>>=◌, ◌>>◌, pure, same_symbol, starts, add, listed, commas, place, advance, mark, name, literal, either}
use Rattle.text_build.specs.ReadingExpr.{unary_of, Reference, whole, bit, part, part_of, part_by, rest_of_bit, rest_of_part, rest_by, rest_of_selection, selection, selected, reference, read_of, number, read, parens, application, replication, more_listed, concatenation, braces, operation, prefix_by, operand_by, operand}
use Rattle.text_build.proofs.Laws.Tokens.{at_is, name_is, advance_at, name_again, literal_again, place_again, symbol_is, starts_is, starts_not, after_not, mark_then, advance_then, bind, either_first, either_second}
use Rattle.text_build.proofs.Laws.Repeats.{Again, Furthers, CommaEnds, commas_again, listed_from}
use Rattle.text_build.proofs.Laws.Follows.{Stops, part_back, part_stops, unary_back, goes_none, is_stop, stop_stops, formula_shorter}

-- what is spelled on a level is read there, nested at most `d` deep, where it doesn't go on
abbrev pub Complete : ℕ → (ℕ → Parser Formula) → Type 0
Complete d e = (k : ℕ) (f : Formula) (ts rest : List Terminal) → IsFormula k f ts rest → formula_depth f ≤ d → Stops k rest → e k ts ≡ Some (f, rest)

-- any expression
abbrev pub Entire : ℕ → Parser Formula → Type 0
Entire d e = Again formula_depth d e (IsFormula 12) (Stops 12)

pub whole_of : (d : ℕ) (e : ℕ → Parser Formula) → Complete d e → Entire d (e 12)
whole_of d e c f ts rest w h s = c 12 f ts rest w h s

-- an expression before a mark, and what follows it
pub before : {A : Type 0} (d : ℕ) (e : Parser Formula) → Entire d e → (s : Symbol) (g : Formula → Parser A) (f : Formula) (ts mid rest : List Terminal) → IsFormula 12 f ts mid → formula_depth f ≤ d
    → is_stop s ≡ true → IsA s mid rest → and_then (e ts) g ≡ g f mid
before d e c s g f ts mid rest w h k m = bind (e ts) g f mid (c f ts mid w h (stop_stops s mid rest k m))

-- ---- names with a selection

module _ (d : ℕ) (e : Parser Formula) (c : Entire d e) where
  bit_again : (n : Identifier) (i : Formula) (ts rest : List Terminal) → (IsA symbol.OpenBracket ⨾ IsFormula 12 i ⨾ IsA symbol.CloseBracket) ts rest → formula_depth i ≤ d
      → selection e n ts ≡ Some (bit n i, rest)
  unfolding selection rest_of_selection rest_of_bit part_of
  bit_again n i ts rest w h =
      let a = w.2 in
      ap (λ o. and_then o (rest_of_selection e n)) (mark_then symbol.OpenBracket e ts w.0 w.1)
      ∙ before d e c symbol.CloseBracket (rest_of_selection e n) i w.0 a.0 rest a.1 h refl a.2
      ∙ ap (λ o. rest_by (part_by o) e n i a.0) (symbol_is symbol.CloseBracket a.0 rest a.2.0 a.2.1 a.2.2)
      ∙ mark_then symbol.CloseBracket (pure (bit n i)) a.0 rest a.2

  part_again : (n : Identifier) (j : PartKind) (m l : Formula) (ts rest : List Terminal) → (IsA symbol.OpenBracket ⨾ IsFormula 12 m ⨾ IsA (part_symbol j) ⨾ IsFormula 12 l ⨾ IsA symbol.CloseBracket) ts rest
      → formula_depth m ≤ d → formula_depth l ≤ d → selection e n ts ≡ Some (part n j m l, rest)
  unfolding selection rest_of_selection rest_of_part
  part_again n j m l ts rest w h k =
      let a = w.2 in
      let b = a.2 in
      let f = b.2 in
      ap (λ o. and_then o (rest_of_selection e n)) (mark_then symbol.OpenBracket e ts w.0 w.1)
      ∙ before d e c (part_symbol j) (rest_of_selection e n) m w.0 a.0 b.0 a.1 h (part_stops j) b.1
      ∙ ap (λ o. rest_by (part_by o) e n m a.0) (symbol_is (part_symbol j) a.0 b.0 b.1.0 b.1.1 b.1.2)
      ∙ ap (λ o. rest_by o e n m a.0) (part_back j)
      ∙ ap (λ o. and_then o (λ x. mark symbol.CloseBracket >> pure (part n j m x))) (mark_then (part_symbol j) e a.0 b.0 b.1)
      ∙ before d e c symbol.CloseBracket (λ x. mark symbol.CloseBracket >> pure (part n j m x)) l b.0 f.0 rest f.1 k refl f.2
      ∙ mark_then symbol.CloseBracket (pure (part n j m l)) f.0 rest f.2

  pub whole_read : (n : Identifier) (ts rest : List Terminal) → IsName n ts rest → starts symbol.OpenBracket rest ≡ false → reference e ts ≡ Some (whole n, rest)
  unfolding reference selected
  whole_read n ts rest w s = bind (name ts) (selected e) n rest (name_again n ts rest w) ∙ either_second (starts symbol.OpenBracket) (selection e n) (pure (whole n)) rest s

  pub bit_read : (n : Identifier) (i : Formula) (ts rest : List Terminal) → (IsName n ⨾ IsA symbol.OpenBracket ⨾ IsFormula 12 i ⨾ IsA symbol.CloseBracket) ts rest → formula_depth i ≤ d
      → reference e ts ≡ Some (bit n i, rest)
  unfolding reference selected
  bit_read n i ts rest w h =
      let a = w.2 in
      bind (name ts) (selected e) n w.0 (name_again n ts w.0 w.1)
      ∙ either_first (starts symbol.OpenBracket) (selection e n) (pure (whole n)) w.0 (starts_is symbol.OpenBracket w.0 a.0 a.1.0 a.1.1 a.1.2)
      ∙ bit_again n i w.0 rest w.2 h

  pub part_read : (n : Identifier) (j : PartKind) (m l : Formula) (ts rest : List Terminal) → (IsName n ⨾ IsA symbol.OpenBracket ⨾ IsFormula 12 m ⨾ IsA (part_symbol j) ⨾ IsFormula 12 l ⨾ IsA symbol.CloseBracket) ts rest
      → formula_depth m ≤ d → formula_depth l ≤ d → reference e ts ≡ Some (part n j m l, rest)
  unfolding reference selected
  part_read n j m l ts rest w h k =
      let a = w.2 in
      bind (name ts) (selected e) n w.0 (name_again n ts w.0 w.1)
      ∙ either_first (starts symbol.OpenBracket) (selection e n) (pure (whole n)) w.0 (starts_is symbol.OpenBracket w.0 a.0 a.1.0 a.1.1 a.1.2)
      ∙ part_again n j m l w.0 rest w.2 h k

  -- ---- operands

  parens_again : (at : ℕ) (f : Formula) (ts rest : List Terminal) → (IsAt symbol.OpenParen at ⨾ IsFormula 12 f ⨾ IsA symbol.CloseParen) ts rest → formula_depth f ≤ d
      → parens e ts ≡ Some (Parens at f, rest)
  unfolding parens
  parens_again at f ts rest w h =
      let a = w.2 in
      bind (advance ts) (λ p. e >>= (λ inner. mark symbol.CloseParen >> pure (Parens p inner))) at w.0 (advance_at symbol.OpenParen at ts w.0 w.1)
      ∙ before d e c symbol.CloseParen (λ inner. mark symbol.CloseParen >> pure (Parens at inner)) f w.0 a.0 rest a.1 h refl a.2
      ∙ mark_then symbol.CloseParen (pure (Parens at f)) a.0 rest a.2

  application_again : (s : SystemFunction) (at : ℕ) (f : Formula) (ts rest : List Terminal) → (IsAt (function_symbol s) at ⨾ IsA symbol.OpenParen ⨾ IsFormula 12 f ⨾ IsA symbol.CloseParen) ts rest
      → formula_depth f ≤ d → application s e ts ≡ Some (Apply s at f, rest)
  unfolding application
  application_again s at f ts rest w h =
      let a = w.2 in
      let b = a.2 in
      bind (advance ts) (λ p. mark symbol.OpenParen >> e >>= (λ inner. mark symbol.CloseParen >> pure (Apply s p inner))) at w.0 (advance_at (function_symbol s) at ts w.0 w.1)
      ∙ ap (λ o. and_then o (λ inner. mark symbol.CloseParen >> pure (Apply s at inner))) (mark_then symbol.OpenParen e w.0 a.0 a.1)
      ∙ before d e c symbol.CloseParen (λ inner. mark symbol.CloseParen >> pure (Apply s at inner)) f a.0 b.0 rest b.1 h refl b.2
      ∙ mark_then symbol.CloseParen (pure (Apply s at f)) b.0 rest b.2

-- ---- rows of expressions

pub row_back : (fs : Formulas) → formula_row (formula_list fs) ≡ fs
row_back no_formulas = refl
row_back (more_formulas f fs) = ap (more_formulas f) (row_back fs)

pub row_depth : (fs : Formulas) → greatest formula_depth (formula_list fs) ≡ formulas_depth fs
row_depth no_formulas = refl
row_depth (more_formulas f fs) = ap (max (formula_depth f)) (row_depth fs)

abbrev More : List Formula → List Terminal → List Terminal → Type 0
More fs = AreMoreFormulas (formula_row fs)

more_of : Furthers (IsFormula 12) (IsA symbol.Comma) More
more_of = record { at_end = λ ts rest w. w; goes_on = λ x xs ts rest w. w }

comma_stops : (ts mid : List Terminal) → IsA symbol.Comma ts mid → Stops 12 ts
comma_stops ts mid w = stop_stops symbol.Comma ts mid refl w

-- a list of expressions ends before such a mark
pub stop_ends : (s : Symbol) (ts rest : List Terminal) → is_stop s ≡ true → same_symbol s symbol.Comma ≡ false → IsA s ts rest → CommaEnds (Stops 12) ts
stop_ends s ts rest h k w =
    let q = starts_not symbol.Comma s ts rest w.0 w.1 w.2 k in
    record { follows = stop_stops s ts rest h w; stops = q; leaves = after_not symbol.Comma ts q; some = omega (arith, ap length w.1) }

module _ (d : ℕ) (e : Parser Formula) (c : Entire d e) where
  pub formulas_again : (f : Formula) (fs : Formulas) (ts rest : List Terminal) → AreFormulas (more_formulas f fs) ts rest → formulas_depth (more_formulas f fs) ≤ d → CommaEnds (Stops 12) rest
      → listed e ts ≡ Some (f ∷ formula_list fs, rest)
  formulas_again f fs ts rest w h k =
      listed_from (IsFormula 12) More (Stops 12) formula_depth d e c (λ x us vs m. omega (arith, formula_shorter 12 x us vs m)) comma_stops more_of f (formula_list fs) ts w.0 rest w.1
      (subst (λ x. AreMoreFormulas x w.0 rest) (sym (row_back fs)) w.2) (omega (arith, h, row_depth fs)) k

  replication_again : (at : ℕ) (times : Formula) (parts : Formulas) (ts rest : List Terminal) → (IsA symbol.OpenBrace ⨾ AreFormulas parts ⨾ IsA symbol.CloseBrace ⨾ IsA symbol.CloseBrace) ts rest
      → formulas_depth parts ≤ d → replication e at times ts ≡ Some (Repeat at times parts, rest)
  unfolding replication same_symbol
  replication_again at times no_formulas ts rest w h = absurd w.2.1
  replication_again at times (more_formulas f fs) ts rest w h =
      let a = w.2 in
      let b = a.2 in
      let g = λ (parts : List Formula). mark symbol.CloseBrace >> mark symbol.CloseBrace >> pure (Repeat at times (formula_row parts)) in
      ap (λ o. and_then o g) (advance_then symbol.OpenBrace (listed e) ts w.0 w.1 ∙ formulas_again f fs w.0 a.0 a.1 h (stop_ends symbol.CloseBrace a.0 b.0 refl refl b.1))
      ∙ ap (λ o. and_then o (λ _. pure (Repeat at times (more_formulas f (formula_row (formula_list fs)))))) (mark_then symbol.CloseBrace (mark symbol.CloseBrace) a.0 b.0 b.1)
      ∙ mark_then symbol.CloseBrace (pure (Repeat at times (more_formulas f (formula_row (formula_list fs))))) b.0 rest b.2
      ∙ ap (λ x. Some (Repeat at times (more_formulas f x), rest)) (row_back fs)

  more_listed_again : (f : Formula) (fs : Formulas) (ts mid rest : List Terminal) → AreMoreFormulas fs ts mid → IsA symbol.CloseBrace mid rest → formulas_depth fs ≤ d
      → more_listed e f ts ≡ Some (f ∷ formula_list fs, mid)
  unfolding more_listed same_symbol
  more_listed_again f no_formulas ts mid rest w m h =
      either_second (starts symbol.Comma) (advance >> commas (add e) (f ∷ [])) (pure (f ∷ [])) ts
      (ap (starts symbol.Comma) w ∙ starts_not symbol.Comma symbol.CloseBrace mid rest m.0 m.1 m.2 refl)
      ∙ ap (λ x. Some (f ∷ [], x)) w
  more_listed_again f (more_formulas g fs) ts mid rest w m h =
      let a = w.2 in
      either_first (starts symbol.Comma) (advance >> commas (add e) (f ∷ [])) (pure (f ∷ [])) ts (starts_is symbol.Comma ts w.0 w.1.0 w.1.1 w.1.2)
      ∙ advance_then symbol.Comma (commas (add e) (f ∷ [])) ts w.0 w.1
      ∙ commas_again (IsFormula 12) More (Stops 12) formula_depth d e c (λ x us vs q. omega (arith, formula_shorter 12 x us vs q)) comma_stops more_of (f ∷ []) g (formula_list fs) w.0 a.0 mid a.1
      (subst (λ x. AreMoreFormulas x a.0 mid) (sym (row_back fs)) a.2) (omega (arith, h, row_depth fs)) (stop_ends symbol.CloseBrace mid rest refl refl m)

  concatenation_again : (at : ℕ) (f : Formula) (fs : Formulas) (ts rest : List Terminal) → (AreMoreFormulas fs ⨾ IsA symbol.CloseBrace) ts rest → formulas_depth fs ≤ d
      → concatenation e at f ts ≡ Some (Concat at (more_formulas f fs), rest)
  unfolding concatenation
  concatenation_again at f fs ts rest w h =
      bind (more_listed e f ts) (λ parts. mark symbol.CloseBrace >> pure (Concat at (formula_row parts))) (f ∷ formula_list fs) w.0 (more_listed_again f fs ts w.0 rest w.1 w.2 h)
      ∙ mark_then symbol.CloseBrace (pure (Concat at (more_formulas f (formula_row (formula_list fs))))) w.0 rest w.2
      ∙ ap (λ x. Some (Concat at (more_formulas f x), rest)) (row_back fs)

  -- what comes after the first in braches of a concatenation
  no_brace : (fs : Formulas) (ts rest : List Terminal) → (AreMoreFormulas fs ⨾ IsA symbol.CloseBrace) ts rest → starts symbol.OpenBrace ts ≡ false
  unfolding same_symbol
  no_brace no_formulas ts rest w = ap (starts symbol.OpenBrace) w.1 ∙ starts_not symbol.OpenBrace symbol.CloseBrace w.0 rest w.2.0 w.2.1 w.2.2 refl
  no_brace (more_formulas f fs) ts rest w = let a = w.1 in starts_not symbol.OpenBrace symbol.Comma ts a.0 a.1.0 a.1.1 a.1.2 refl

  row_stops : (fs : Formulas) (ts rest : List Terminal) → (AreMoreFormulas fs ⨾ IsA symbol.CloseBrace) ts rest → Stops 12 ts
  row_stops no_formulas ts rest w = subst (Stops 12) (sym w.1) (stop_stops symbol.CloseBrace w.0 rest refl w.2)
  row_stops (more_formulas f fs) ts rest w = let a = w.1 in stop_stops symbol.Comma ts a.0 refl a.1

  concat_again : (at : ℕ) (parts : Formulas) (ts rest : List Terminal) → (IsAt symbol.OpenBrace at ⨾ AreFormulas parts ⨾ IsA symbol.CloseBrace) ts rest → formulas_depth parts ≤ d
      → braces e ts ≡ Some (Concat at parts, rest)
  unfolding braces
  concat_again at no_formulas ts rest w h = absurd w.2.1
  concat_again at (more_formulas f fs) ts rest w h =
      let a = w.2 in
      let b = a.1 in
      let m : (AreMoreFormulas fs ⨾ IsA symbol.CloseBrace) b.0 rest = (a.0, b.2, a.2) in
      bind (advance ts) (λ p. e >>= (λ first. either (starts symbol.OpenBrace) (replication e p first) (concatenation e p first))) at w.0 (advance_at symbol.OpenBrace at ts w.0 w.1)
      ∙ bind (e w.0) (λ first. either (starts symbol.OpenBrace) (replication e at first) (concatenation e at first)) f b.0 (c f w.0 b.0 b.1 (omega (arith, h)) (row_stops fs b.0 rest m))
      ∙ either_second (starts symbol.OpenBrace) (replication e at f) (concatenation e at f) b.0 (no_brace fs b.0 rest m)
      ∙ concatenation_again at f fs b.0 rest m (omega (arith, h))

  repeat_again : (at : ℕ) (times : Formula) (parts : Formulas) (ts rest : List Terminal)
      → (IsAt symbol.OpenBrace at ⨾ IsFormula 12 times ⨾ IsA symbol.OpenBrace ⨾ AreFormulas parts ⨾ IsA symbol.CloseBrace ⨾ IsA symbol.CloseBrace) ts rest → formula_depth times ≤ d → formulas_depth parts ≤ d
      → braces e ts ≡ Some (Repeat at times parts, rest)
  unfolding braces
  repeat_again at times parts ts rest w h k =
      let a = w.2 in
      let b = a.2 in
      bind (advance ts) (λ p. e >>= (λ first. either (starts symbol.OpenBrace) (replication e p first) (concatenation e p first))) at w.0 (advance_at symbol.OpenBrace at ts w.0 w.1)
      ∙ before d e c symbol.OpenBrace (λ first. either (starts symbol.OpenBrace) (replication e at first) (concatenation e at first)) times w.0 a.0 b.0 a.1 h refl b.1
      ∙ either_first (starts symbol.OpenBrace) (replication e at times) (concatenation e at times) a.0 (starts_is symbol.OpenBrace a.0 b.0 b.1.0 b.1.1 b.1.2)
      ∙ replication_again at times parts a.0 rest a.2 k

number_again : (value : Literal) (at : ℕ) (ts rest : List Terminal) → IsNumberAt value at ts rest → number ts ≡ Some (Number value at, rest)
unfolding number
number_again value at ts rest w =
    bind (place ts) (λ p. literal >>= (λ v. pure (Number v p))) w.0.at ts (place_again ts rest w.0 w.1)
    ∙ bind (literal ts) (λ v. pure (Number v w.0.at)) value rest (literal_again value ts rest (w.0, w.1, (w.2.0, w.2.1)))
    ∙ ap (λ p. Some (Number value p, rest)) w.2.2

read_again : (d : ℕ) (e : Parser Formula) (r : Reference) (ts rest : List Terminal) → reference e ts ≡ Some (r, rest) → read e ts ≡ Some (read_of r, rest)
unfolding read
read_again d e r ts rest h = bind (reference e ts) (λ x. pure (read_of x)) r rest h

operation_again : (d : ℕ) (e : ℕ → Parser Formula) → Complete d e → (op : UnaryOperator) (at : ℕ) (f : Formula) (ts rest : List Terminal) → (IsAt (unary_symbol op) at ⨾ IsFormula 0 f) ts rest → formula_depth f ≤ d
    → starts symbol.OpenBracket rest ≡ false → operation op (e 0) ts ≡ Some (Unary op at f, rest)
unfolding operation
operation_again d e c op at f ts rest w h s =
    bind (advance ts) (λ p. e 0 >>= (λ x. pure (Unary op p x))) at w.0 (advance_at (unary_symbol op) at ts w.0 w.1)
    ∙ bind (e 0 w.0) (λ x. pure (Unary op at x)) f rest (c 0 f w.0 rest w.2 h (record { ends = goes_none rest; whole = s }))

-- the operand of an operator before it
prefix_again : (e : ℕ → Parser Formula) (op : UnaryOperator) (o : Option UnaryOperator) (ts : List Terminal) → o ≡ Some op → prefix_by o (e 0) ts ≡ operation op (e 0) ts
prefix_again e op o ts h = ap (λ x. prefix_by x (e 0) ts) h

unary_by : (e : ℕ → Parser Formula) (op : UnaryOperator) (ts : List Terminal) → operand_by (Some (unary_symbol op)) e ts ≡ prefix_by (unary_of (unary_symbol op)) (e 0) ts
unary_by e unary.Plus ts = refl
unary_by e unary.Minus ts = refl
unary_by e unary.LogicalNot ts = refl
unary_by e unary.BitwiseNot ts = refl
unary_by e unary.ReduceAnd ts = refl
unary_by e unary.ReduceNand ts = refl
unary_by e unary.ReduceOr ts = refl
unary_by e unary.ReduceNor ts = refl
unary_by e unary.ReduceXor ts = refl
unary_by e unary.ReduceXnor ts = refl

function_by : (e : ℕ → Parser Formula) (f : SystemFunction) (ts : List Terminal) → operand_by (Some (function_symbol f)) e ts ≡ application f (e 12) ts
function_by e function.Signed ts = refl
function_by e function.Unsigned ts = refl
function_by e function.Clog2 ts = refl

-- what isn't joined by an operator
abbrev pub IsOperand : Formula → Type 0
IsOperand (Binary op at l r) = ⊥
IsOperand (Choose at c t o) = ⊥
IsOperand f = Unit {0}

operand_from : (e : ℕ → Parser Formula) (s : Symbol) (ts rest : List Terminal) → IsA s ts rest → operand e ts ≡ operand_by (Some s) e ts
unfolding operand
operand_from e s ts rest w = ap (λ o. operand_by o e ts) (symbol_is s ts rest w.0 w.1 w.2)

pub operand_again : (d : ℕ) (e : ℕ → Parser Formula) → Complete d e → (k : ℕ) (f : Formula) (ts rest : List Terminal) → IsOperand f → IsFormula k f ts rest → formula_depth f ≤ suc d
    → starts symbol.OpenBracket rest ≡ false → operand e ts ≡ Some (f, rest)
operand_again d e c k (Number value at) ts rest i w h s = operand_from e symbol.Number ts rest (w.0, w.1, w.2.0) ∙ number_again value at ts rest w
operand_again d e c k (Read n) ts rest i w h s =
    operand_from e symbol.Name ts rest (name_is n ts rest w) ∙ read_again d (e 12) (whole n) ts rest (whole_read d (e 12) (whole_of d e c) n ts rest w s)
operand_again d e c k (ReadBit n x) ts rest i w h s =
    operand_from e symbol.Name ts w.0 (name_is n ts w.0 w.1) ∙ read_again d (e 12) (bit n x) ts rest (bit_read d (e 12) (whole_of d e c) n x ts rest w (omega (arith, h)))
operand_again d e c k (ReadPart n j m l) ts rest i w h s =
    operand_from e symbol.Name ts w.0 (name_is n ts w.0 w.1)
    ∙ read_again d (e 12) (part n j m l) ts rest (part_read d (e 12) (whole_of d e c) n j m l ts rest w (omega (arith, h)) (omega (arith, h)))
operand_again d e c k (Parens at f) ts rest i w h s =
    operand_from e symbol.OpenParen ts w.0 (at_is symbol.OpenParen at ts w.0 w.1) ∙ parens_again d (e 12) (whole_of d e c) at f ts rest w (omega (arith, h))
operand_again d e c k (Apply g at f) ts rest i w h s =
    operand_from e (function_symbol g) ts w.0 (at_is (function_symbol g) at ts w.0 w.1) ∙ function_by e g ts ∙ application_again d (e 12) (whole_of d e c) g at f ts rest w (omega (arith, h))
operand_again d e c k (Concat at parts) ts rest i w h s =
    operand_from e symbol.OpenBrace ts w.0 (at_is symbol.OpenBrace at ts w.0 w.1) ∙ concat_again d (e 12) (whole_of d e c) at parts ts rest w (omega (arith, h))
operand_again d e c k (Repeat at times parts) ts rest i w h s =
    operand_from e symbol.OpenBrace ts w.0 (at_is symbol.OpenBrace at ts w.0 w.1)
    ∙ repeat_again d (e 12) (whole_of d e c) at times parts ts rest w (omega (arith, h)) (omega (arith, h))
operand_again d e c k (Unary op at f) ts rest i w h s =
    operand_from e (unary_symbol op) ts w.0 (at_is (unary_symbol op) at ts w.0 w.1)
    ∙ unary_by e op ts
    ∙ prefix_again e op (unary_of (unary_symbol op)) ts (unary_back op)
    ∙ operation_again d e c op at f ts rest w (omega (arith, h)) s
operand_again d e c k (Binary op at l r) ts rest i w h s = absurd i
operand_again d e c k (Choose at q t o) ts rest i w h s = absurd i
