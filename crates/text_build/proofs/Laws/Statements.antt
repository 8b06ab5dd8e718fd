-- What is spelled is read: statements; an `else` belongs to the nearest `if`.
use Rattle.std.proofs.Common.{◌≡◌, ℕ, ◌≤◌, Bool, true, false, List, Option, Some, refl, sym, ap, ◌∙◌}
use Rattle.rtl_tree.specs.declared.symbol.Symbol.{Symbol}
use Rattle.rtl_tree.specs.declared.symbol.Symbol.TheVariants as symbol
use Rattle.rtl_tree.specs.declared.tree.stmt.AssignmentKind.{AssignmentKind}
use Rattle.rtl_tree.specs.declared.tree.stmt.AssignmentKind.TheVariants as assignment
use Rattle.rtl_tree.specs.Symbols.{Terminal}
use Rattle.rtl_tree.specs.TreeExpr.{Formula}
use Rattle.rtl_tree.specs.TreeStmt.{Target, Pause, Action, Null, Delayed, Assign, If, IfElse}
use Rattle.text_grammar.specs.Depth.{formula_depth, target_depth, pause_depth, if_any, action_depth}
use Rattle.text_grammar.specs.Grammar.{◌⨾◌, IsA, IsAt, IsOptional}
use Rattle.text_grammar.specs.GrammarExpr.{IsExpression}
use Rattle.text_grammar.specs.GrammarStmt.{IsTarget, IsPause, assignment_symbol, ends_open, IsStatement}
use Rattle.text_build.specs.Reading.{Parser, and_then, ◌>>=◌, ◌>>◌, pure, same_symbol, starts, advance, mark, either, optional}
use Rattle.text_build.specs.ReadingStmt.{null, delayed, kind_by, assignment_kind, assign, alternative, conditional, pause}
use Rattle.text_build.proofs.Laws.Tokens.{mark_then, advance_at, advance_then, starts_is, starts_not, symbol_is, bind, either_first, either_second}
use Rattle.text_build.proofs.Laws.Repeats.{Again}
use Rattle.text_build.proofs.Laws.Follows.{is_start, opens_not, formula_opens}
use Rattle.text_build.proofs.Laws.Exprs.{Entire, before}
use Rattle.text_build.proofs.Laws.Targets.{IsWhole, optional_pause, pause_again}

-- an `else` that comes next belongs to no `if` that the statement ends in
abbrev pub Closed : Action → List Terminal → Type 0
Closed a rest = starts symbol.Else rest ≡ true → ends_open a ≡ false

-- no `else` comes next
abbrev pub NoElse : List Terminal → Type 0
NoElse ts = starts symbol.Else ts ≡ false

-- statements within, nested at most `d` deep
abbrev pub Within : ℕ → Parser Action → Type 0
Within d s = (a : Action) (ts rest : List Terminal) → IsStatement a ts rest → action_depth a ≤ d → Closed a rest → s ts ≡ Some (a, rest)

pub closed : (a : Action) (rest : List Terminal) → NoElse rest → Closed a rest
closed a rest h e = let w : true ≡ false = sym e ∙ h in absurd (cc)

pub open_is : (o : Bool) → (o ≡ true → true ≡ false) → o ≡ false
open_is true h = h refl
open_is false h = refl

pub no_else_is : (other : Symbol) (ts rest : List Terminal) → IsA other ts rest → same_symbol other symbol.Else ≡ false → NoElse ts
no_else_is other ts rest w h = starts_not symbol.Else other ts rest w.0 w.1 w.2 h

-- ---- assignments

kind_again : (k : AssignmentKind) (ts rest : List Terminal) → IsA (assignment_symbol k) ts rest → assignment_kind ts ≡ Some (k, rest)
unfolding assignment_kind
kind_again assignment.Blocking ts rest w =
    ap (λ o. kind_by o ts) (symbol_is symbol.Equals ts rest w.0 w.1 w.2) ∙ advance_then symbol.Equals (pure assignment.Blocking) ts rest w
kind_again assignment.Nonblocking ts rest w =
    ap (λ o. kind_by o ts) (symbol_is symbol.LessEquals ts rest w.0 w.1 w.2) ∙ advance_then symbol.LessEquals (pure assignment.Nonblocking) ts rest w

kind_whole : (k : AssignmentKind) (ts rest : List Terminal) → IsA (assignment_symbol k) ts rest → IsWhole ts
unfolding same_symbol
kind_whole assignment.Blocking ts rest w = starts_not symbol.OpenBracket symbol.Equals ts rest w.0 w.1 w.2 refl
kind_whole assignment.Nonblocking ts rest w = starts_not symbol.OpenBracket symbol.LessEquals ts rest w.0 w.1 w.2 refl

module _ (d : ℕ) (e : Parser Formula) (c : Entire d e) (t : Parser Target) (g : Again target_depth d t IsTarget IsWhole) (s : Parser Action) (i : Within d s) where
  pub assign_again : (to : Target) (k : AssignmentKind) (p : Option Pause) (value : Formula) (ts rest : List Terminal)
      → (IsTarget to ⨾ IsA (assignment_symbol k) ⨾ IsOptional IsPause p ⨾ IsExpression value ⨾ IsA symbol.Semicolon) ts rest → target_depth to ≤ d → if_any pause_depth p ≤ d → formula_depth value ≤ d
      → assign e t ts ≡ Some (Assign to k p value, rest)
  unfolding assign
  assign_again to k p value ts rest w h m q =
      let a = w.2 in
      let b = a.2 in
      let f = b.2 in
      bind (t ts) (λ x. assignment_kind >>= (λ k. optional symbol.Hash (pause e) >>= (λ p. e >>= (λ value. mark symbol.Semicolon >> pure (Assign x k p value))))) to w.0 (g to ts w.0 w.1 h (kind_whole k w.0 a.0 a.1))
      ∙ bind (assignment_kind w.0) (λ k. optional symbol.Hash (pause e) >>= (λ p. e >>= (λ value. mark symbol.Semicolon >> pure (Assign to k p value)))) k a.0 (kind_again k w.0 a.0 a.1)
      ∙ bind (optional symbol.Hash (pause e) a.0) (λ p. e >>= (λ value. mark symbol.Semicolon >> pure (Assign to k p value))) p b.0
      (optional_pause d e c p a.0 b.0 b.1 m (opens_not is_start symbol.Hash b.0 refl (formula_opens 12 value b.0 f.0 f.1)))
      ∙ before d e c symbol.Semicolon (λ value. mark symbol.Semicolon >> pure (Assign to k p value)) value b.0 f.0 rest f.1 q refl f.2
      ∙ mark_then symbol.Semicolon (pure (Assign to k p value)) f.0 rest f.2

  pub null_again : (at : ℕ) (ts rest : List Terminal) → IsAt symbol.Semicolon at ts rest → null ts ≡ Some (Null at, rest)
  unfolding null
  null_again at ts rest w = bind (advance ts) (λ p. pure (Null p)) at rest (advance_at symbol.Semicolon at ts rest w)

  pub delayed_again : (p : Pause) (body : Action) (ts rest : List Terminal) → (IsPause p ⨾ IsStatement body) ts rest → pause_depth p ≤ d → action_depth body ≤ d → Closed body rest
      → delayed e s ts ≡ Some (Delayed p body, rest)
  unfolding delayed
  delayed_again p body ts rest w h k o =
      bind (pause e ts) (λ p. s >>= (λ body. pure (Delayed p body))) p w.0 (pause_again d e c p ts w.0 w.1 h)
      ∙ bind (s w.0) (λ body. pure (Delayed p body)) body rest (i body w.0 rest w.2 k o)

  -- ---- conditions

  abbrev after_taken : ℕ → Formula → Action → Parser Action
  after_taken at x a = either (starts symbol.Else) (alternative s at x a) (pure (If at x a))

  -- up to the branch that is taken
  taken_again : (at : ℕ) (x : Formula) (a : Action) (ts rest : List Terminal) → (IsAt symbol.If at ⨾ IsA symbol.OpenParen ⨾ IsExpression x ⨾ IsA symbol.CloseParen ⨾ IsStatement a) ts rest
      → formula_depth x ≤ d → action_depth a ≤ d → Closed a rest → conditional e s ts ≡ after_taken at x a rest
  unfolding conditional
  taken_again at x a ts rest w h k o =
      let b = w.2 in
      let f = b.2 in
      let j = f.2 in
      bind (advance ts) (λ p. mark symbol.OpenParen >> e >>= (λ y. mark symbol.CloseParen >> s >>= (λ z. after_taken p y z))) at w.0 (advance_at symbol.If at ts w.0 w.1)
      ∙ ap (λ o. and_then o (λ y. mark symbol.CloseParen >> s >>= (λ z. after_taken at y z))) (mark_then symbol.OpenParen e w.0 b.0 b.1)
      ∙ before d e c symbol.CloseParen (λ y. mark symbol.CloseParen >> s >>= (λ z. after_taken at y z)) x b.0 f.0 j.0 f.1 h refl j.1
      ∙ ap (λ o. and_then o (λ z. after_taken at x z)) (mark_then symbol.CloseParen s f.0 j.0 j.1)
      ∙ bind (s j.0) (λ z. after_taken at x z) a rest (i a j.0 rest j.2 k o)

  pub if_again : (at : ℕ) (x : Formula) (a : Action) (ts rest : List Terminal) → (IsAt symbol.If at ⨾ IsA symbol.OpenParen ⨾ IsExpression x ⨾ IsA symbol.CloseParen ⨾ IsStatement a) ts rest
      → formula_depth x ≤ d → action_depth a ≤ d → Closed (If at x a) rest → conditional e s ts ≡ Some (If at x a, rest)
  if_again at x a ts rest w h k o =
      let q = open_is (starts symbol.Else rest) o in
      taken_again at x a ts rest w h k (closed a rest q) ∙ either_second (starts symbol.Else) (alternative s at x a) (pure (If at x a)) rest q

  pub else_again : (at : ℕ) (x : Formula) (a b : Action) (ts rest : List Terminal) → ends_open a ≡ false
      → (IsAt symbol.If at ⨾ IsA symbol.OpenParen ⨾ IsExpression x ⨾ IsA symbol.CloseParen ⨾ IsStatement a ⨾ IsA symbol.Else ⨾ IsStatement b) ts rest
      → formula_depth x ≤ d → action_depth a ≤ d → action_depth b ≤ d → Closed b rest → conditional e s ts ≡ Some (IfElse at x a b, rest)
  unfolding alternative
  else_again at x a b ts rest n w h k m o =
      let f = w.2 in
      let j = f.2 in
      let l = j.2 in
      let u = l.2 in
      let v = u.2 in
      taken_again at x a ts u.0 (w.0, w.1, (f.0, f.1, (j.0, j.1, (l.0, l.1, u.1)))) h k (λ _. n)
      ∙ either_first (starts symbol.Else) (alternative s at x a) (pure (If at x a)) u.0 (starts_is symbol.Else u.0 v.0 v.1.0 v.1.1 v.1.2)
      ∙ ap (λ o. and_then o (λ z. pure (IfElse at x a z))) (advance_then symbol.Else s u.0 v.0 v.1)
      ∙ bind (s v.0) (λ z. pure (IfElse at x a z)) b rest (i b v.0 rest v.2 m o)
