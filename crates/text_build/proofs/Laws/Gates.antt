-- What is spelled is read: gates.
use Rattle.std.proofs.Common.{◌≡◌, ℕ, ◌≤◌, ◌<◌, Bool, true, false, List, [], ◌∷◌, length, Option, Some, None, refl, ap, ◌∙◌, arith}
use Rattle.rtl_tree.specs.declared.symbol.Symbol.{Symbol}
use Rattle.rtl_tree.specs.declared.symbol.Symbol.TheVariants as symbol
use Rattle.rtl_tree.specs.declared.tree.gate.GateKind.{GateKind}
use Rattle.rtl_tree.specs.declared.tree.gate.GateKind.TheVariants as kind
use Rattle.rtl_tree.specs.Symbols.{Terminal}
use Rattle.rtl_tree.specs.TreeExpr.{Identifier, Formula}
use Rattle.rtl_tree.specs.TreeStmt.{Fixed, Named, Valued}
use Rattle.rtl_tree.specs.TreeGate.{GateSpan, One, Two, GatePause, Gate}
use Rattle.rtl_tree.specs.TreeWritten.{Primitives}
use Rattle.text_grammar.specs.Depth.{greatest, if_any, formula_depth, gate_span_depth, gate_pause_depth, gate_depth, written_depth}
use Rattle.text_grammar.specs.Grammar.{IsA, IsName, IsOptional, AreListed}
use Rattle.text_grammar.specs.GrammarExpr.{IsExpression}
use Rattle.text_grammar.specs.GrammarGate.{gate_symbol, IsGateSpan, IsGatePause, IsGate}
use Rattle.text_grammar.specs.GrammarWritten.{IsUnmarked}
use Rattle.text_build.specs.Reading.{Parser, and_then, ◌>>=◌, ◌>>◌, pure, same_symbol, starts, name, literal, advance, mark, either, optional, listed}
use Rattle.text_build.specs.ReadingStmt.{fixed, named, target}
use Rattle.text_build.specs.ReadingItem.{any_expression}
use Rattle.text_build.specs.ReadingGate.{rest_of_one, rest_of_two, in_parens, alone, gate_span_by, gate_span, gate_pause, gate, gates, gate_of}
use Rattle.text_build.proofs.Laws.Tokens.{mark_then, advance_at, advance_then, starts_is, starts_not, symbol_is, name_again, literal_again, bind, either_first, either_second, optional_there, optional_absent}
use Rattle.text_build.proofs.Laws.Repeats.{Again, Shrinks, Consumes, listed_again}
use Rattle.text_build.proofs.Laws.Follows.{Stops, stop_stops, Opens, opens_by, opens_not, formula_shorter}
use Rattle.text_build.proofs.Laws.Exprs.{Entire, before, stop_ends}
use Rattle.text_build.proofs.Laws.Targets.{IsWhole, target_again, target_shorter, span_shorter}
use Rattle.text_build.proofs.Laws.Lists.{ends_by, listed_shrinks, optional_shrinks, expression_shrinks, name_shrinks, any_again}

pub gate_back : (k : GateKind) → gate_of (gate_symbol k) ≡ Some k
unfolding gate_of
gate_back kind.And = refl
gate_back kind.Nand = refl
gate_back kind.Or = refl
gate_back kind.Nor = refl
gate_back kind.Xor = refl
gate_back kind.Xnor = refl
gate_back kind.Buf = refl
gate_back kind.Not = refl

-- ---- delays

module _ (d : ℕ) (e : Parser Formula) (c : Entire d e) where
  -- what follows the first expression in parentheses
  abbrev after_first : Formula → Parser GateSpan
  after_first f = either (starts symbol.Comma) (rest_of_two e f) (rest_of_one f)

  span_again : (s : GateSpan) (ts rest : List Terminal) → IsGateSpan s ts rest → gate_span_depth s ≤ d → gate_span e ts ≡ Some (s, rest)
  unfolding gate_span alone fixed named in_parens rest_of_one rest_of_two same_symbol
  span_again (One (Fixed value)) ts rest w h =
      ap (λ o. gate_span_by o e ts) (symbol_is symbol.Number ts rest w.0 w.1 w.2.0)
      ∙ bind (fixed ts) (λ s. pure (One s)) (Fixed value) rest (bind (literal ts) (λ v. pure (Fixed v)) value rest (literal_again value ts rest w))
  span_again (One (Named n)) ts rest w h =
      ap (λ o. gate_span_by o e ts) (symbol_is symbol.Name ts rest w.0 w.1 w.2.0)
      ∙ bind (named ts) (λ s. pure (One s)) (Named n) rest (bind (name ts) (λ x. pure (Named x)) n rest (name_again n ts rest w))
  span_again (One (Valued f)) ts rest w h =
      let a = w.2 in
      ap (λ o. gate_span_by o e ts) (symbol_is symbol.OpenParen ts w.0 w.1.0 w.1.1 w.1.2)
      ∙ ap (λ o. and_then o after_first) (mark_then symbol.OpenParen e ts w.0 w.1)
      ∙ before d e c symbol.CloseParen after_first f w.0 a.0 rest a.1 h refl a.2
      ∙ either_second (starts symbol.Comma) (rest_of_two e f) (rest_of_one f) a.0 (starts_not symbol.Comma symbol.CloseParen a.0 rest a.2.0 a.2.1 a.2.2 refl)
      ∙ mark_then symbol.CloseParen (pure (One (Valued f))) a.0 rest a.2
  span_again (Two r f) ts rest w h =
      let a = w.2 in
      let b = a.2 in
      let g = b.2 in
      ap (λ o. gate_span_by o e ts) (symbol_is symbol.OpenParen ts w.0 w.1.0 w.1.1 w.1.2)
      ∙ ap (λ o. and_then o after_first) (mark_then symbol.OpenParen e ts w.0 w.1)
      ∙ before d e c symbol.Comma after_first r w.0 a.0 b.0 a.1 (omega (arith, h)) refl b.1
      ∙ either_first (starts symbol.Comma) (rest_of_two e r) (rest_of_one r) a.0 (starts_is symbol.Comma a.0 b.0 b.1.0 b.1.1 b.1.2)
      ∙ ap (λ o. and_then o (λ x. mark symbol.CloseParen >> pure (Two r x))) (advance_then symbol.Comma e a.0 b.0 b.1)
      ∙ before d e c symbol.CloseParen (λ x. mark symbol.CloseParen >> pure (Two r x)) f b.0 g.0 rest g.1 (omega (arith, h)) refl g.2
      ∙ mark_then symbol.CloseParen (pure (Two r f)) g.0 rest g.2

  pause_again : (p : GatePause) (ts rest : List Terminal) → IsGatePause p ts rest → gate_pause_depth p ≤ d → gate_pause e ts ≡ Some (p, rest)
  unfolding gate_pause
  pause_again p ts rest w h =
      bind (advance ts) (λ at. gate_span e >>= (λ s. pure (record { at = at; span = s }))) p.at w.0 (advance_at symbol.Hash p.at ts w.0 w.1)
      ∙ bind (gate_span e w.0) (λ s. pure (record { at = p.at; span = s })) p.span rest (span_again p.span w.0 rest w.2 h)

  optional_pause : (p : Option GatePause) (ts rest : List Terminal) → IsOptional IsGatePause p ts rest → if_any gate_pause_depth p ≤ d → starts symbol.Hash rest ≡ false
      → optional symbol.Hash (gate_pause e) ts ≡ Some (p, rest)
  optional_pause None ts rest w h s = optional_absent symbol.Hash (gate_pause e) ts (ap (starts symbol.Hash) w ∙ s) ∙ ap (λ x. Some (None, x)) w
  optional_pause (Some p) ts rest w h s =
      optional_there symbol.Hash (gate_pause e) p ts rest (starts_is symbol.Hash ts w.0 w.1.0 w.1.1 w.1.2.0) (pause_again p ts rest w h)

span_shrinks : (s : GateSpan) (ts rest : List Terminal) → IsGateSpan s ts rest → length rest < length ts
span_shrinks (One s) ts rest w = span_shorter s ts rest w
span_shrinks (Two r f) ts rest w =
    let a = w.2 in let b = a.2 in let g = b.2 in
    omega (arith, ap length w.1.1, formula_shorter 12 r w.0 a.0 a.1, ap length b.1.1, formula_shorter 12 f b.0 g.0 g.1, ap length g.2.1)

pause_shrinks : (p : GatePause) → Shrinks (IsGatePause p)
pause_shrinks p ts rest w = omega (arith, ap length w.1.1, span_shrinks p.span w.0 rest w.2)

-- ---- gates

-- the symbols that a gate may begin with
abbrev is_gate : Symbol → Bool
is_gate symbol.Name = true
is_gate symbol.OpenParen = true
is_gate s = false

name_opens : (n : Option Identifier) (ts mid rest : List Terminal) → IsOptional IsName n ts mid → IsA symbol.OpenParen mid rest → Opens is_gate ts
name_opens None ts mid rest w m = opens_by is_gate symbol.OpenParen ts rest m.0 (w ∙ m.1) m.2 refl
name_opens (Some n) ts mid rest w m = opens_by is_gate symbol.Name ts mid w.0 w.1 w.2.0 refl

optional_name : (n : Option Identifier) (ts mid rest : List Terminal) → IsOptional IsName n ts mid → IsA symbol.OpenParen mid rest → optional symbol.Name name ts ≡ Some (n, mid)
unfolding same_symbol
optional_name None ts mid rest w m =
    optional_absent symbol.Name name ts (ap (starts symbol.Name) w ∙ starts_not symbol.Name symbol.OpenParen mid rest m.0 m.1 m.2 refl) ∙ ap (λ x. Some (None, x)) w
optional_name (Some n) ts mid rest w m = optional_there symbol.Name name n ts mid (starts_is symbol.Name ts mid w.0 w.1 w.2.0) (name_again n ts mid w)

comma_whole : (ts mid : List Terminal) → IsA symbol.Comma ts mid → IsWhole ts
unfolding same_symbol
comma_whole ts mid w = starts_not symbol.OpenBracket symbol.Comma ts mid w.0 w.1 w.2 refl

terminals_again : (d : ℕ) (fs : List Formula) (ts mid rest : List Terminal) → AreListed IsExpression fs ts mid → greatest formula_depth fs ≤ d → IsA symbol.CloseParen mid rest → listed (any_expression d) ts ≡ Some (fs, mid)
unfolding same_symbol
terminals_again d fs ts mid rest w h m =
    listed_again IsExpression (Stops 12) formula_depth d (any_expression d) (any_again d) expression_shrinks (λ us vs q. stop_stops symbol.Comma us vs refl q) fs ts mid w h (stop_ends symbol.CloseParen mid rest refl refl m)

abbrev Anything : List Terminal → Type 0
Anything ts = Unit {0}

gate_again : (d : ℕ) (k : GateKind) → Again gate_depth d (gate d) (IsGate k) Anything
unfolding gate
gate_again d k x ts rest v h s =
    let w = v.1 in
    let a = w.2 in
    let b = a.2 in
    let c = b.2 in
    let g = c.2 in
    bind (optional symbol.Name name ts) (λ n. mark symbol.OpenParen >> target d >>= (λ t. mark symbol.Comma >> listed (any_expression d) >>= (λ all. mark symbol.CloseParen >> pure (record { name = n; output = t; terminals = all })))) x.name w.0
    (optional_name x.name ts w.0 a.0 w.1 a.1)
    ∙ ap (λ o. and_then o (λ t. mark symbol.Comma >> listed (any_expression d) >>= (λ all. mark symbol.CloseParen >> pure (record { name = x.name; output = t; terminals = all }))))
    (mark_then symbol.OpenParen (target d) w.0 a.0 a.1 ∙ target_again d x.output a.0 b.0 b.1 (omega (arith, h)) (comma_whole b.0 c.0 c.1))
    ∙ ap (λ o. and_then o (λ all. mark symbol.CloseParen >> pure (record { name = x.name; output = x.output; terminals = all })))
    (mark_then symbol.Comma (listed (any_expression d)) b.0 c.0 c.1 ∙ terminals_again d x.terminals c.0 g.0 rest g.1 (omega (arith, h)) g.2)
    ∙ mark_then symbol.CloseParen (pure x) g.0 rest g.2

gate_shrinks : (k : GateKind) (x : Gate) → Shrinks (IsGate k x)
gate_shrinks k x ts rest v =
    let w = v.1 in let a = w.2 in let b = a.2 in let c = b.2 in let g = c.2 in
    omega (
      arith,
      optional_shrinks IsName name_shrinks x.name ts w.0 w.1,
      ap length a.1.1,
      target_shorter x.output a.0 b.0 b.1,
      ap length c.1.1,
      listed_shrinks IsExpression expression_shrinks x.terminals c.0 g.0 g.1,
      ap length g.2.1,
    )

gates_open : (k : GateKind) (xs : List Gate) (ts rest : List Terminal) → AreListed (IsGate k) xs ts rest → Opens is_gate ts
gates_open k [] ts rest w = absurd w
gates_open k (x ∷ xs) ts rest w = let v = w.1.1 in let a = v.2 in name_opens x.name ts v.0 a.0 v.1 a.1

pub gates_again : (d at : ℕ) (k : GateKind) (p : Option GatePause) (xs : List Gate) (ts rest : List Terminal) → IsUnmarked (Primitives at k p xs) ts rest → written_depth (Primitives at k p xs) ≤ d
    → gates d k ts ≡ Some (Primitives at k p xs, rest)
unfolding gates same_symbol
gates_again d at k p xs ts rest w h =
    let a = w.2 in
    let c = a.2 in
    bind (advance ts) (λ at. optional symbol.Hash (gate_pause (any_expression d)) >>= (λ p. listed (gate d) >>= (λ all. mark symbol.Semicolon >> pure (Primitives at k p all)))) at w.0 (advance_at (gate_symbol k) at ts w.0 w.1)
    ∙ bind (optional symbol.Hash (gate_pause (any_expression d)) w.0) (λ p. listed (gate d) >>= (λ all. mark symbol.Semicolon >> pure (Primitives at k p all))) p a.0
    (optional_pause d (any_expression d) (any_again d) p w.0 a.0 a.1 (omega (arith, h)) (opens_not is_gate symbol.Hash a.0 refl (gates_open k xs a.0 c.0 c.1)))
    ∙ bind (listed (gate d) a.0) (λ all. mark symbol.Semicolon >> pure (Primitives at k p all)) xs c.0
    (listed_again (IsGate k) Anything gate_depth d (gate d) (gate_again d k) (gate_shrinks k) (λ us vs q. tt) xs a.0 c.0 c.1 (omega (arith, h)) (ends_by Anything symbol.Semicolon c.0 rest tt refl c.2))
    ∙ mark_then symbol.Semicolon (pure (Primitives at k p xs)) c.0 rest c.2

pub gates_shorter : (at : ℕ) (k : GateKind) (p : Option GatePause) (xs : List Gate) → Consumes (IsUnmarked (Primitives at k p xs))
gates_shorter at k p xs ts rest w =
    let a = w.2 in let c = a.2 in
    omega (arith, ap length w.1.1, optional_shrinks IsGatePause pause_shrinks p w.0 a.0 a.1, listed_shrinks (IsGate k) (gate_shrinks k) xs a.0 c.0 c.1, ap length c.2.1)
