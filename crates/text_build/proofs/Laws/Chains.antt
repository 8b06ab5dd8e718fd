-- What is spelled is read: operators between operands, grouped to the left, and `?:`.
use Rattle.std.proofs.Common.{◌≡◌, cond, ℕ, zero, suc, ◌+◌, ◌-◌, ◌≤◌, false, List, Some, None, refl, ap, ◌∙◌, arith}
use Rattle.rtl_tree.specs.declared.symbol.Symbol.{Symbol}
use Rattle.rtl_tree.specs.declared.symbol.Symbol.TheVariants as symbol
use Rattle.rtl_tree.specs.declared.tree.operators.BinaryOperator.{BinaryOperator}
use Rattle.rtl_tree.specs.Symbols.{Terminal}
use Rattle.rtl_tree.specs.TreeExpr.{Formula, Number, Read, ReadBit, ReadPart, Parens, Apply, Concat, Repeat, Unary, Binary, Choose, Bounds}
use Rattle.text_grammar.specs.Depth.{formula_depth, bounds_depth}
use Rattle.text_grammar.specs.Grammar.{◌⨾◌, IsA, IsAt}
use Rattle.text_grammar.specs.GrammarExpr.{binary_symbol, level, IsFormula, IsBounds}
use Rattle.text_build.specs.Reading.{Parser, and_then, ◌>>=◌, ◌>>◌, pure, turns, advance, mark}
use Rattle.text_build.specs.ReadingExpr.{ended, binary_of, goes, choice, joint, link_of, link_by, link, chain, operand, sequence, climb, bounds}
use Rattle.text_build.proofs.Steps.{turns_go, turns_stop}
use Rattle.text_build.proofs.Laws.Tokens.{at_is, advance_at, symbol_is, mark_then, bind}
use Rattle.text_build.proofs.Laws.Follows.{Stops, level_is, binary_back, stops_mono, operator_stops, operator_goes, question_stops, question_goes}
use Rattle.text_build.proofs.Laws.Exprs.{Complete, Entire, whole_of, before, IsOperand, operand_again}

-- ---- one more operand

link_from : (e : ℕ → Parser Formula) (left : Formula) (s : Symbol) (ts rest : List Terminal) → IsA s ts rest → link e left ts ≡ link_of (binary_of s) e left ts
unfolding link
link_from e left s ts rest w = ap (λ o. link_by o e left ts) (symbol_is s ts rest w.0 w.1 w.2)

joint_again : (d : ℕ) (e : ℕ → Parser Formula) → Complete d e → (op : BinaryOperator) (at : ℕ) (left right : Formula) (ts rest : List Terminal) → (IsAt (binary_symbol op) at ⨾ IsFormula (level op - 1) right) ts rest
    → formula_depth right ≤ d → Stops (level op - 1) rest → link e left ts ≡ Some (Binary op at left right, rest)
unfolding joint
joint_again d e c op at left right ts rest w h s =
    link_from e left (binary_symbol op) ts w.0 (at_is (binary_symbol op) at ts w.0 w.1)
    ∙ ap (λ o. link_of o e left ts) (binary_back op)
    ∙ bind (advance ts) (λ p. e (level op - 1) >>= (λ x. pure (Binary op p left x))) at w.0 (advance_at (binary_symbol op) at ts w.0 w.1)
    ∙ bind (e (level op - 1) w.0) (λ x. pure (Binary op at left x)) right rest (c (level op - 1) right w.0 rest w.2 h s)

choice_again : (d : ℕ) (e : ℕ → Parser Formula) → Complete d e → (at : ℕ) (condition taken otherwise : Formula) (ts rest : List Terminal)
    → (IsAt symbol.Question at ⨾ IsFormula 12 taken ⨾ IsA symbol.Colon ⨾ IsFormula 12 otherwise) ts rest → formula_depth taken ≤ d → formula_depth otherwise ≤ d → Stops 12 rest
    → link e condition ts ≡ Some (Choose at condition taken otherwise, rest)
unfolding choice binary_of
choice_again d e c at condition taken otherwise ts rest w h k s =
    let a = w.2 in
    let b = a.2 in
    link_from e condition symbol.Question ts w.0 (at_is symbol.Question at ts w.0 w.1)
    ∙ bind (advance ts) (λ p. e 12 >>= (λ t. mark symbol.Colon >> e 12 >>= (λ o. pure (Choose p condition t o)))) at w.0 (advance_at symbol.Question at ts w.0 w.1)
    ∙ before d (e 12) (whole_of d e c) symbol.Colon (λ t. mark symbol.Colon >> e 12 >>= (λ o. pure (Choose at condition t o))) taken w.0 a.0 b.0 a.1 h refl b.1
    ∙ ap (λ q. and_then q (λ o. pure (Choose at condition taken o))) (mark_then symbol.Colon (e 12) a.0 b.0 b.1)
    ∙ bind (e 12 b.0) (λ o. pure (Choose at condition taken o)) otherwise rest (c 12 otherwise b.0 rest b.2 k s)

deep : (f : Formula) → 1 ≤ formula_depth f
deep (Number value at) = omega arith
deep (Read n) = omega arith
deep (ReadBit n i) = omega arith
deep (ReadPart n p a b) = omega arith
deep (Parens at f) = omega arith
deep (Apply x at f) = omega arith
deep (Concat at fs) = omega arith
deep (Repeat at t fs) = omega arith
deep (Unary op at f) = omega arith
deep (Binary op at l r) = omega arith
deep (Choose at x t o) = omega arith

-- ---- the left spine

-- where an expression was read, its chain goes on after it
record Spine (d k : ℕ) (e : ℕ → Parser Formula) (f : Formula) (ts rest : List Terminal) : Type 0 where
  fuel : ℕ
  enough : d + 1 ≤ formula_depth f + fuel
  goes_on : sequence d k e ts ≡ and_then (turns fuel (goes k) (link e) f rest) (ended k)

leaf : (d k : ℕ) (e : ℕ → Parser Formula) (f : Formula) (ts rest : List Terminal) → operand e ts ≡ Some (f, rest) → Spine d k e f ts rest
unfolding sequence chain
leaf d k e f ts rest h = record { fuel = d; enough = omega (arith, deep f); goes_on = bind (operand e ts) (chain d k e) f rest h }

abbrev Parts : BinaryOperator → ℕ → Formula → Formula → List Terminal → List Terminal → Type 0
Parts op at l r = IsFormula (level op) l ⨾ IsAt (binary_symbol op) at ⨾ IsFormula (level op - 1) r

grown : (d : ℕ) (e : ℕ → Parser Formula) → Complete d e → (k : ℕ) (op : BinaryOperator) (at : ℕ) (l r : Formula) (ts rest : List Terminal) (w : Parts op at l r ts rest) → Spine d k e l ts w.0
    → level op ≤ k → formula_depth l ≤ d → formula_depth r ≤ d → Stops (level op - 1) rest → Spine d k e (Binary op at l r) ts rest
grown d e c k op at l r ts rest w v h m q s =
    let a = w.2 in
    record {
      fuel = v.fuel - 1;
      enough = omega (arith, v.enough, m);
      goes_on = v.goes_on
          ∙ ap (λ o. and_then o (ended k)) (turns_go v.fuel (v.fuel - 1) (goes k) (link e) l w.0 (Some (Binary op at l r, rest)) (omega (arith, v.enough, m)) (operator_goes op k at w.0 a.0 h a.1)
          (joint_again d e c op at l r w.0 rest (a.0, a.1, a.2) q s));
    }

spine : (d : ℕ) (e : ℕ → Parser Formula) → Complete d e → (k : ℕ) (f : Formula) (j : ℕ) → j ≤ k → j ≤ 11 → (ts rest : List Terminal) → IsFormula j f ts rest → formula_depth f ≤ suc d
    → Stops (j - 1) rest → Spine d k e f ts rest
spine d e c k (Number value at) j h m ts rest w q s = leaf d k e (Number value at) ts rest (operand_again d e c j (Number value at) ts rest tt w q s.whole)
spine d e c k (Read n) j h m ts rest w q s = leaf d k e (Read n) ts rest (operand_again d e c j (Read n) ts rest tt w q s.whole)
spine d e c k (ReadBit n i) j h m ts rest w q s = leaf d k e (ReadBit n i) ts rest (operand_again d e c j (ReadBit n i) ts rest tt w q s.whole)
spine d e c k (ReadPart n p a b) j h m ts rest w q s = leaf d k e (ReadPart n p a b) ts rest (operand_again d e c j (ReadPart n p a b) ts rest tt w q s.whole)
spine d e c k (Parens at f) j h m ts rest w q s = leaf d k e (Parens at f) ts rest (operand_again d e c j (Parens at f) ts rest tt w q s.whole)
spine d e c k (Apply x at f) j h m ts rest w q s = leaf d k e (Apply x at f) ts rest (operand_again d e c j (Apply x at f) ts rest tt w q s.whole)
spine d e c k (Concat at fs) j h m ts rest w q s = leaf d k e (Concat at fs) ts rest (operand_again d e c j (Concat at fs) ts rest tt w q s.whole)
spine d e c k (Repeat at t fs) j h m ts rest w q s = leaf d k e (Repeat at t fs) ts rest (operand_again d e c j (Repeat at t fs) ts rest tt w q s.whole)
spine d e c k (Unary op at f) j h m ts rest w q s = leaf d k e (Unary op at f) ts rest (operand_again d e c j (Unary op at f) ts rest tt w q s.whole)
spine d e c k (Binary op at l r) j h m ts rest w q s =
    let v = w.1 in
    let a = v.2 in
    grown d e c k op at l r ts rest v
    (spine d e c k l (level op) (omega (arith, h, w.0)) (level_is op).most ts v.0 v.1 (omega (arith, q)) (operator_stops op at v.0 a.0 a.1))
    (omega (arith, h, w.0)) (omega (arith, q)) (omega (arith, q)) (stops_mono (level op - 1) (j - 1) (omega (arith, w.0)) rest s)
spine d e c k (Choose at x t o) j h m ts rest w q s = absurd (omega (arith, m, w.0))

-- ---- whole expressions

no_more : (k : ℕ) (f : Formula) (ts : List Terminal) → goes k ts ≡ false → ended k f ts ≡ Some (f, ts)
unfolding ended
no_more k f ts h = ap (λ b. cond b None (Some (f, ts))) h

ends_spine : (d k : ℕ) (e : ℕ → Parser Formula) (f : Formula) (ts rest : List Terminal) → Spine d k e f ts rest → Stops k rest → sequence d k e ts ≡ Some (f, rest)
ends_spine d k e f ts rest v s = v.goes_on ∙ ap (λ o. and_then o (ended k)) (turns_stop v.fuel (goes k) (link e) f rest s.ends) ∙ no_more k f rest s.ends

simple : (d : ℕ) (e : ℕ → Parser Formula) → Complete d e → (k : ℕ) (f : Formula) (ts rest : List Terminal) → IsOperand f → IsFormula k f ts rest → formula_depth f ≤ suc d → Stops k rest
    → sequence d k e ts ≡ Some (f, rest)
simple d e c k f ts rest i w h s = ends_spine d k e f ts rest (leaf d k e f ts rest (operand_again d e c k f ts rest i w h s.whole)) s

choose_again : (d : ℕ) (e : ℕ → Parser Formula) → Complete d e → (k at : ℕ) (x t o : Formula) (ts rest : List Terminal) → IsFormula k (Choose at x t o) ts rest → formula_depth (Choose at x t o) ≤ suc d
    → Stops k rest → sequence d k e ts ≡ Some (Choose at x t o, rest)
choose_again d e c k at x t o ts rest w h s =
    let v = w.1 in
    let a = v.2 in
    let p = spine d e c k x 11 (omega (arith, w.0)) (omega arith) ts v.0 v.1 (omega (arith, h)) (stops_mono 10 11 (omega arith) v.0 (question_stops at v.0 a.0 a.1)) in
    p.goes_on
    ∙ ap (λ q. and_then q (ended k)) (turns_go p.fuel (p.fuel - 1) (goes k) (link e) x v.0 (Some (Choose at x t o, rest)) (omega (arith, p.enough, h)) (question_goes k at v.0 a.0 w.0 a.1)
    (choice_again d e c at x t o v.0 rest a (omega (arith, h)) (omega (arith, h)) (stops_mono 12 k w.0 rest s)))
    ∙ ap (λ q. and_then q (ended k)) (turns_stop (p.fuel - 1) (goes k) (link e) (Choose at x t o) rest s.ends)
    ∙ no_more k (Choose at x t o) rest s.ends

sequence_again : (d : ℕ) (e : ℕ → Parser Formula) → Complete d e → (k : ℕ) (f : Formula) (ts rest : List Terminal) → IsFormula k f ts rest → formula_depth f ≤ suc d → Stops k rest
    → sequence d k e ts ≡ Some (f, rest)
sequence_again d e c k (Number value at) ts rest w h s = simple d e c k (Number value at) ts rest tt w h s
sequence_again d e c k (Read n) ts rest w h s = simple d e c k (Read n) ts rest tt w h s
sequence_again d e c k (ReadBit n i) ts rest w h s = simple d e c k (ReadBit n i) ts rest tt w h s
sequence_again d e c k (ReadPart n p a b) ts rest w h s = simple d e c k (ReadPart n p a b) ts rest tt w h s
sequence_again d e c k (Parens at f) ts rest w h s = simple d e c k (Parens at f) ts rest tt w h s
sequence_again d e c k (Apply x at f) ts rest w h s = simple d e c k (Apply x at f) ts rest tt w h s
sequence_again d e c k (Concat at fs) ts rest w h s = simple d e c k (Concat at fs) ts rest tt w h s
sequence_again d e c k (Repeat at t fs) ts rest w h s = simple d e c k (Repeat at t fs) ts rest tt w h s
sequence_again d e c k (Unary op at f) ts rest w h s = simple d e c k (Unary op at f) ts rest tt w h s
sequence_again d e c k (Binary op at l r) ts rest w h s =
    let v = w.1 in
    let a = v.2 in
    ends_spine d k e (Binary op at l r) ts rest
    (grown d e c k op at l r ts rest v
    (spine d e c k l (level op) w.0 (level_is op).most ts v.0 v.1 (omega (arith, h)) (operator_stops op at v.0 a.0 a.1))
    w.0 (omega (arith, h)) (omega (arith, h)) (stops_mono (level op - 1) k (omega (arith, w.0)) rest s))
    s
sequence_again d e c k (Choose at x t o) ts rest w h s = choose_again d e c k at x t o ts rest w h s

pub climb_again : (d : ℕ) → Complete d (climb d)
unfolding climb
climb_again zero k f ts rest w h s = absurd (omega (arith, deep f, h))
climb_again (suc d) k f ts rest w h s = sequence_again d (climb d) (climb_again d) k f ts rest w h s

-- any expression, nested at most `d` deep
pub expression_again : (d : ℕ) → Entire d (climb d 12)
expression_again d = whole_of d (climb d) (climb_again d)

pub bounds_again : (d : ℕ) (e : Parser Formula) → Entire d e → (b : Bounds) (ts rest : List Terminal) → IsBounds b ts rest → bounds_depth b ≤ d → bounds e ts ≡ Some (b, rest)
unfolding bounds
bounds_again d e c b ts rest w h =
    let x = w.2 in
    let y = x.2 in
    let z = y.2 in
    bind (advance ts) (λ at. e >>= (λ m. mark symbol.Colon >> e >>= (λ l. mark symbol.CloseBracket >> pure (record { at = at; msb = m; lsb = l })))) b.at w.0 (advance_at symbol.OpenBracket b.at ts w.0 w.1)
    ∙ before d e c symbol.Colon (λ m. mark symbol.Colon >> e >>= (λ l. mark symbol.CloseBracket >> pure (record { at = b.at; msb = m; lsb = l }))) b.msb w.0 x.0 y.0 x.1 (omega (arith, h)) refl y.1
    ∙ ap (λ o. and_then o (λ l. mark symbol.CloseBracket >> pure (record { at = b.at; msb = b.msb; lsb = l }))) (mark_then symbol.Colon e x.0 y.0 y.1)
    ∙ before d e c symbol.CloseBracket (λ l. mark symbol.CloseBracket >> pure (record { at = b.at; msb = b.msb; lsb = l })) b.lsb y.0 z.0 rest z.1 (omega (arith, h)) refl z.2
    ∙ mark_then symbol.CloseBracket (pure b) z.0 rest z.2
