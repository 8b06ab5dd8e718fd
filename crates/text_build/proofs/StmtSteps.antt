-- What one level of depth of a target or a statement does, and what loops begin with.
use Rattle.std.proofs.Common.{◌≡◌, ℕ, zero, suc, List, length, None, refl, ap, arith}
use Rattle.rtl_tree.specs.declared.symbol.Symbol.TheVariants as symbol
use Rattle.rtl_tree.specs.Symbols.{Terminal}
use Rattle.text_build.specs.declared.attributes.Marks.{Marks}
use Rattle.text_build.specs.Reading.{starts, turns, either}
use Rattle.text_build.specs.ReadingExpr.{expression}
use Rattle.text_build.specs.ReadingStmt.{no_marks, marked, attributes, joined, part_target, target, statement_within, statement}
use Rattle.text_build.proofs.Steps.{turns_start}

pub attributes_start : (n : ℕ) (m : Marks) (ts : List Terminal) → n ≡ length ts → m ≡ no_marks → turns n (starts symbol.OpenAttribute) marked m ts ≡ attributes ts
unfolding attributes
attributes_start n m ts e f = turns_start n (starts symbol.OpenAttribute) marked m no_marks ts e f

pub target_none : (d : ℕ) (ts : List Terminal) → d ≡ 0 → target d ts ≡ None
unfolding target
target_none zero ts e = refl
target_none (suc d) ts e = absurd (omega arith)

pub target_deeper : (d e : ℕ) (ts : List Terminal) → d ≡ suc e → target d ts ≡ either (starts symbol.OpenBrace) (joined (target e)) (part_target (expression e)) ts
unfolding target
target_deeper d e ts h = ap (λ n. target n ts) h

pub statement_none : (d : ℕ) (ts : List Terminal) → d ≡ 0 → statement d ts ≡ None
unfolding statement
statement_none zero ts e = refl
statement_none (suc d) ts e = absurd (omega arith)

pub statement_deeper : (d e : ℕ) (ts : List Terminal) → d ≡ suc e → statement d ts ≡ statement_within (expression e) (target e) (statement e) ts
unfolding statement
statement_deeper d e ts h = ap (λ n. statement n ts) h
