-- What follows an expression.
use Rattle.std.proofs.Common.{◌≡◌, ℕ, ◌<◌, ◌≤◌, ◌-◌, cond, true, false, nat_eq, [], ◌∷◌, Option, Some, None, refl, sym, ap, ◌∙◌, eq-eqb, arith}
use denote.Enum.Declared.{tag_of}
use Rattle.rtl_tree.specs.contracts.symbol.Symbol.{the_type}
use Rattle.std.proofs.lemmas.Bool.{ne_eqb}
use Rattle.rtl_tree.specs.declared.symbol.Symbol.{Symbol}
use Rattle.rtl_tree.specs.declared.symbol.Symbol.TheVariants as symbol
use Rattle.text_survey.specs.declared.task.Level.{Level}
use Rattle.text_survey.specs.declared.task.Level.TheVariants as level
use Rattle.text_survey.specs.declared.task.Task.TheVariants as task
use Rattle.text_survey.specs.declared.task.Taking.TheVariants as taking
use Rattle.text_survey.specs.Table.{go, same_symbol, rank, tighter, looseness, link}
use Rattle.text_survey.specs.Rule.{rule}

pub no_select : (o : Option Symbol) → 0 < looseness o → rule task.Select o ≡ go taking.Nothing []
unfolding same_symbol
no_select None h = refl
no_select (Some symbol.OpenBracket) h = absurd (omega arith)
no_select (Some other) h = refl

pub no_event_select : (o : Option Symbol) → 0 < looseness o → rule task.EventSelect o ≡ go taking.Nothing []
unfolding same_symbol
no_event_select None h = refl
no_event_select (Some symbol.OpenBracket) h = absurd (omega arith)
no_event_select (Some other) h = refl

pub no_choice : (o : Option Symbol) → 12 < looseness o → rule task.Choice o ≡ go taking.Nothing []
no_choice None h = refl
no_choice (Some symbol.Question) h = absurd (omega arith)
no_choice (Some other) h = refl

unequal : (a b : ℕ) → b < a → nat_eq a b ≡ false
unequal a b h = ne_eqb a b (λ e. omega arith)

pub no_link : (k : Level) (o : Option Symbol) → rank k < looseness o → rule (task.Chain k) o ≡ go taking.Nothing []
no_link k o h = ap (λ b. cond b (link k) (go taking.Nothing [])) (unequal (looseness o) (rank k) h)

pub next_link : (k : Level) (o : Option Symbol) → looseness o ≡ rank k → rule (task.Chain k) o ≡ link k
next_link k o h = ap (λ b. cond b (link k) (go taking.Nothing [])) (eq-eqb (looseness o) (rank k) h)

pub tighter_rank : (k : Level) → rank (tighter k) ≡ rank k - 1
tighter_rank level.Operand = refl
tighter_rank other = refl

pub by_level : (k : Level) (o : Option Symbol) → 1 ≤ rank k → rule (task.Level k) o ≡ go taking.Nothing (task.Level (tighter k) ∷ task.Chain k ∷ [])
by_level level.Operand o h = absurd (omega arith)
by_level other o h = refl

pub same_refl : (a : Symbol) → same_symbol a a ≡ true
unfolding same_symbol
same_refl a = eq-eqb (tag_of the_type a) (tag_of the_type a) refl

of_rank : ℕ → Level
of_rank n =
    cond (nat_eq n 0) level.Operand (cond (nat_eq n 1) level.Power (cond (nat_eq n 2) level.Product (cond (nat_eq n 3) level.Sum (cond (nat_eq n 4) level.Shift (cond (nat_eq n 5) level.Comparison
    (cond (nat_eq n 6) level.Equality (cond (nat_eq n 7) level.And (cond (nat_eq n 8) level.Xor (cond (nat_eq n 9) level.Or (cond (nat_eq n 10) level.LogicalAnd level.LogicalOr))))))))))

of_rank_of : (k : Level) → of_rank (rank k) ≡ k
unfolding of_rank
of_rank_of level.Operand = refl
of_rank_of other = refl

pub same_rank : (a b : Level) → rank a ≡ rank b → a ≡ b
same_rank a b e = sym (of_rank_of a) ∙ ap of_rank e ∙ of_rank_of b

pub rank_small : (k : Level) → rank k ≤ 11
rank_small level.Operand = omega arith
rank_small other = omega arith
