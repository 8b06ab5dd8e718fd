-- What is spelled is read: attributes, with what they say of a case.
use Rattle.std.proofs.Common.{◌≡◌, ℕ, zero, suc, ◌≤◌, ◌<◌, Bool, true, false, cond, ◌||◌, List, [], ◌∷◌, length, Some, refl, sym, ap, subst, ◌∙◌, inl, inr, codes, arith}
use Rattle.std.specs.List.{list_any}
use Rattle.std.specs.Str.{bytes_eq}
use Rattle.rtl_tree.specs.declared.symbol.Symbol.TheVariants as symbol
use Rattle.rtl_tree.specs.Symbols.{Terminal}
use Rattle.rtl_tree.specs.TreeExpr.{Identifier, Formula}
use Rattle.text_grammar.specs.Grammar.{IsA, IsName, AreMore, AreListed}
use Rattle.text_grammar.specs.GrammarExpr.{IsExpression}
use Rattle.text_grammar.specs.GrammarStmt.{IsAttributeValue, IsAttribute, AreMarked, AreAttributes, names}
use Rattle.text_build.specs.declared.attributes.Marks.{Marks}
use Rattle.text_build.specs.Reading.{and_then, ◌>>◌, pure, same_symbol, starts, after, token, turns, repeat, links, commas, mark}
use Rattle.text_build.specs.ReadingStmt.{no_marks, with_name, past, after_value, attribute, marked, attributes}
use Rattle.text_build.proofs.Steps.{turns_go, turns_stop, links_turn, links_stop}
use Rattle.text_build.proofs.Laws.Tokens.{token_again, starts_is, starts_not, after_is, after_not, mark_then, advance_then, bind}
use Rattle.text_build.proofs.Laws.Follows.{formula_shorter}
use Rattle.text_build.proofs.Laws.Passes.{past_formula, past_ends, past_quoted}

-- ---- values

-- where no value follows, nothing is passed over
pub no_value : (ts : List Terminal) → starts symbol.Equals ts ≡ false → after_value ts ≡ ts
unfolding after_value
no_value ts h = ap (λ o. cond o (past 0 (after symbol.Equals ts)) (after symbol.Equals ts)) h ∙ after_not symbol.Equals ts h

passed : (ts mid : List Terminal) → IsA symbol.Equals ts mid → after_value ts ≡ past 0 mid
unfolding after_value
passed ts mid w =
    ap (λ o. cond o (past 0 (after symbol.Equals ts)) (after symbol.Equals ts)) (starts_is symbol.Equals ts mid w.0 w.1 w.2) ∙ ap (past 0) (after_is symbol.Equals ts mid w.0 w.1 w.2)

-- a value is passed over as a whole
pub formula_passed : (f : Formula) (ts mid rest : List Terminal) → IsA symbol.Equals ts mid → IsExpression f mid rest → past 0 rest ≡ rest → after_value ts ≡ rest
formula_passed f ts mid rest w v e = passed ts mid w ∙ past_formula 12 f 0 mid rest v ∙ e

value_passed : (ts mid rest : List Terminal) → IsA symbol.Equals ts mid → IsAttributeValue mid rest → past 0 rest ≡ rest → after_value ts ≡ rest
value_passed ts mid rest w (inl v) e = formula_passed v.0 ts mid rest w v.1 e
value_passed ts mid rest w (inr v) e = passed ts mid w ∙ past_quoted mid rest v ∙ e

-- ---- one attribute

-- what may follow an attribute
record Follows (ts : List Terminal) : Type 0 where
  plain : starts symbol.Equals ts ≡ false
  ended : past 0 ts ≡ ts

comma_follows : (ts rest : List Terminal) → IsA symbol.Comma ts rest → Follows ts
unfolding same_symbol
comma_follows ts rest w =
    record { plain = starts_not symbol.Equals symbol.Comma ts rest w.0 w.1 w.2 refl; ended = past_ends symbol.Comma ts rest w refl }

close_follows : (ts rest : List Terminal) → IsA symbol.CloseAttribute ts rest → Follows ts
unfolding same_symbol
close_follows ts rest w =
    record { plain = starts_not symbol.Equals symbol.CloseAttribute ts rest w.0 w.1 w.2 refl; ended = past_ends symbol.CloseAttribute ts rest w refl }

named : (m : Marks) (n : Identifier) (ts mid rest : List Terminal) → IsName n ts mid → after_value mid ≡ rest → attribute m ts ≡ Some (with_name n.text m, rest)
unfolding attribute
named m n ts mid rest w e =
    bind (token symbol.Name ts) (λ t us. Some (with_name t.text m, after_value us)) w.0 mid (token_again symbol.Name ts mid w.0 w.1 w.2.0)
    ∙ ap (λ x. Some (with_name x.text m, after_value mid)) w.2.1
    ∙ ap (λ x. Some (with_name n.text m, x)) e

attribute_again : (m : Marks) (n : Identifier) (ts rest : List Terminal) → IsAttribute n ts rest → Follows rest → attribute m ts ≡ Some (with_name n.text m, rest)
attribute_again m n ts rest (inl w) f = named m n ts rest rest w (no_value rest f.plain)
attribute_again m n ts rest (inr w) f = let a = w.2 in named m n ts w.0 rest w.1 (value_passed w.0 a.0 rest a.1 a.2 f.ended)

value_shorter : (ts rest : List Terminal) → IsAttributeValue ts rest → length rest < length ts
value_shorter ts rest (inl v) = formula_shorter 12 v.0 ts rest v.1
value_shorter ts rest (inr v) = omega (arith, ap length v.1)

attribute_shorter : (n : Identifier) (ts rest : List Terminal) → IsAttribute n ts rest → length rest < length ts
attribute_shorter n ts rest (inl w) = omega (arith, ap length w.1)
attribute_shorter n ts rest (inr w) = let a = w.2 in omega (arith, ap length w.1.1, ap length a.1.1, value_shorter a.0 rest a.2)

-- ---- attributes in one pair of marks

abbrev with_names : List Identifier → Marks → Marks
with_names [] m = m
with_names (n ∷ ns) m = with_names ns (with_name n.text m)

names_again : (i : ℕ) (m : Marks) (n : Identifier) (ns : List Identifier) (ts mid rest last : List Terminal) → length ts ≤ i → IsAttribute n ts mid → AreMore IsAttribute ns mid rest
    → IsA symbol.CloseAttribute rest last → links i (starts symbol.Comma) (after symbol.Comma) attribute m ts ≡ Some (with_names (n ∷ ns) m, rest)
unfolding same_symbol
names_again zero m n ns ts mid rest last l w v c = absurd (omega (arith, l, attribute_shorter n ts mid w))
names_again (suc i) m n [] ts mid rest last l w v c =
    let s = starts_not symbol.Comma symbol.CloseAttribute rest last c.0 c.1 c.2 refl in
    links_stop (suc i) (starts symbol.Comma) (after symbol.Comma) attribute m (with_name n.text m) ts rest rest (omega arith)
    (attribute_again m n ts rest (subst (λ x. IsAttribute n ts x) v w) (close_follows rest last c)) s (sym (after_not symbol.Comma rest s))
names_again (suc i) m n (k ∷ ns) ts mid rest last l w v c =
    let a = v.2 in
    links_turn (suc i) i (starts symbol.Comma) (after symbol.Comma) attribute m (with_name n.text m) ts mid v.0 refl (attribute_again m n ts mid w (comma_follows mid v.0 v.1))
    (starts_is symbol.Comma mid v.0 v.1.0 v.1.1 v.1.2) (sym (after_is symbol.Comma mid v.0 v.1.0 v.1.1 v.1.2))
    ∙ names_again i (with_name n.text m) k ns v.0 a.0 rest last (omega (arith, l, attribute_shorter n ts mid w, ap length v.1.1)) a.1 a.2 c

marked_again : (m : Marks) (ns : List Identifier) (ts rest : List Terminal) → AreMarked ns ts rest → marked m ts ≡ Some (with_names ns m, rest)
unfolding marked commas
marked_again m [] ts rest w = absurd w.2.1
marked_again m (n ∷ ns) ts rest w =
    let a = w.2 in
    let b = a.1 in
    ap (λ o. and_then o (λ x. mark symbol.CloseAttribute >> pure x)) (advance_then symbol.OpenAttribute (commas attribute m) ts w.0 w.1
    ∙ names_again (length w.0) m n ns w.0 b.0 a.0 rest (omega arith) b.1 b.2 a.2)
    ∙ mark_then symbol.CloseAttribute (pure (with_names (n ∷ ns) m)) a.0 rest a.2

more_shorter : (ns : List Identifier) (ts rest : List Terminal) → AreMore IsAttribute ns ts rest → length rest ≤ length ts
more_shorter [] ts rest w = omega (arith, ap length w)
more_shorter (n ∷ ns) ts rest w = let a = w.2 in omega (arith, ap length w.1.1, attribute_shorter n w.0 a.0 a.1, more_shorter ns a.0 rest a.2)

listed_shorter : (ns : List Identifier) (ts rest : List Terminal) → AreListed IsAttribute ns ts rest → length rest ≤ length ts
listed_shorter [] ts rest w = absurd w
listed_shorter (n ∷ ns) ts rest w = omega (arith, attribute_shorter n ts w.0 w.1, more_shorter ns w.0 rest w.2)

marked_shorter : (ns : List Identifier) (ts rest : List Terminal) → AreMarked ns ts rest → length rest < length ts
marked_shorter ns ts rest w = let a = w.2 in omega (arith, ap length w.1.1, listed_shorter ns w.0 a.0 a.1, ap length a.2.1)

-- ---- all attributes

abbrev with_all : List (List Identifier) → Marks → Marks
with_all [] m = m
with_all (ns ∷ all) m = with_all all (with_names ns m)

-- what attributes say of a case
abbrev pub marks_of : List (List Identifier) → Marks
marks_of all = with_all all no_marks

turns_again : (i : ℕ) (m : Marks) (all : List (List Identifier)) (ts rest : List Terminal) → length ts ≤ i → AreAttributes all ts rest → starts symbol.OpenAttribute rest ≡ false
    → turns i (starts symbol.OpenAttribute) marked m ts ≡ Some (with_all all m, rest)
turns_again i m [] ts rest l w s =
    turns_stop i (starts symbol.OpenAttribute) marked m ts (ap (starts symbol.OpenAttribute) w ∙ s) ∙ ap (λ x. Some (m, x)) w
turns_again zero m (ns ∷ all) ts rest l w s = absurd (omega (arith, l, marked_shorter ns ts w.0 w.1))
turns_again (suc i) m (ns ∷ all) ts rest l w s =
    let a = w.1 in
    turns_go (suc i) i (starts symbol.OpenAttribute) marked m ts (Some (with_names ns m, w.0)) refl (starts_is symbol.OpenAttribute ts a.0 a.1.0 a.1.1 a.1.2) (marked_again m ns ts w.0 w.1)
    ∙ turns_again i (with_names ns m) all w.0 rest (omega (arith, l, marked_shorter ns ts w.0 w.1)) w.2 s

pub attributes_again : (all : List (List Identifier)) (ts rest : List Terminal) → AreAttributes all ts rest → starts symbol.OpenAttribute rest ≡ false → attributes ts ≡ Some (marks_of all, rest)
unfolding attributes repeat
attributes_again all ts rest w s = turns_again (length ts) no_marks all ts rest (omega arith) w s

pub attributes_shorter : (all : List (List Identifier)) (ts rest : List Terminal) → AreAttributes all ts rest → length rest ≤ length ts
attributes_shorter [] ts rest w = omega (arith, ap length w)
attributes_shorter (ns ∷ all) ts rest w = omega (arith, marked_shorter ns ts w.0 w.1, attributes_shorter all w.0 rest w.2)

-- ---- what they say

or_assoc : (a b c : Bool) → ((a || b) || c) ≡ (a || (b || c))
or_assoc true b c = refl
or_assoc false b c = refl

or_false : (a : Bool) → (a || false) ≡ a
or_false true = refl
or_false false = refl

full_names : (ns : List Identifier) (m : Marks) → (with_names ns m).full ≡ (m.full || list_any (λ n. bytes_eq n.text (codes "full_case")) ns)
full_names [] m = sym (or_false m.full)
full_names (n ∷ ns) m = full_names ns (with_name n.text m) ∙ or_assoc m.full (bytes_eq n.text (codes "full_case")) (list_any (λ x. bytes_eq x.text (codes "full_case")) ns)

parallel_names : (ns : List Identifier) (m : Marks) → (with_names ns m).parallel ≡ (m.parallel || list_any (λ n. bytes_eq n.text (codes "parallel_case")) ns)
parallel_names [] m = sym (or_false m.parallel)
parallel_names (n ∷ ns) m =
    parallel_names ns (with_name n.text m) ∙ or_assoc m.parallel (bytes_eq n.text (codes "parallel_case")) (list_any (λ x. bytes_eq x.text (codes "parallel_case")) ns)

full_all : (all : List (List Identifier)) (m : Marks) → (with_all all m).full ≡ (m.full || names (codes "full_case") all)
full_all [] m = sym (or_false m.full)
full_all (ns ∷ all) m =
    full_all all (with_names ns m)
    ∙ ap (λ o. o || names (codes "full_case") all) (full_names ns m)
    ∙ or_assoc m.full (list_any (λ n. bytes_eq n.text (codes "full_case")) ns) (names (codes "full_case") all)

parallel_all : (all : List (List Identifier)) (m : Marks) → (with_all all m).parallel ≡ (m.parallel || names (codes "parallel_case") all)
parallel_all [] m = sym (or_false m.parallel)
parallel_all (ns ∷ all) m =
    parallel_all all (with_names ns m)
    ∙ ap (λ o. o || names (codes "parallel_case") all) (parallel_names ns m)
    ∙ or_assoc m.parallel (list_any (λ n. bytes_eq n.text (codes "parallel_case")) ns) (names (codes "parallel_case") all)

pub full_said : (all : List (List Identifier)) → (marks_of all).full ≡ names (codes "full_case") all
full_said all = full_all all no_marks

pub parallel_said : (all : List (List Identifier)) → (marks_of all).parallel ≡ names (codes "parallel_case") all
parallel_said all = parallel_all all no_marks
