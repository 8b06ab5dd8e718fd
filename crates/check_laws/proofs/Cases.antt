-- What case statements without findings are.
use Rattle.std.proofs.Common.{◌≡◌, ◌∙◌, ◌⊎◌, Bool, true, List, [], ◌∷◌, ◌++◌, sym, ap, subst, inl, inr}
use Rattle.std.specs.List.{All, list_all}
use Rattle.std.proofs.lemmas.Bool.{and_from, and_parts, false≢true, not-true, not_from_false, true_from_ne_false}
use Rattle.std.proofs.lemmas.List.Elements.{All-append, All-cons, All-nil}
use Rattle.rtl_bits.specs.declared.Bit.{Bit}
use Rattle.rtl_flat.specs.declared.act.CaseKind.{CaseKind}
use Rattle.rtl_flat.specs.Expression.{Tree}
use Rattle.rtl_flat.specs.Flows.{complete_by_labels, labels_of, literal}
use Rattle.rtl_flat.specs.Process.{Action, Set, If, Case, Block, Actions, Otherwise, Without, With, Branches, NoBranch, Branch, Doing, Assign, Comb, Edge'}
use Rattle.net_laws.specs.Rules.{AreApart, AreDisjoint, HasDisjoint, IsFull}
use Rattle.net_laws.proofs.Literals.{form_of}
use Rattle.rtl_rule.specs.Parts.{all_of, statements}
use Rattle.rtl_flat.specs.Flats.{Flat, widths}
use Rattle.check_case.specs.Cases.{IsFullCase, IsParallelCase, all_disjoint, are_disjoint, disjoint_from, full_case_at, is_false_full, is_false_parallel, items_disjoint, parallel_case_at, some_differ}
use Rattle.check_laws.specs.Cases.{Does, FullCase, ParallelCase}
use Rattle.rtl_rule.proofs.Lists.{Each, each_all}
use Rattle.check_laws.proofs.Sites.{refuted_in}
use Rattle.check_laws.proofs.Statements.{each_of}

-- the statements of a body are those of its process
pub of_body : (P : Action → Type 0) (does : Doing) (body : Actions) → Does does body → Each P (statements does) → Each P (all_of body)
of_body P (Assign target value) body is h = absurd is
of_body P (Comb list own) body is h = subst (λ b. Each P (all_of b)) is h
of_body P (Edge' events own) body is h = subst (λ b. Each P (all_of b)) is h

-- ---- C1

pub full_case : (d : Flat) → FullCase d
full_case d none p body is =
    each_of (IsFull d) (λ a. is_false_full (widths d) a ≡ true → ⊥) (λ b. tt) of_one body
    (of_body (λ a. is_false_full (widths d) a ≡ true → ⊥) is.task.does body is.does (refuted_in (IsFullCase d) (full_case_at d) statements d none p is.task is.there))
  where
    of_case : (kind : CaseKind) (full parallel : Bool) (selector : Tree) (branches : Branches) (fallback : Otherwise) (spot : _) → (is_false_full (widths d) (Case kind full parallel selector branches fallback spot) ≡ true → ⊥) → IsFull d (Case kind full parallel selector branches fallback spot)
    of_case kind full parallel selector branches (With other) spot refutes = tt
    of_case kind full parallel selector branches Without spot refutes = λ says.
        true_from_ne_false (complete_by_labels (widths d) kind selector branches) (λ missing. refutes (and_from full _ says (not_from_false _ missing)))

    of_one : (a : Action) → (is_false_full (widths d) a ≡ true → ⊥) → IsFull d a
    of_one (Set target value delayed spot) refutes = tt
    of_one (If test taken other spot) refutes = tt
    of_one (Case kind full parallel selector branches fallback spot) refutes =
        of_case kind full parallel selector branches fallback spot refutes
    of_one (Block other) refutes = tt

-- ---- C2

apart : (a b : Tree) → are_disjoint a b ≡ true → AreApart a b
apart a b h = by_left (form_of a) (form_of b)
  where
    by_left : (literal a ≡ []) ⊎ ((bits : List Bit) × (literal a ≡ bits ∷ [])) → (literal b ≡ []) ⊎ ((bits : List Bit) × (literal b ≡ bits ∷ [])) → AreApart a b
    by_left (inl e) right = absurd (false≢true (sym (ap (λ l. some_differ l (literal b)) e) ∙ h))
    by_left (inr (left, e)) (inl e') =
        absurd (false≢true (sym (ap (λ l. some_differ (left ∷ []) l) e') ∙ sym (ap (λ l. some_differ l (literal b)) e) ∙ h))
    by_left (inr (left, e)) (inr (right, e')) =
        record {
          left = left;
          right = right;
          is_left = e;
          is_right = e';
          differ = not-true _ (sym (ap (λ l. some_differ (left ∷ []) l) e') ∙ sym (ap (λ l. some_differ l (literal b)) e) ∙ h);
        }

all_apart : (a : Tree) (others : List Tree) → list_all (are_disjoint a) others ≡ true → All (AreApart a) others
all_apart a [] h = All-nil (AreApart a)
all_apart a (b ∷ others) h =
    let (here, there) = and_parts (are_disjoint a b) (list_all (are_disjoint a) others) h in
    All-cons (AreApart a) b others (apart a b here) (all_apart a others there)

items_apart : (labels others : List Tree) (rest : Branches) → items_disjoint labels others ≡ true → Each (λ a. All (AreApart a) (labels_of rest)) labels → Each (λ a. All (AreApart a) (others ++ labels_of rest)) labels
items_apart [] others rest h more = tt
items_apart (a ∷ labels) others rest h more =
    let (here, there) = and_parts (list_all (are_disjoint a) others) (items_disjoint labels others) h in
    (All-append (AreApart a) others (labels_of rest) (all_apart a others here) more.0, items_apart labels others rest there more.1)

from_apart : (labels : List Tree) (branches : Branches) → disjoint_from labels branches ≡ true → Each (λ a. All (AreApart a) (labels_of branches)) labels
from_apart labels NoBranch h = each_nil labels
  where
    each_nil : (all : List Tree) → Each (λ a. All (AreApart a) []) all
    each_nil [] = tt
    each_nil (a ∷ all) = (All-nil (AreApart a), each_nil all)
from_apart labels (Branch others body rest) h =
    let (here, there) = and_parts (items_disjoint labels others) (disjoint_from labels rest) h in
    items_apart labels others rest here (from_apart labels rest there)

disjoint : (branches : Branches) → all_disjoint branches ≡ true → AreDisjoint branches
disjoint NoBranch h = tt
disjoint (Branch labels body others) h =
    let (here, there) = and_parts (disjoint_from labels others) (all_disjoint others) h in
    (each_all (λ a. All (AreApart a) (labels_of others)) labels (from_apart labels others here), disjoint others there)

pub parallel_case : (d : Flat) → ParallelCase d
parallel_case d none p body is =
    each_of HasDisjoint (λ a. is_false_parallel a ≡ true → ⊥) (λ b. tt) of_one body
    (of_body (λ a. is_false_parallel a ≡ true → ⊥) is.task.does body is.does (refuted_in IsParallelCase (parallel_case_at d) statements d none p is.task is.there))
  where
    of_one : (a : Action) → (is_false_parallel a ≡ true → ⊥) → HasDisjoint a
    of_one (Set target value delayed spot) refutes = tt
    of_one (If test taken other spot) refutes = tt
    of_one (Case kind full parallel selector branches fallback spot) refutes = λ says.
        disjoint branches (true_from_ne_false (all_disjoint branches) (λ missing. refutes (and_from parallel _ says (not_from_false _ missing))))
    of_one (Block other) refutes = tt
