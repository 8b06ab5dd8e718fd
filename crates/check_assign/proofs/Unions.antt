-- What a body may write, as what its statements may.
use Rattle.std.proofs.Common.{ℕ, ◌≡◌, ◌∙◌, Bool, true, false, ◌&&◌, ◌||◌, List, [], ◌∷◌, ◌++◌, Some, None, Option, refl, sym, ap}
use Rattle.std.specs.List.{list_any}
use Rattle.rtl_flat.specs.Process.{Action, Set, If, Case, Block, Actions, Done, Then, Otherwise, Without, With, Branches, NoBranch, Branch}
use Rattle.rtl_flat.specs.Paths.{BitSet, Step, Read, Write, Flow, End, some, some_way, may_write_late, may_write_now}
use Rattle.rtl_flat.specs.Flows.{may_target, targets, action_then, actions_then, other_flow, way_past, ways, is_complete}
use Rattle.rtl_flat.proofs.Flows.{some_action}
use Rattle.rtl_rule.specs.Parts.{agree, all_in, all_of, all_other, all_branches}
use Rattle.check_assign.specs.Marks.{own_writes}

or_assoc : (a b c : Bool) → ((a || b) || c) ≡ (a || (b || c))
or_assoc true b c = refl
or_assoc false b c = refl

or_comm : (a b : Bool) → (a || b) ≡ (b || a)
or_comm true true = refl
or_comm true false = refl
or_comm false true = refl
or_comm false false = refl

pub or_false : (a : Bool) → (a || false) ≡ a
or_false true = refl
or_false false = refl

pub any_append : {A : Type 0} (test : A → Bool) (xs ys : List A) → list_any test (xs ++ ys) ≡ (list_any test xs || list_any test ys)
any_append test [] ys = refl
any_append test (x ∷ xs) ys =
    ap (λ t. test x || t) (any_append test xs ys) ∙ sym (or_assoc (test x) (list_any test xs) (list_any test ys))

-- a way that may be none
abbrev past : (Step → Bool) → Option Flow → Bool
past f None = false
past f (Some way) = some f way

module _ (f : Step → Bool) (kind : Bool → Bool) (ws : ℕ → ℕ) (s k : ℕ) (reads_none : (bits : BitSet) → f (Read bits) ≡ false) (writes_is : (delayed : Bool) (may sure : BitSet) → f (Write delayed may sure) ≡ (kind delayed && may s k)) where
  abbrev own : Action → Bool
  own = own_writes kind ws s k

  mutual
    in_action : (a : Action) → some f (action_then ws a End) ≡ list_any own (all_in a)
    in_action (Set target value delayed spot) =
        ap (λ t. t || (f (Write delayed (may_target ws target) (targets ws target)) || false)) (reads_none _)
        ∙ ap (λ t. t || false) (writes_is delayed (may_target ws target) (targets ws target))
    in_action (If test taken other spot) =
        ap (λ t. t || ((some f (other_flow ws other) || some f (actions_then ws taken End)) || false)) (reads_none _)
        ∙ or_false (some f (other_flow ws other) || some f (actions_then ws taken End))
        ∙ or_comm (some f (other_flow ws other)) (some f (actions_then ws taken End))
        ∙ ap (λ t. t || some f (other_flow ws other)) (in_actions taken)
        ∙ ap (λ t. list_any own (all_of taken) || t) (in_other other)
        ∙ sym (any_append own (all_of taken) (all_other other))
    in_action (Case kind' full parallel selector branches fallback spot) =
        let way = way_past ws (is_complete ws kind' full selector branches) fallback in
        ap (λ t. t || (some_way f (ways ws way branches) || false)) (reads_none _)
        ∙ or_false (some_way f (ways ws way branches))
        ∙ in_ways way branches
        ∙ ap (λ t. t || list_any own (all_branches branches)) (in_past (is_complete ws kind' full selector branches) fallback)
        ∙ or_comm (list_any own (all_other fallback)) (list_any own (all_branches branches))
        ∙ sym (any_append own (all_branches branches) (all_other fallback))
    in_action (Block body) = in_actions body

    in_actions : (b : Actions) → some f (actions_then ws b End) ≡ list_any own (all_of b)
    in_actions Done = refl
    in_actions (Then first others) =
        some_action f ws first (actions_then ws others End)
        ∙ ap (λ t. t || some f (actions_then ws others End)) (in_action first)
        ∙ ap (λ t. list_any own (all_in first) || t) (in_actions others)
        ∙ sym (any_append own (all_in first) (all_of others))

    in_other : (o : Otherwise) → some f (other_flow ws o) ≡ list_any own (all_other o)
    in_other Without = refl
    in_other (With body) = in_actions body

    in_past : (complete : Bool) (o : Otherwise) → past f (way_past ws complete o) ≡ list_any own (all_other o)
    in_past complete (With body) = in_actions body
    in_past true Without = refl
    in_past false Without = refl

    in_ways : (way : Option Flow) (bs : Branches) → some_way f (ways ws way bs) ≡ (past f way || list_any own (all_branches bs))
    in_ways None NoBranch = refl
    in_ways (Some way) NoBranch = sym (or_false (some f way))
    in_ways None (Branch labels body others) =
        in_ways (Some (actions_then ws body End)) others
        ∙ ap (λ t. t || list_any own (all_branches others)) (in_actions body)
        ∙ sym (any_append own (all_of body) (all_branches others))
    in_ways (Some way) (Branch labels body others) =
        ap (λ t. some f way || t) (in_ways (Some (actions_then ws body End)) others
        ∙ ap (λ t. t || list_any own (all_branches others)) (in_actions body)
        ∙ sym (any_append own (all_of body) (all_branches others)))

-- what a body may write by nonblocking assignments, and by blocking ones
pub late_is : (ws : ℕ → ℕ) (s k : ℕ) (body : Actions) → some (may_write_late s k) (actions_then ws body End) ≡ list_any (own_writes (agree true) ws s k) (all_of body)
late_is ws s k body =
    in_actions (may_write_late s k) (agree true) ws s k (λ bits. refl) (λ delayed may sure. refl) body

pub now_is : (ws : ℕ → ℕ) (s k : ℕ) (body : Actions) → some (may_write_now s k) (actions_then ws body End) ≡ list_any (own_writes (agree false) ws s k) (all_of body)
now_is ws s k body =
    in_actions (may_write_now s k) (agree false) ws s k (λ bits. refl) (λ delayed may sure. refl) body
