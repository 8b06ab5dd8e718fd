-- A body that writes nothing late and whose nonblocking assignments may each write some bit has no such assignment.
use Rattle.std.proofs.Common.{◌≡◌, ◌∙◌, ℕ, Bool, true, false, Option, None, Some, refl, arith}
use Rattle.std.proofs.lemmas.Bool.{or_left, or_right}
use Rattle.rtl_flat.specs.Flows.{action_then, body_flow, is_complete, other_flow, way_past, ways}
use Rattle.rtl_flat.specs.Paths.{Flow, Ways, End, may_write_late, some, some_way}
use Rattle.rtl_flat.specs.Process.{Action, Set, If, Case, Block, Actions, Done, Then, Otherwise, Without, With, Branches, NoBranch, Branch}
use Rattle.rtl_flat.proofs.Flows.{some_action}
use Rattle.event_model.specs.Policies.{nonblocking, nonblocking_branches, nonblocking_in, nonblocking_other}
use Rattle.event_settling.specs.Conditions.{AllSelect, AllSelectBranches, AllSelectIn, AllSelectOther}

-- no path has a late write
abbrev NoLate : Flow → Type 0
NoLate flow = (i k : ℕ) → some (may_write_late i k) flow ≡ true → ⊥

abbrev NoLateWay : Ways → Type 0
NoLateWay all = (i k : ℕ) → some_way (may_write_late i k) all ≡ true → ⊥

module _ (ws : ℕ → ℕ) where
  -- the first of the ways is one of them
  way_in :
      (i k : ℕ) (way : Flow) (branches : Branches) → some (may_write_late i k) way ≡ true →
      some_way (may_write_late i k) (ways ws (Some way) branches) ≡ true
  way_in i k way NoBranch h = h
  way_in i k way (Branch labels body others) h =
      or_left (some (may_write_late i k) way) (some_way (may_write_late i k) (ways ws (Some (body_flow ws body)) others)) h

  mutual
    none_action : (one : Action) → AllSelect ws one → NoLate (action_then ws one End) → nonblocking one ≡ 0
    none_action (Set target value false spot) select none = refl
    none_action (Set target value true spot) select none =
        let some' = select refl in
        absurd (none some'.signal some'.bit (or_left _ false some'.may))
    none_action (If test taken other spot) select none =
        let a = none_in taken select.0 (λ i k h. none i k (or_left _ false (or_right (some (may_write_late i k) (other_flow ws other)) (some (may_write_late i k) (body_flow ws taken)) h))) in
        let b = none_other other select.1 (λ i k h. none i k (or_left _ false (or_left (some (may_write_late i k) (other_flow ws other)) (some (may_write_late i k) (body_flow ws taken)) h))) in
        omega (arith, a, b)
    none_action (Case kind full parallel selector branches fallback spot) select none =
        let past = way_past ws (is_complete ws kind full selector branches) fallback in
        let a = none_branches branches select.0 past (λ i k h. none i k (or_left _ false h)) in
        let b = none_fallback fallback select.1 (is_complete ws kind full selector branches) branches (λ i k h. none i k (or_left _ false h)) in
        omega (arith, a, b)
    none_action (Block body) select none = none_in body select none

    pub none_in : (body : Actions) → AllSelectIn ws body → NoLate (body_flow ws body) → nonblocking_in body ≡ 0
    none_in Done select none = refl
    none_in (Then first others) select none =
        let a = none_action first select.0 (λ i k h. none i k (some_action (may_write_late i k) ws first (body_flow ws others) ∙ or_left (some (may_write_late i k) (action_then ws first End)) (some (may_write_late i k) (body_flow ws others)) h)) in
        let b = none_in others select.1 (λ i k h. none i k (some_action (may_write_late i k) ws first (body_flow ws others) ∙ or_right (some (may_write_late i k) (action_then ws first End)) (some (may_write_late i k) (body_flow ws others)) h)) in
        omega (arith, a, b)

    none_other : (other : Otherwise) → AllSelectOther ws other → NoLate (other_flow ws other) → nonblocking_other other ≡ 0
    none_other Without select none = refl
    none_other (With body) select none = none_in body select none

    none_fallback :
        (other : Otherwise) → AllSelectOther ws other → (complete : Bool) (branches : Branches) →
        NoLateWay (ways ws (way_past ws complete other) branches) → nonblocking_other other ≡ 0
    none_fallback Without select complete branches none = refl
    none_fallback (With body) select complete branches none =
        none_in body select (λ i k h. none i k (way_in i k (body_flow ws body) branches h))

    none_branches :
        (branches : Branches) → AllSelectBranches ws branches → (past : Option Flow) → NoLateWay (ways ws past branches) →
        nonblocking_branches branches ≡ 0
    none_branches NoBranch select past none = refl
    none_branches (Branch labels body others) select (Some way) none =
        let a = none_in body select.0 (λ i k h. none i k (or_right (some (may_write_late i k) way) _ (way_in i k (body_flow ws body) others h))) in
        let b = none_branches others select.1 (Some (body_flow ws body)) (λ i k h. none i k (or_right (some (may_write_late i k) way) _ h)) in
        omega (arith, a, b)
    none_branches (Branch labels body others) select None none =
        let a = none_in body select.0 (λ i k h. none i k (way_in i k (body_flow ws body) others h)) in
        let b = none_branches others select.1 (Some (body_flow ws body)) none in
        omega (arith, a, b)
