-- From known values the run of a tame body takes a path of the body.
use Rattle.std.proofs.Common.{◌≡◌, ◌∙◌, ◌⊎◌, ℕ, Bool, true, false, ◌||◌, if◌then◌else◌, List, [], ◌++◌, Option, None, Some, refl, sym, subst, inl, inr}
use Rattle.std.proofs.lemmas.Bool.{false≢true, or_cases}
use Rattle.std.proofs.lemmas.List.{append-nil, append_assoc}
use Rattle.std.proofs.lemmas.List.Folds.{list_any-append}
use Rattle.rtl_bits.specs.declared.Bit.{Bit}
use Rattle.rtl_bits.specs.Bit.{is_one}
use Rattle.rtl_bits.specs.Bits.{truth_bit}
use Rattle.rtl_flat.specs.declared.act.CaseKind.{CaseKind}
use Rattle.rtl_flat.specs.Expression.{Tree}
use Rattle.rtl_flat.specs.Flows.{action_then, actions_then, body_flow, complete_by_labels, is_complete, labels_of, other_flow, way_past, ways}
use Rattle.rtl_flat.specs.Labels.{label_matches}
use Rattle.rtl_flat.specs.Paths.{Step, Flow, End, Last, More, IsPath, IsWay}
use Rattle.rtl_flat.specs.Process.{Action, Set, If, Case, Block, Actions, Done, Then, Otherwise, Without, With, Branches, NoBranch, Branch}
use Rattle.rtl_flat.specs.Signs.{IsExpression}
use Rattle.rtl_flat.specs.Value.{value}
use Rattle.rtl_flat.specs.WellFormed.{AreBranches, IsAction, IsBody, IsOtherwise}
use Rattle.event_model.specs.Bodies.{after_made, made, some_matches}
use Rattle.rtl_flat.specs.Flats.{Flat, widths}
use Rattle.event_model.specs.Traces.{FollowsPath, body_trace, branches_trace, other_trace, trace}
use Rattle.event_model.specs.Writes.{Values}
use Rattle.net_model.specs.Numbers.{AreNumbers}
use Rattle.net_laws.specs.Tame.{AreTame, AreTameItems, IsFirm, IsHonest, IsTame, IsTameOther}
use Rattle.net_laws.proofs.Covered.{covered}
use Rattle.net_laws.proofs.Numbers.{numbers_action}

-- ---- the ways of a case

-- the way that takes no item is one of them
past_way : (ws : ℕ → ℕ) (way : Flow) (branches : Branches) (path : List Step) → IsPath way path → IsWay (ways ws (Some way) branches) path
past_way ws way NoBranch path is = is
past_way ws way (Branch labels body others) path is = inl is

-- and so is the first item
first_way : (ws : ℕ → ℕ) (past : Option Flow) (labels : List Tree) (body : Actions) (others : Branches) (path : List Step) → IsPath (body_flow ws body) path → IsWay (ways ws past (Branch labels body others)) path
first_way ws (Some way) labels body others path is =
    inr (past_way ws (body_flow ws body) others path is)
first_way ws None labels body others path is = past_way ws (body_flow ws body) others path is

-- and each further one
later_way : (ws : ℕ → ℕ) (past : Option Flow) (labels : List Tree) (body : Actions) (others : Branches) (path : List Step) → IsWay (ways ws (Some (body_flow ws body)) others) path → IsWay (ways ws past (Branch labels body others)) path
later_way ws (Some way) labels body others path is = inr is
later_way ws None labels body others path is = is

-- no item matches, or the steps are one of the items' ways, whatever the way past them is
abbrev InItems : (ℕ → ℕ) → Bool → List Step → List Step → Branches → Type 0
InItems ws matches none path branches =
    ((path ≡ none) × (matches ≡ false)) ⊎ ((past : Option Flow) → IsWay (ways ws past branches) path)

one_item :
    (ws : ℕ → ℕ) (here there : Bool) (labels : List Tree) (body : Actions) (others : Branches) (none p q : List Step) →
    IsPath (body_flow ws body) p → InItems ws there none q others →
    InItems ws (here || there) none (if here then p else q) (Branch labels body others)
one_item ws true there labels body others none p q is later =
    inr (λ past. first_way ws past labels body others p is)
one_item ws false there labels body others none p q is (inl same) = inl same
one_item ws false there labels body others none p q is (inr way) =
    inr (λ past. later_way ws past labels body others q (way (Some (body_flow ws body))))

either_way : (b : Bool) (other taken : Flow) (p q : List Step) → IsPath taken p → IsPath other q → IsWay (More other (Last taken)) (if b then p else q)
either_way true other taken p q left right = inr left
either_way false other taken p q left right = inl right

-- a path with nothing behind it
closed : (flow : Flow) (path : List Step) → IsPath flow (path ++ []) → IsPath flow path
closed flow path is = subst (IsPath flow) (append-nil path) is

module _ (d : Flat) where
  -- where no item of an honest case matches there is a way past them
  by_fallback :
      (v : Values) → AreNumbers d v → (kind : CaseKind) (full : Bool) (selector : Tree) (branches : Branches) (fallback : Otherwise) →
      IsExpression d.signals selector → AreBranches d.signals selector branches → IsFirm d selector → IsHonest d kind full selector branches fallback →
      IsPath (other_flow (widths d) fallback) (other_trace (widths d) v fallback) →
      some_matches kind v (value v selector) (labels_of branches) ≡ false →
      IsWay (ways (widths d) (way_past (widths d) (is_complete (widths d) kind full selector branches) fallback) branches) (other_trace (widths d) v fallback)
  by_fallback v are kind full selector branches (With body) sized lawful firm honest is unmatched =
      past_way (widths d) (body_flow (widths d) body) branches (body_trace (widths d) v body) is
  by_fallback v are kind full selector branches Without sized lawful firm honest is unmatched =
      by_complete (is_complete (widths d) kind full selector branches) refl
    where
      by_complete : (complete : Bool) → is_complete (widths d) kind full selector branches ≡ complete → IsWay (ways (widths d) (way_past (widths d) complete Without) branches) []
      by_complete false e = past_way (widths d) End branches [] refl
      by_complete true e =
          let whole : complete_by_labels (widths d) kind selector branches ≡ true
          = elim (or_cases full (complete_by_labels (widths d) kind selector branches) e) [ inl promised ↦ honest promised | inr whole ↦ whole ] in
          absurd (false≢true (sym unmatched ∙ covered d v are kind selector branches sized lawful firm whole))

  mutual
    action_follows :
        (v : Values) → AreNumbers d v → (a : Action) → IsAction d.signals a → IsTame d a → (rest : Flow) (after : List Step) → IsPath rest after →
        IsPath (action_then (widths d) a rest) (trace (widths d) v a ++ after)
    action_follows v are (Set target e delayed spot) lawful tame rest after is = (_, refl, (_, refl, is))
    action_follows v are (If test taken other spot) lawful tame rest after is =
        let ws = widths d in
        let chosen = is_one (truth_bit (value v test)) in (
          _,
          refl,
          (
            if chosen then body_trace ws v taken else other_trace ws v other,
            after,
            refl,
            either_way chosen (other_flow ws other) (body_flow ws taken) (body_trace ws v taken) (other_trace ws v other) (closed (body_flow (widths d) taken) (body_trace (widths d) v taken) (body_follows v are taken lawful.1 tame.1 End [] refl))
                (other_follows v are other lawful.2 tame.2),
            is,
          ),
        )
    action_follows v are (Case kind full parallel selector branches fallback spot) lawful tame rest after is =
        let ws = widths d in
        let none = other_trace ws v fallback in
        let path = branches_trace ws v kind (value v selector) none branches in
        let past = way_past ws (is_complete ws kind full selector branches) fallback in (
          _,
          refl,
          (
            path,
            after,
            refl,
            by_item past path none (items_follow v are kind selector (value v selector) none branches lawful.1 tame.2)
                (by_fallback v are kind full selector branches fallback lawful.0 lawful.1 tame.0 tame.1 (other_follows v are fallback lawful.2 tame.3)),
            is,
          ),
        )
      where
        by_item :
            (past : Option Flow) (path none : List Step) → InItems (widths d) (some_matches kind v (value v selector) (labels_of branches)) none path branches →
            (some_matches kind v (value v selector) (labels_of branches) ≡ false → IsWay (ways (widths d) past branches) none) →
            IsWay (ways (widths d) past branches) path
        by_item past path none (inl same) otherwise =
            subst (IsWay (ways (widths d) past branches)) (sym same.0) (otherwise same.1)
        by_item past path none (inr way) otherwise = way past
    action_follows v are (Block body) lawful tame rest after is =
        body_follows v are body lawful tame rest after is

    body_follows :
        (v : Values) → AreNumbers d v → (body : Actions) → IsBody d.signals body → AreTame d body → (rest : Flow) (after : List Step) → IsPath rest after →
        IsPath (actions_then (widths d) body rest) (body_trace (widths d) v body ++ after)
    body_follows v are Done lawful tame rest after is = is
    body_follows v are (Then first others) lawful tame rest after is =
        let ws = widths d in
        let next = after_made v (made ws v first) in
        let later = body_follows next (numbers_action d v are first lawful.0 tame.0) others lawful.1 tame.1 rest after is in
        subst (IsPath (action_then ws first (actions_then ws others rest))) (sym (append_assoc (trace ws v first) (body_trace ws next others) after))
        (action_follows v are first lawful.0 tame.0 (actions_then ws others rest) (body_trace ws next others ++ after) later)

    other_follows :
        (v : Values) → AreNumbers d v → (other : Otherwise) → IsOtherwise d.signals other → IsTameOther d other →
        IsPath (other_flow (widths d) other) (other_trace (widths d) v other)
    other_follows v are Without lawful tame = refl
    other_follows v are (With body) lawful tame =
        closed (body_flow (widths d) body) (body_trace (widths d) v body) (body_follows v are body lawful tame End [] refl)

    items_follow :
        (v : Values) → AreNumbers d v → (kind : CaseKind) (selector : Tree) (bits : List Bit) (none : List Step) (branches : Branches) →
        AreBranches d.signals selector branches → AreTameItems d branches →
        InItems (widths d) (some_matches kind v bits (labels_of branches)) none (branches_trace (widths d) v kind bits none branches) branches
    items_follow v are kind selector bits none NoBranch lawful tame = inl (refl, refl)
    items_follow v are kind selector bits none (Branch labels body others) lawful tame =
        let ws = widths d in
        let here = some_matches kind v bits labels in
        let there = some_matches kind v bits (labels_of others) in
        let path = if here then body_trace ws v body else branches_trace ws v kind bits none others in
        subst (λ b. InItems ws b none path (Branch labels body others)) (sym (list_any-append (λ (label : Tree). label_matches kind bits (value v label)) labels (labels_of others)))
        (one_item ws here there labels body others none (body_trace ws v body) (branches_trace ws v kind bits none others) (closed (body_flow (widths d) body) (body_trace (widths d) v body) (body_follows v are body lawful.3 tame.1 End [] refl))
        (items_follow v are kind selector bits none others lawful.4 tame.2))

  pub body_path : (v : Values) → AreNumbers d v → (body : Actions) → IsBody d.signals body → AreTame d body → FollowsPath (widths d) v body
  body_path v are body lawful tame =
      closed (body_flow (widths d) body) (body_trace (widths d) v body) (body_follows v are body lawful tame End [] refl)
