-- What every path of a body writes at once.
use Rattle.std.proofs.Common.{◌≡◌, ◌∙◌, ℕ, Bool, true, false, not, ◌&&◌, ◌||◌, List, [], ◌∷◌, Option, None, Some, sym, inl, inr}
use Rattle.std.proofs.lemmas.Bool.{and_from, and_parts, or_left, or_right}
use Rattle.rtl_flat.specs.Flows.{action_then, body_flow, is_complete, may_select, may_target, other_flow, selects, targets, way_past, ways}
use Rattle.rtl_flat.specs.Paths.{Step, Flow, End, Ways, every, every_way, first, first_way, may_write_now, reads_bit, some, some_way, writes_now}
use Rattle.rtl_flat.specs.Process.{Action, Set, If, Case, Block, Actions, Done, Then, Otherwise, Without, With, Branches, NoBranch, Branch}
use Rattle.rtl_flat.proofs.Flows.{every_action, some_action}
use Rattle.rtl_flat.proofs.Outside.{or_map, target_may}

-- ---- the ways of a case

-- every item writes a bit at once
abbrev pub AllSure : (ℕ → ℕ) → ℕ → ℕ → Branches → Type 0
AllSure ws i k NoBranch = Unit {0}
AllSure ws i k (Branch labels body others) =
    (every (writes_now i k) (body_flow ws body) ≡ true) × AllSure ws i k others

pub past_sure : (ws : ℕ → ℕ) (i k : ℕ) (way : Flow) (branches : Branches) → every_way (writes_now i k) (ways ws (Some way) branches) ≡ true → every (writes_now i k) way ≡ true
past_sure ws i k way NoBranch h = h
past_sure ws i k way (Branch labels body others) h =
    (and_parts (every (writes_now i k) way) (every_way (writes_now i k) (ways ws (Some (body_flow ws body)) others)) h).0

pub ways_sure : (ws : ℕ → ℕ) (i k : ℕ) (past : Option Flow) (branches : Branches) → every_way (writes_now i k) (ways ws past branches) ≡ true → AllSure ws i k branches
ways_sure ws i k None NoBranch h = tt
ways_sure ws i k (Some way) NoBranch h = tt
ways_sure ws i k None (Branch labels body others) h =
    (past_sure ws i k (body_flow ws body) others h, ways_sure ws i k (Some (body_flow ws body)) others h)
ways_sure ws i k (Some way) (Branch labels body others) h =
    let rest = (and_parts (every (writes_now i k) way) (every_way (writes_now i k) (ways ws (Some (body_flow ws body)) others)) h).1 in
    (past_sure ws i k (body_flow ws body) others rest, ways_sure ws i k (Some (body_flow ws body)) others rest)

-- ---- what is read before it is written

-- each bit that a flow reads before it writes it at once is one of some bits
abbrev pub Reads : (ℕ → ℕ → Type 0) → Flow → Type 0
Reads Q flow = (i k : ℕ) → first (reads_bit i k) (writes_now i k) flow ≡ true → Q i k

abbrev pub ReadsWays : (ℕ → ℕ → Type 0) → Ways → Type 0
ReadsWays Q all = (i k : ℕ) → first_way (reads_bit i k) (writes_now i k) all ≡ true → Q i k

-- the same of each item
abbrev pub AllRead : (ℕ → ℕ → Type 0) → (ℕ → ℕ) → Branches → Type 0
AllRead Q ws NoBranch = Unit {0}
AllRead Q ws (Branch labels body others) = Reads Q (body_flow ws body) × AllRead Q ws others

pub past_reads : (Q : ℕ → ℕ → Type 0) (ws : ℕ → ℕ) (way : Flow) (branches : Branches) → ReadsWays Q (ways ws (Some way) branches) → Reads Q way
past_reads Q ws way NoBranch all = all
past_reads Q ws way (Branch labels body others) all =
    λ i k h. all i k (or_left (first (reads_bit i k) (writes_now i k) way) _ h)

pub ways_read : (Q : ℕ → ℕ → Type 0) (ws : ℕ → ℕ) (past : Option Flow) (branches : Branches) → ReadsWays Q (ways ws past branches) → AllRead Q ws branches
ways_read Q ws None NoBranch all = tt
ways_read Q ws (Some way) NoBranch all = tt
ways_read Q ws None (Branch labels body others) all =
    (past_reads Q ws (body_flow ws body) others all, ways_read Q ws (Some (body_flow ws body)) others all)
ways_read Q ws (Some way) (Branch labels body others) all =
    let rest : ReadsWays Q (ways ws (Some (body_flow ws body)) others) = λ i k h. all i k (or_right (first (reads_bit i k) (writes_now i k) way) _ h) in
    (past_reads Q ws (body_flow ws body) others rest, ways_read Q ws (Some (body_flow ws body)) others rest)

-- ---- it may be written at once

module _ (ws : ℕ → ℕ) (i k : ℕ) where
  abbrev sure : Step → Bool
  sure = writes_now i k

  abbrev may : Step → Bool
  may = may_write_now i k

  abbrev every_of : Option Flow → Type 0
  every_of None = Unit {0}
  every_of (Some way) = every sure way ≡ true → some may way ≡ true

  mutual
    pub action_sure : (a : Action) → every sure (action_then ws a End) ≡ true → some may (action_then ws a End) ≡ true
    action_sure (Set target e delayed spot) h =
        or_map (not delayed && targets ws target i k) false (not delayed && may_target ws target i k) false
        (λ is.
        let parts = and_parts (not delayed) (targets ws target i k) is in
        and_from (not delayed) (may_target ws target i k) parts.0 (target_may ws i k target parts.1)) (λ is. is) h
    action_sure (If test taken other spot) h =
        or_map (every sure (other_flow ws other) && every sure (body_flow ws taken)) false (some may (other_flow ws other) || some may (body_flow ws taken)) false
        (λ is.
        or_right (some may (other_flow ws other)) (some may (body_flow ws taken))
        (body_sure taken (and_parts (every sure (other_flow ws other)) (every sure (body_flow ws taken)) is).1))
        (λ is. is) h
    action_sure (Case kind full parallel selector branches fallback spot) h =
        let past = way_past ws (is_complete ws kind full selector branches) fallback in
        or_map (every_way sure (ways ws past branches)) false (some_way may (ways ws past branches)) false
        (items_sure past (past_may (is_complete ws kind full selector branches) fallback) branches) (λ is. is) h
    action_sure (Block body) h = body_sure body h

    body_sure : (body : Actions) → every sure (body_flow ws body) ≡ true → some may (body_flow ws body) ≡ true
    body_sure Done h = h
    body_sure (Then one others) h =
        some_action may ws one (body_flow ws others)
        ∙ or_map (every sure (action_then ws one End)) (every sure (body_flow ws others)) (some may (action_then ws one End)) (some may (body_flow ws others))
        (action_sure one) (body_sure others) (sym (every_action sure ws one (body_flow ws others)) ∙ h)

    past_may : (complete : Bool) (fallback : Otherwise) → every_of (way_past ws complete fallback)
    past_may complete (With body) = body_sure body
    past_may true Without = tt
    past_may false Without = λ h. h

    items_sure : (past : Option Flow) → every_of past → (branches : Branches) → every_way sure (ways ws past branches) ≡ true → some_way may (ways ws past branches) ≡ true
    items_sure (Some way) inner NoBranch h = inner h
    items_sure None inner NoBranch h = h
    items_sure (Some way) inner (Branch labels body others) h =
        or_left (some may way) (some_way may (ways ws (Some (body_flow ws body)) others))
        (inner (and_parts (every sure way) (every_way sure (ways ws (Some (body_flow ws body)) others)) h).0)
    items_sure None inner (Branch labels body others) h =
        items_sure (Some (body_flow ws body)) (body_sure body) others h
