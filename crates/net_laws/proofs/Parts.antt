-- What holds of the steps of a body holds of those of its parts.
use Rattle.std.proofs.Common.{◌≡◌, ◌∙◌, ℕ, Bool, true, false, ◌||◌, List, Option, None, Some}
use Rattle.std.proofs.lemmas.Bool.{false≢true, or_left, or_right}
use Rattle.text_ground.specs.declared.text.Spot.{Spot}
use Rattle.rtl_flat.specs.declared.act.CaseKind.{CaseKind}
use Rattle.rtl_flat.specs.Expression.{Tree}
use Rattle.rtl_flat.specs.Flows.{action_then, body_flow, is_complete, labels_of, other_flow, reads, reads_all, way_past, ways}
use Rattle.rtl_flat.specs.Paths.{Step, Read, Flow, End, either, some, some_way}
use Rattle.rtl_flat.specs.Process.{Action, If, Case, Actions, Then, Otherwise, Without, With, Branches, NoBranch, Branch}
use Rattle.rtl_flat.proofs.Flows.{some_action}

-- a bit that some step passes a test at is one of some bits
abbrev pub Gives : (ℕ → ℕ → Step → Bool) → (ℕ → ℕ → Type 0) → Flow → Type 0
Gives test Q flow = (i k : ℕ) → some (test i k) flow ≡ true → Q i k

-- the same of the items of a case
abbrev pub GivesItems : (ℕ → ℕ) → (ℕ → ℕ → Step → Bool) → (ℕ → ℕ → Type 0) → Branches → Type 0
GivesItems ws test Q branches =
    (i k : ℕ) → some_way (test i k) (ways ws None branches) ≡ true → Q i k

lift_past : (f : Step → Bool) (ws : ℕ → ℕ) (past : Option Flow) (branches : Branches) → some_way f (ways ws None branches) ≡ true → some_way f (ways ws past branches) ≡ true
lift_past f ws None branches h = h
lift_past f ws (Some way) NoBranch h = absurd (false≢true h)
lift_past f ws (Some way) (Branch labels body others) h =
    or_right (some f way) (some_way f (ways ws (Some (body_flow ws body)) others)) h

in_past : (f : Step → Bool) (ws : ℕ → ℕ) (way : Flow) (branches : Branches) → some f way ≡ true → some_way f (ways ws (Some way) branches) ≡ true
in_past f ws way NoBranch h = h
in_past f ws way (Branch labels body others) h =
    or_left (some f way) (some_way f (ways ws (Some (body_flow ws body)) others)) h

module _ (ws : ℕ → ℕ) (test : ℕ → ℕ → Step → Bool) (Q : ℕ → ℕ → Type 0) where
  pub first_gives : (first : Action) (others : Actions) → Gives test Q (body_flow ws (Then first others)) → Gives test Q (action_then ws first End)
  first_gives first others all i k h =
      all i k (some_action (test i k) ws first (body_flow ws others) ∙ or_left (some (test i k) (action_then ws first End)) _ h)

  pub others_give : (first : Action) (others : Actions) → Gives test Q (body_flow ws (Then first others)) → Gives test Q (body_flow ws others)
  others_give first others all i k h =
      all i k (some_action (test i k) ws first (body_flow ws others) ∙ or_right (some (test i k) (action_then ws first End)) _ h)

  pub taken_gives :
      (e : Tree) (taken : Actions) (other : Otherwise) (spot : Spot) → Gives test Q (action_then ws (If e taken other spot) End) →
      Gives test Q (body_flow ws taken)
  taken_gives e taken other spot all i k h =
      let f = test i k in
      all i k (or_right (f (Read (reads ws e))) _ (or_left (some f (other_flow ws other) || some f (body_flow ws taken)) false (or_right (some f (other_flow ws other)) (some f (body_flow ws taken)) h)))

  pub other_gives :
      (e : Tree) (taken : Actions) (other : Otherwise) (spot : Spot) → Gives test Q (action_then ws (If e taken other spot) End) →
      Gives test Q (other_flow ws other)
  other_gives e taken other spot all i k h =
      let f = test i k in
      all i k (or_right (f (Read (reads ws e))) _ (or_left (some f (other_flow ws other) || some f (body_flow ws taken)) false (or_left (some f (other_flow ws other)) (some f (body_flow ws taken)) h)))

  module _ (kind : CaseKind) (full parallel : Bool) (selector : Tree) (branches : Branches) (fallback : Otherwise) (spot : Spot) (all : Gives test Q (action_then ws (Case kind full parallel selector branches fallback spot) End)) where
    in_ways : (i k : ℕ) → some_way (test i k) (ways ws (way_past ws (is_complete ws kind full selector branches) fallback) branches) ≡ true → Q i k
    in_ways i k h =
        all i k (or_right (test i k (Read (either (reads ws selector) (reads_all ws (labels_of branches))))) _ (or_left _ false h))

    pub items_give : GivesItems ws test Q branches
    items_give i k h =
        in_ways i k (lift_past (test i k) ws (way_past ws (is_complete ws kind full selector branches) fallback) branches h)

    pub fallback_gives : Gives test Q (other_flow ws fallback)
    fallback_gives i k h = by_fallback fallback h (in_ways i k)
      where
        by_fallback :
            (past : Otherwise) → some (test i k) (other_flow ws past) ≡ true →
            (some_way (test i k) (ways ws (way_past ws (is_complete ws kind full selector branches) past) branches) ≡ true → Q i k) → Q i k
        by_fallback Without none found = absurd (false≢true none)
        by_fallback (With body) is found =
            found (in_past (test i k) ws (body_flow ws body) branches is)

  pub item_gives : (labels : List Tree) (body : Actions) (others : Branches) → GivesItems ws test Q (Branch labels body others) → Gives test Q (body_flow ws body)
  item_gives labels body others all i k h =
      all i k (in_past (test i k) ws (body_flow ws body) others h)

  pub later_give : (labels : List Tree) (body : Actions) (others : Branches) → GivesItems ws test Q (Branch labels body others) → GivesItems ws test Q others
  later_give labels body others all i k h =
      all i k (lift_past (test i k) ws (Some (body_flow ws body)) others h)
