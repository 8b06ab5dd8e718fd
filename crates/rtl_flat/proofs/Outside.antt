-- A bit that a process reads is read outside, or the process may write it.
use Rattle.std.proofs.Common.{◌≡◌, ◌∙◌, ◌⊎◌, ℕ, Bool, true, false, not, ◌&&◌, ◌||◌, List, [], ◌∷◌, Option, None, Some, sym, inl, inr}
use Rattle.std.proofs.lemmas.Bool.{and_from, and_parts, cases_Bool, false≢true, not_from_false, or_cases, or_left, or_right}
use Rattle.rtl_flat.specs.Flows.{action_then, body_flow, flow_of, is_complete, may_select, may_target, other_flow, reads, selects, targets, way_past, ways}
use Rattle.rtl_flat.specs.Paths.{Step, Flow, End, Do, Fork, Ways, Last, More, MayWrite, ReadsOutside, every, every_way, first, first_way, may_read, may_write, may_write_bit, reads_bit, reads_outside, some, some_way, writes_now}
use Rattle.rtl_flat.specs.Process.{Piece, Selection, Whole, BitAt, BitBy, Part, Action, Set, If, Case, Block, Actions, Done, Then, Otherwise, Without, With, Branches, NoBranch, Branch, Doing, Assign, Comb, Edge'}
use Rattle.rtl_flat.proofs.Flows.{some_action}
use Rattle.rtl_flat.proofs.Paths.{decided}

pub or_map : (a b c e : Bool) → (a ≡ true → c ≡ true) → (b ≡ true → e ≡ true) → (a || b) ≡ true → (c || e) ≡ true
or_map a b c e left right h =
    elim (or_cases a b h) [ inl here ↦ or_left c e (left here) | inr there ↦ or_right c e (right there) ]

-- whether a test passes in a way that may be left out
abbrev pub some_of : (Step → Bool) → Option Flow → Bool
some_of f None = false
some_of f (Some way) = some f way

-- ---- flows

module _ (f g : Step → Bool) where
  mutual
    every_some : (flow : Flow) → every g flow ≡ true → some g flow ≡ true
    every_some End h = h
    every_some (Do step rest) h =
        or_map (g step) (every g rest) (g step) (some g rest) (λ is. is) (every_some rest) h
    every_some (Fork all rest) h =
        or_map (every_way g all) (every g rest) (some_way g all) (some g rest) (every_some_way all) (every_some rest) h

    every_some_way : (all : Ways) → every_way g all ≡ true → some_way g all ≡ true
    every_some_way (Last flow) h = every_some flow h
    every_some_way (More flow others) h =
        or_left (some g flow) (some_way g others) (every_some flow (and_parts (every g flow) (every_way g others) h).0)

  -- what passes one test somewhere passes it first, or something passes the other
  mutual
    first_or_other : (flow : Flow) → some f flow ≡ true → (first f g flow ≡ true) ⊎ (some g flow ≡ true)
    first_or_other End h = inl h
    first_or_other (Do step rest) h =
        elim (or_cases (f step) (some f rest) h) [
          | inl here ↦ inl (or_left (f step) (not (g step) && first f g rest) here)
          | inr there ↦ elim (cases_Bool (g step)) [
            | inl covered ↦ inr (or_left (g step) (some g rest) covered)
            | inr uncovered ↦ elim (first_or_other rest there) [
              | inl later ↦ inl (or_right (f step) (not (g step) && first f g rest) (and_from (not (g step)) (first f g rest) (not_from_false (g step) uncovered) later))
              | inr other ↦ inr (or_right (g step) (some g rest) other)
            ]
          ]
        ]
    first_or_other (Fork all rest) h =
        elim (or_cases (some_way f all) (some f rest) h) [
          | inl here ↦ elim (first_or_other_way all here) [
            | inl now ↦ inl (or_left (first_way f g all) (not (every_way g all) && first f g rest) now)
            | inr other ↦ inr (or_left (some_way g all) (some g rest) other)
          ]
          | inr there ↦ elim (cases_Bool (every_way g all)) [
            | inl covered ↦ inr (or_left (some_way g all) (some g rest) (every_some_way all covered))
            | inr uncovered ↦ elim (first_or_other rest there) [
              | inl later ↦ inl (or_right (first_way f g all) (not (every_way g all) && first f g rest) (and_from (not (every_way g all)) (first f g rest) (not_from_false (every_way g all) uncovered) later))
              | inr other ↦ inr (or_right (some_way g all) (some g rest) other)
            ]
          ]
        ]

    first_or_other_way : (all : Ways) → some_way f all ≡ true → (first_way f g all ≡ true) ⊎ (some_way g all ≡ true)
    first_or_other_way (Last flow) h = first_or_other flow h
    first_or_other_way (More flow others) h =
        elim (or_cases (some f flow) (some_way f others) h) [
          | inl here ↦ elim (first_or_other flow here) [
            | inl now ↦ inl (or_left (first f g flow) (first_way f g others) now)
            | inr other ↦ inr (or_left (some g flow) (some_way g others) other)
          ]
          | inr there ↦ elim (first_or_other_way others there) [
            | inl now ↦ inl (or_right (first f g flow) (first_way f g others) now)
            | inr other ↦ inr (or_right (some g flow) (some_way g others) other)
          ]
        ]

-- ---- bodies: what is written whatever an index is may be written

module _ (ws : ℕ → ℕ) (i k : ℕ) where
  part_may : (signal : ℕ) (selection : Selection) → selects ws signal selection i k ≡ true → may_select ws signal selection i k ≡ true
  part_may signal Whole h = h
  part_may signal (BitAt low index) h = h
  part_may signal (BitBy low index) h = absurd (false≢true h)
  part_may signal (Part low width) h = h

  pub target_may : (target : List Piece) → targets ws target i k ≡ true → may_target ws target i k ≡ true
  target_may [] h = h
  target_may (piece ∷ others) h =
      or_map (selects ws piece.signal piece.selection i k) (targets ws others i k) (may_select ws piece.signal piece.selection i k) (may_target ws others i k)
      (part_may piece.signal piece.selection) (target_may others) h

  abbrev sure : Step → Bool
  sure = writes_now i k

  abbrev may : Step → Bool
  may = may_write_bit i k

  mutual
    action_may : (a : Action) → some sure (action_then ws a End) ≡ true → some may (action_then ws a End) ≡ true
    action_may (Set target e delayed spot) h =
        or_map (not delayed && targets ws target i k) false (may_target ws target i k) false
        (λ is. target_may target (and_parts (not delayed) (targets ws target i k) is).1) (λ is. is) h
    action_may (If test taken other spot) h =
        or_map (some sure (other_flow ws other) || some sure (body_flow ws taken)) false (some may (other_flow ws other) || some may (body_flow ws taken)) false
        (or_map (some sure (other_flow ws other)) (some sure (body_flow ws taken)) (some may (other_flow ws other)) (some may (body_flow ws taken)) (other_may other) (body_may taken))
        (λ is. is) h
    action_may (Case kind full parallel selector branches fallback spot) h =
        let complete = is_complete ws kind full selector branches in
        let past = way_past ws complete fallback in
        or_map (some_way sure (ways ws past branches)) false (some_way may (ways ws past branches)) false
        (items_may past (past_may complete fallback (other_may fallback)) branches) (λ is. is) h
    action_may (Block body) h = body_may body h

    body_may : (body : Actions) → some sure (body_flow ws body) ≡ true → some may (body_flow ws body) ≡ true
    body_may Done h = h
    body_may (Then one others) h =
        some_action may ws one (body_flow ws others)
        ∙ or_map (some sure (action_then ws one End)) (some sure (body_flow ws others)) (some may (action_then ws one End)) (some may (body_flow ws others))
        (action_may one) (body_may others) (sym (some_action sure ws one (body_flow ws others)) ∙ h)

    other_may : (other : Otherwise) → some sure (other_flow ws other) ≡ true → some may (other_flow ws other) ≡ true
    other_may Without h = h
    other_may (With body) h = body_may body h

    past_may :
        (complete : Bool) (fallback : Otherwise) → (some sure (other_flow ws fallback) ≡ true → some may (other_flow ws fallback) ≡ true) →
        some_of sure (way_past ws complete fallback) ≡ true → some_of may (way_past ws complete fallback) ≡ true
    past_may complete (With body) inner h = inner h
    past_may true Without inner h = h
    past_may false Without inner h = h

    items_may :
        (past : Option Flow) → (some_of sure past ≡ true → some_of may past ≡ true) → (branches : Branches) →
        some_way sure (ways ws past branches) ≡ true → some_way may (ways ws past branches) ≡ true
    items_may (Some way) inner NoBranch h = inner h
    items_may None inner NoBranch h = h
    items_may (Some way) inner (Branch labels body others) h =
        or_map (some sure way) (some_way sure (ways ws (Some (body_flow ws body)) others)) (some may way) (some_way may (ways ws (Some (body_flow ws body)) others))
        inner (items_may (Some (body_flow ws body)) (body_may body) others) h
    items_may None inner (Branch labels body others) h =
        items_may (Some (body_flow ws body)) (body_may body) others h

  outside_or_may :
      (body : Actions) → may_read (body_flow ws body) i k ≡ true →
      (reads_outside (body_flow ws body) i k ≡ true) ⊎ (may_write (body_flow ws body) i k ≡ true)
  outside_or_may body h =
      elim (first_or_other (reads_bit i k) (writes_now i k) (body_flow ws body) h) [
        | inl outside ↦ inl outside
        | inr written ↦ inr (body_may body written)
      ]

  pub read_or_written :
      (body : Actions) → may_read (body_flow ws body) i k ≡ true →
      ReadsOutside (body_flow ws body) i k ⊎ MayWrite (body_flow ws body) i k
  read_or_written body h =
      elim (outside_or_may body h) [
        | inl outside ↦ inl ((decided (body_flow ws body) i k).outside.0 outside)
        | inr written ↦ inr ((decided (body_flow ws body) i k).writes.0 written)
      ]

  -- the same of a process, as tests
  pub read_or_written_by :
      (does : Doing) → may_read (flow_of ws does) i k ≡ true →
      (reads_outside (flow_of ws does) i k ≡ true) ⊎ (may_write (flow_of ws does) i k ≡ true)
  read_or_written_by (Assign target value) h =
      elim (or_cases (reads ws value i k) false h) [
        | inl read ↦ inl (or_left (reads ws value i k) _ read)
        | inr none ↦ absurd (false≢true none)
      ]
  read_or_written_by (Comb list body) h = outside_or_may body h
  read_or_written_by (Edge' events body) h = outside_or_may body h

-- a bit that is read outside is read
module _ (f g : Step → Bool) where
  mutual
    pub first_some : (flow : Flow) → first f g flow ≡ true → some f flow ≡ true
    first_some End h = h
    first_some (Do step rest) h =
        or_map (f step) (not (g step) && first f g rest) (f step) (some f rest) (λ is. is)
        (λ later. first_some rest (and_parts (not (g step)) (first f g rest) later).1) h
    first_some (Fork all rest) h =
        or_map (first_way f g all) (not (every_way g all) && first f g rest) (some_way f all) (some f rest) (first_some_way all)
        (λ later. first_some rest (and_parts (not (every_way g all)) (first f g rest) later).1) h

    first_some_way : (all : Ways) → first_way f g all ≡ true → some_way f all ≡ true
    first_some_way (Last flow) h = first_some flow h
    first_some_way (More flow others) h =
        or_map (first f g flow) (first_way f g others) (some f flow) (some_way f others) (first_some flow) (first_some_way others) h
