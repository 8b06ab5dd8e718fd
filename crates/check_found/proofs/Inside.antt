-- What a process reads, writes and lists lies inside its signals.
use Rattle.std.proofs.Common.{◌≡◌, ◌+◌, ◌<◌, ◌==◌, ◌&&◌, ◌||◌, not, nat_le, nat_lt, ℕ, Bool, true, false, List, [], ◌∷◌, Option, None, Some, refl, sym, subst, inl, inr}
use Rattle.std.proofs.lemmas.Bool.{and_parts, eqb-true, false≢true, ltb-true, or_cases, or_left, or_right}
use Rattle.rtl_flat.specs.Expression.{Tree, Sized, Literal, Turned, Joined, Compared, Linked, Folded, Shifted, Chosen, Empty, Beside, Repeated, Recast}
use Rattle.rtl_flat.specs.Expression as tree
use Rattle.rtl_flat.specs.Flows.{action_then, actions_then, all_bits, bit_at, body_flow, flow_of, index_reads, is_complete, labels_of, may_select, may_target, other_flow, reads, reads_all, selects, span, target_reads, targets, way_past, ways}
use Rattle.rtl_flat.specs.Paths.{BitSet, Step, Read, Write, Flow, End, Do, Fork, Ways, Last, More, either, every, every_way, first, first_way, is_sure, may_read, may_write, may_write_bit, reads_bit, reads_outside, some, some_way, writes_bit, writes_now}
use Rattle.rtl_flat.specs.PathSets.{items_list, listed}
use Rattle.rtl_flat.specs.Process.{Piece, Selection, Whole, BitAt, BitBy, Part, Watched, Action, Set, If, Case, Block, Actions, Done, Then, Otherwise, Without, With, Branches, NoBranch, Branch, Doing, Assign, Comb, Edge'}

-- whether a set has bits of signals alone
abbrev pub IsInside : (ℕ → ℕ) → BitSet → Type 0
IsInside ws bits = (s k : ℕ) → bits s k ≡ true → k < ws s

-- ---- sets

at_signal : (ws : ℕ → ℕ) (signal s k : ℕ) → (s == signal) ≡ true → nat_lt k (ws signal) ≡ true → k < ws s
at_signal ws signal s k here below =
    subst (λ j. k < ws j) (sym (eqb-true s signal here)) (ltb-true k (ws signal) below)

span_inside : (ws : ℕ → ℕ) (signal low high : ℕ) → IsInside ws (span ws signal low high)
span_inside ws signal low high s k is =
    let (here, inside) = and_parts (s == signal) _ is in
    let (from, below) = and_parts (nat_le low k) _ inside in
    let (below_high, below_width) = and_parts (nat_lt k high) _ below in
    at_signal ws signal s k here below_width

bit_inside : (ws : ℕ → ℕ) (signal low : ℕ) (index : _) → IsInside ws (bit_at ws signal low index)
bit_inside ws signal low index s k is =
    let (here, inside) = and_parts (s == signal) _ is in
    let (below, place) = and_parts (nat_lt k (ws signal)) _ inside in
    at_signal ws signal s k here below

either_inside : (ws : ℕ → ℕ) (a b : BitSet) → IsInside ws a → IsInside ws b → IsInside ws (either a b)
either_inside ws a b left right s k is =
    elim (or_cases (a s k) (b s k) is) [
      | inl here ↦ left s k here
      | inr there ↦ right s k there
    ]

none_inside : (ws : ℕ → ℕ) → IsInside ws (λ s k. false)
none_inside ws s k is = absurd (false≢true is)

-- ---- expressions and targets

module _ (ws : ℕ → ℕ) where
  pub reads_inside : (e : Tree) → IsInside ws (reads ws e)
  reads_inside (Sized width signed spot e) = reads_inside e
  reads_inside (Literal bits) = none_inside ws
  reads_inside (tree.Whole i) = span_inside ws i 0 (ws i)
  reads_inside (tree.BitAt i low index) = bit_inside ws i low index
  reads_inside (tree.BitBy i low signed index) =
      either_inside ws (reads ws index) (all_bits ws i) (reads_inside index) (span_inside ws i 0 (ws i))
  reads_inside (tree.Part i low width) = span_inside ws i low (low + width)
  reads_inside (Turned operator a) = reads_inside a
  reads_inside (Joined operator signed a b) =
      either_inside ws (reads ws a) (reads ws b) (reads_inside a) (reads_inside b)
  reads_inside (Compared operator signed a b) =
      either_inside ws (reads ws a) (reads ws b) (reads_inside a) (reads_inside b)
  reads_inside (Linked operator a b) =
      either_inside ws (reads ws a) (reads ws b) (reads_inside a) (reads_inside b)
  reads_inside (Folded operator a) = reads_inside a
  reads_inside (Shifted operator signed a amount) =
      either_inside ws (reads ws a) (reads ws amount) (reads_inside a) (reads_inside amount)
  reads_inside (Chosen c a b) =
      either_inside ws (reads ws c) (either (reads ws a) (reads ws b)) (reads_inside c)
      (either_inside ws (reads ws a) (reads ws b) (reads_inside a) (reads_inside b))
  reads_inside Empty = none_inside ws
  reads_inside (Beside a others) =
      either_inside ws (reads ws a) (reads ws others) (reads_inside a) (reads_inside others)
  reads_inside (Repeated times a) = reads_inside a
  reads_inside (Recast a) = reads_inside a

  labels_inside : (labels : List Tree) → IsInside ws (reads_all ws labels)
  labels_inside [] = none_inside ws
  labels_inside (label ∷ others) =
      either_inside ws (reads ws label) (reads_all ws others) (reads_inside label) (labels_inside others)

  index_inside : (selection : Selection) → IsInside ws (index_reads ws selection)
  index_inside Whole = none_inside ws
  index_inside (BitAt low index) = none_inside ws
  index_inside (BitBy low index) = reads_inside index
  index_inside (Part low width) = none_inside ws

  indices_inside : (target : List Piece) → IsInside ws (target_reads ws target)
  indices_inside [] = none_inside ws
  indices_inside (piece ∷ others) =
      either_inside ws (index_reads ws piece.selection) (target_reads ws others) (index_inside piece.selection) (indices_inside others)

  part_inside : (signal : ℕ) (selection : Selection) → IsInside ws (may_select ws signal selection)
  part_inside signal Whole = span_inside ws signal 0 (ws signal)
  part_inside signal (BitAt low index) = bit_inside ws signal low index
  part_inside signal (BitBy low index) = span_inside ws signal 0 (ws signal)
  part_inside signal (Part low width) = span_inside ws signal low (low + width)

  known_inside : (signal : ℕ) (selection : Selection) → IsInside ws (selects ws signal selection)
  known_inside signal Whole = span_inside ws signal 0 (ws signal)
  known_inside signal (BitAt low index) = bit_inside ws signal low index
  known_inside signal (BitBy low index) = none_inside ws
  known_inside signal (Part low width) = span_inside ws signal low (low + width)

  pub target_inside : (target : List Piece) → IsInside ws (may_target ws target)
  target_inside [] = none_inside ws
  target_inside (piece ∷ others) =
      either_inside ws (may_select ws piece.signal piece.selection) (may_target ws others) (part_inside piece.signal piece.selection) (target_inside others)

  targets_inside : (target : List Piece) → IsInside ws (targets ws target)
  targets_inside [] = none_inside ws
  targets_inside (piece ∷ others) =
      either_inside ws (selects ws piece.signal piece.selection) (targets ws others) (known_inside piece.signal piece.selection) (targets_inside others)

  items_inside : (items : List Watched) → IsInside ws (items_list ws items)
  items_inside [] = none_inside ws
  items_inside (item ∷ others) =
      either_inside ws (may_select ws item.signal item.selection) (items_list ws others) (part_inside item.signal item.selection) (items_inside others)

-- ---- steps

-- a step that reads and writes inside
pub data StepInside (ws : ℕ → ℕ) : Step → Type 0 where
  ReadsInside : (bits : BitSet) → IsInside ws bits → StepInside ws (Read bits)
  WritesInside : (delayed : Bool) (may sure : BitSet) → IsInside ws may → IsInside ws sure → StepInside ws (Write delayed may sure)

-- what follows from each step that passes a test follows where some step of a process does
module _ (f : Step → Bool) (P : Type 0) (ws : ℕ → ℕ) (on_step : (step : Step) → StepInside ws step → f step ≡ true → P) where
  first_or : (a b : Bool) → (a || b) ≡ true → (a ≡ true → P) → (b ≡ true → P) → P
  first_or a b h left right =
      elim (or_cases a b h) [
        | inl here ↦ left here
        | inr there ↦ right there
      ]

  on_read : (bits : BitSet) → IsInside ws bits → f (Read bits) ≡ true → P
  on_read bits inside h = on_step (Read bits) (ReadsInside bits inside) h

  on_write : (target : List Piece) (delayed : Bool) → f (Write delayed (may_target ws target) (targets ws target)) ≡ true → P
  on_write target delayed h =
      on_step (Write delayed (may_target ws target) (targets ws target))
      (WritesInside delayed (may_target ws target) (targets ws target) (target_inside ws target) (targets_inside ws target)) h

  abbrev some_of : Option Flow → Bool
  some_of None = false
  some_of (Some flow) = some f flow

  past_items : (complete : Bool) (fallback : Otherwise) → (some f (other_flow ws fallback) ≡ true → P) → some_of (way_past ws complete fallback) ≡ true → P
  past_items complete (With body) found h = found h
  past_items true Without found h = absurd (false≢true h)
  past_items false Without found h = absurd (false≢true h)

  nothing : false ≡ true → P
  nothing h = absurd (false≢true h)

  mutual
    found_action : (a : Action) (rest : Flow) → (some f rest ≡ true → P) → some f (action_then ws a rest) ≡ true → P
    found_action (Set target e delayed spot) rest past h =
        let bits = either (reads ws e) (target_reads ws target) in
        let write = Write delayed (may_target ws target) (targets ws target) in
        first_or (f (Read bits)) (f write || some f rest) h
        (on_read bits (either_inside ws (reads ws e) (target_reads ws target) (reads_inside ws e) (indices_inside ws target)))
        (λ later. first_or (f write) (some f rest) later (on_write target delayed) past)
    found_action (If test taken other spot) rest past h =
        let fork = some_way f (More (other_flow ws other) (Last (body_flow ws taken))) in
        first_or (f (Read (reads ws test))) (fork || some f rest) h (on_read (reads ws test) (reads_inside ws test))
        (λ later. first_or fork (some f rest) later
        (λ here. first_or (some f (other_flow ws other)) (some f (body_flow ws taken)) here (found_other other) (found taken End nothing)) past)
    found_action (Case kind full parallel selector branches fallback spot) rest past h =
        let bits = either (reads ws selector) (reads_all ws (labels_of branches)) in
        let complete = is_complete ws kind full selector branches in
        let fork = some_way f (ways ws (way_past ws complete fallback) branches) in
        first_or (f (Read bits)) (fork || some f rest) h
        (on_read bits (either_inside ws (reads ws selector) (reads_all ws (labels_of branches)) (reads_inside ws selector) (labels_inside ws (labels_of branches))))
        (λ later. first_or fork (some f rest) later
        (found_items branches (way_past ws complete fallback) (past_items complete fallback (found_other fallback))) past)
    found_action (Block body) rest past h = found body rest past h

    found : (body : Actions) (rest : Flow) → (some f rest ≡ true → P) → some f (actions_then ws body rest) ≡ true → P
    found Done rest past h = past h
    found (Then one others) rest past h =
        found_action one (actions_then ws others rest) (found others rest past) h

    found_other : (other : Otherwise) → some f (other_flow ws other) ≡ true → P
    found_other Without h = absurd (false≢true h)
    found_other (With body) h = found body End nothing h

    found_items : (branches : Branches) (way : Option Flow) → (some_of way ≡ true → P) → some_way f (ways ws way branches) ≡ true → P
    found_items NoBranch (Some way) past h = past h
    found_items NoBranch None past h = absurd (false≢true h)
    found_items (Branch labels body others) (Some way) past h =
        first_or (some f way) (some_way f (ways ws (Some (body_flow ws body)) others)) h past
        (found_items others (Some (body_flow ws body)) (found body End nothing))
    found_items (Branch labels body others) None past h =
        found_items others (Some (body_flow ws body)) (found body End nothing) h

  found_body : (body : Actions) → some f (body_flow ws body) ≡ true → P
  found_body body h = found body End nothing h

  some_step : (does : Doing) → some f (flow_of ws does) ≡ true → P
  some_step (Assign target e) h =
      let write = Write false (may_target ws target) (targets ws target) in
      first_or (f (Read (reads ws e))) (f write || false) h (on_read (reads ws e) (reads_inside ws e))
      (λ later. first_or (f write) false later (on_write target false) (λ none. absurd (false≢true none)))
  some_step (Comb list body) h = found_body body h
  some_step (Edge' events body) h = found_body body h

-- ---- what holds on every path, or before something, holds on some path

or_map : (a b c : Bool) → (b ≡ true → c ≡ true) → (a || b) ≡ true → (a || c) ≡ true
or_map true b c from h = refl
or_map false b c from h = from h

either_map : (a b c d : Bool) → (a ≡ true → b ≡ true) → (c ≡ true → d ≡ true) → (a || c) ≡ true → (b || d) ≡ true
either_map true b c d from from' h = or_left b d (from refl)
either_map false b c d from from' h = or_right b d (from' h)

mutual
  every_some : (f : Step → Bool) (b : Flow) → every f b ≡ true → some f b ≡ true
  every_some f End h = h
  every_some f (Do step rest) h = or_map (f step) (every f rest) (some f rest) (every_some f rest) h
  every_some f (Fork fork rest) h =
      either_map (every_way f fork) (some_way f fork) (every f rest) (some f rest) (every_some_way f fork) (every_some f rest) h

  every_some_way : (f : Step → Bool) (fork : Ways) → every_way f fork ≡ true → some_way f fork ≡ true
  every_some_way f (Last flow) h = every_some f flow h
  every_some_way f (More flow others) h =
      or_left (some f flow) (some_way f others) (every_some f flow (and_parts (every f flow) (every_way f others) h).0)

mutual
  first_some : (f g : Step → Bool) (b : Flow) → first f g b ≡ true → some f b ≡ true
  first_some f g End h = h
  first_some f g (Do step rest) h =
      or_map (f step) (not (g step) && first f g rest) (some f rest)
      (λ later. first_some f g rest (and_parts (not (g step)) (first f g rest) later).1) h
  first_some f g (Fork fork rest) h =
      either_map (first_way f g fork) (some_way f fork) (not (every_way g fork) && first f g rest) (some f rest)
      (first_some_way f g fork)
      (λ later. first_some f g rest (and_parts (not (every_way g fork)) (first f g rest) later).1) h

  first_some_way : (f g : Step → Bool) (fork : Ways) → first_way f g fork ≡ true → some_way f fork ≡ true
  first_some_way f g (Last flow) h = first_some f g flow h
  first_some_way f g (More flow others) h =
      either_map (first f g flow) (some f flow) (first_way f g others) (some_way f others) (first_some f g flow) (first_some_way f g others) h

-- ---- processes

module _ (ws : ℕ → ℕ) (does : Doing) where
  pub written_inside : IsInside ws (may_write (flow_of ws does))
  written_inside s k h = some_step (may_write_bit s k) (k < ws s) ws of_step does h
    where
      of_step : (step : Step) → StepInside ws step → may_write_bit s k step ≡ true → k < ws s
      of_step (Read bits) inside is = absurd (false≢true is)
      of_step (Write _ _ _) (WritesInside delayed may sure in_may in_sure) is = in_may s k is

  pub surely_inside : IsInside ws (is_sure (flow_of ws does))
  surely_inside s k h =
      some_step (writes_bit s k) (k < ws s) ws of_step does (every_some (writes_bit s k) (flow_of ws does) h)
    where
      of_step : (step : Step) → StepInside ws step → writes_bit s k step ≡ true → k < ws s
      of_step (Read bits) inside is = absurd (false≢true is)
      of_step (Write _ _ _) (WritesInside delayed may sure in_may in_sure) is = in_sure s k is

  pub read_inside : IsInside ws (may_read (flow_of ws does))
  read_inside s k h = some_step (reads_bit s k) (k < ws s) ws of_step does h
    where
      of_step : (step : Step) → StepInside ws step → reads_bit s k step ≡ true → k < ws s
      of_step (Read _) (ReadsInside bits inside) is = inside s k is
      of_step (Write delayed may sure) inside is = absurd (false≢true is)

  pub outside_inside : IsInside ws (reads_outside (flow_of ws does))
  outside_inside s k h =
      read_inside s k (first_some (reads_bit s k) (writes_now s k) (flow_of ws does) h)

pub listed_inside : (ws : ℕ → ℕ) (does : Doing) → IsInside ws (listed ws does)
listed_inside ws (Assign target value) = none_inside ws
listed_inside ws (Comb None body) = read_inside ws (Comb None body)
listed_inside ws (Comb (Some items) body) = items_inside ws items
listed_inside ws (Edge' events body) = items_inside ws events
