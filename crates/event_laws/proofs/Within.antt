-- What a lawful body reads and writes lies inside its signals, and what it writes are variables.
use Rattle.std.proofs.Common.{◌≡◌, ◌∙◌, ◌+◌, ◌<◌, ◌==◌, ◌||◌, nat_le, nat_lt, ℕ, Bool, true, false, List, [], ◌∷◌, ◌++◌, Option, None, Some, All, refl, sym, subst, inl, inr}
use Rattle.std.proofs.lemmas.Bool.{and_parts, eqb-true, false≢true, ltb-true, or_cases}
use Rattle.std.proofs.lemmas.List.Elements.{All-head, All-tail}
use Rattle.rtl_flat.specs.declared.signal.Signal.{Signal}
use Rattle.rtl_flat.specs.declared.signal.Kind.TheVariants.{Var}
use Rattle.rtl_flat.specs.Expression.{Tree, Sized, Literal, Turned, Joined, Compared, Linked, Folded, Shifted, Chosen, Empty, Beside, Repeated, Recast}
use Rattle.rtl_flat.specs.Expression as tree
use Rattle.rtl_flat.specs.Flows.{action_then, all_bits, bit_at, body_flow, index_reads, is_complete, labels_of, may_select, may_target, other_flow, reads, reads_all, span, target_reads, way_past, ways}
use Rattle.rtl_flat.specs.Paths.{BitSet, Step, Read, Flow, End, Last, More, MayRead, MayWrite, ReadsOutside, either, may_write_bit, reads_bit, some, some_way}
use Rattle.rtl_flat.specs.Process.{Piece, Selection, Whole, BitAt, BitBy, Part, Action, Set, If, Case, Block, Actions, Done, Then, Otherwise, Without, With, Branches, NoBranch, Branch}
use Rattle.rtl_flat.specs.Signs.{Has, width_in}
use Rattle.rtl_flat.specs.WellFormed.{AreBranches, IsAction, IsAssignment, IsBody, IsOtherwise}
use Rattle.rtl_flat.proofs.Flows.{some_action}
use Rattle.rtl_flat.proofs.Outside.{some_of}
use Rattle.rtl_flat.proofs.Paths.{decided}
use Rattle.event_laws.proofs.Traced.{append_right, set_step}

-- ---- bits that are read or written lie inside their signals

-- whether a set has bits of signals alone
abbrev pub IsInside : (ℕ → ℕ) → BitSet → Type 0
IsInside ws bits = (i k : ℕ) → bits i k ≡ true → k < ws i

-- a bit of one signal
at_signal : (ws : ℕ → ℕ) (signal i k : ℕ) → (i == signal) ≡ true → nat_lt k (ws signal) ≡ true → k < ws i
at_signal ws signal i k here below =
    subst (λ j. k < ws j) (sym (eqb-true i signal here)) (ltb-true k (ws signal) below)

span_inside : (ws : ℕ → ℕ) (signal low high : ℕ) → IsInside ws (span ws signal low high)
span_inside ws signal low high i k is =
    let (here, inside) = and_parts (i == signal) _ is in
    let (from, below) = and_parts (nat_le low k) _ inside in
    let (below_high, below_width) = and_parts (nat_lt k high) _ below in
    at_signal ws signal i k here below_width

bit_inside : (ws : ℕ → ℕ) (signal low : ℕ) (index : _) → IsInside ws (bit_at ws signal low index)
bit_inside ws signal low index i k is =
    let (here, inside) = and_parts (i == signal) _ is in
    let (below, place) = and_parts (nat_lt k (ws signal)) _ inside in
    at_signal ws signal i k here below

either_inside : (ws : ℕ → ℕ) (a b : BitSet) → IsInside ws a → IsInside ws b → IsInside ws (either a b)
either_inside ws a b left right i k is =
    elim (or_cases (a i k) (b i k) is) [
      | inl here ↦ left i k here
      | inr there ↦ right i k there
    ]

none_inside : (ws : ℕ → ℕ) → IsInside ws (λ i k. false)
none_inside ws i k is = absurd (false≢true is)

module _ (ws : ℕ → ℕ) where
  pub reads_inside : (e : Tree) → IsInside ws (reads ws e)
  reads_inside (Sized width signed spot e) = reads_inside e
  reads_inside (Literal bits) = none_inside ws
  reads_inside (tree.Whole i) = span_inside ws i 0 (ws i)
  reads_inside (tree.BitAt i low index) = bit_inside ws i low index
  reads_inside (tree.BitBy i low signed index) =
      either_inside ws (reads ws index) (all_bits ws i) (reads_inside index) (span_inside ws i 0 (ws i))
  reads_inside (tree.Part i low width) = span_inside ws i low (low + width)
  reads_inside (Turned operator a) = reads_inside a
  reads_inside (Joined operator signed a b) =
      either_inside ws (reads ws a) (reads ws b) (reads_inside a) (reads_inside b)
  reads_inside (Compared operator signed a b) =
      either_inside ws (reads ws a) (reads ws b) (reads_inside a) (reads_inside b)
  reads_inside (Linked operator a b) =
      either_inside ws (reads ws a) (reads ws b) (reads_inside a) (reads_inside b)
  reads_inside (Folded operator a) = reads_inside a
  reads_inside (Shifted operator signed a amount) =
      either_inside ws (reads ws a) (reads ws amount) (reads_inside a) (reads_inside amount)
  reads_inside (Chosen c a b) =
      either_inside ws (reads ws c) (either (reads ws a) (reads ws b)) (reads_inside c)
      (either_inside ws (reads ws a) (reads ws b) (reads_inside a) (reads_inside b))
  reads_inside Empty = none_inside ws
  reads_inside (Beside a others) =
      either_inside ws (reads ws a) (reads ws others) (reads_inside a) (reads_inside others)
  reads_inside (Repeated times a) = reads_inside a
  reads_inside (Recast a) = reads_inside a

  labels_inside : (labels : List Tree) → IsInside ws (reads_all ws labels)
  labels_inside [] = none_inside ws
  labels_inside (label ∷ others) =
      either_inside ws (reads ws label) (reads_all ws others) (reads_inside label) (labels_inside others)

  index_inside : (selection : Selection) → IsInside ws (index_reads ws selection)
  index_inside Whole = none_inside ws
  index_inside (BitAt low index) = none_inside ws
  index_inside (BitBy low index) = reads_inside index
  index_inside (Part low width) = none_inside ws

  indices_inside : (target : List Piece) → IsInside ws (target_reads ws target)
  indices_inside [] = none_inside ws
  indices_inside (piece ∷ others) =
      either_inside ws (index_reads ws piece.selection) (target_reads ws others) (index_inside piece.selection) (indices_inside others)

  part_inside : (signal : ℕ) (selection : Selection) → IsInside ws (may_select ws signal selection)
  part_inside signal Whole = span_inside ws signal 0 (ws signal)
  part_inside signal (BitAt low index) = bit_inside ws signal low index
  part_inside signal (BitBy low index) = span_inside ws signal 0 (ws signal)
  part_inside signal (Part low width) = span_inside ws signal low (low + width)

  pub target_inside : (target : List Piece) → IsInside ws (may_target ws target)
  target_inside [] = none_inside ws
  target_inside (piece ∷ others) =
      either_inside ws (may_select ws piece.signal piece.selection) (may_target ws others) (part_inside piece.signal piece.selection) (target_inside others)

-- ---- a search through the steps of a lawful body

module _ (f : Step → Bool) (P : Type 0) (signals : List Signal) (on_read : (bits : BitSet) → IsInside (width_in signals) bits → f (Read bits) ≡ true → P) (on_write : (target : List Piece) (e : Tree) (delayed : Bool) → IsAssignment signals Var target e → f (set_step (width_in signals) target delayed) ≡ true → P) where
  first_or : {A : Type 0} (a b : Bool) → (a || b) ≡ true → (a ≡ true → A) → (b ≡ true → A) → A
  first_or a b h left right =
      elim (or_cases a b h) [
        | inl here ↦ left here
        | inr there ↦ right there
      ]

  no_more : (b : Bool) → (b || false) ≡ true → b ≡ true
  no_more true e = refl
  no_more false e = absurd (false≢true e)

  past_items : (complete : Bool) (fallback : Otherwise) → (some f (other_flow (width_in signals) fallback) ≡ true → P) → some_of f (way_past (width_in signals) complete fallback) ≡ true → P
  past_items complete (With body) found h = found h
  past_items true Without found h = absurd (false≢true h)
  past_items false Without found h = absurd (false≢true h)

  mutual
    found_action : (a : Action) → IsAction signals a → some f (action_then (width_in signals) a End) ≡ true → P
    found_action (Set target e delayed spot) lawful h =
        let ws = width_in signals in
        let bits = either (reads ws e) (target_reads ws target) in
        first_or (f (Read bits)) (f (set_step ws target delayed) || false) h
        (on_read bits (either_inside ws (reads ws e) (target_reads ws target) (reads_inside ws e) (indices_inside ws target)))
        (λ later. on_write target e delayed lawful (no_more (f (set_step ws target delayed)) later))
    found_action (If test taken other spot) lawful h =
        let ws = width_in signals in
        let fork = some_way f (More (other_flow ws other) (Last (body_flow ws taken))) in
        first_or (f (Read (reads ws test))) (fork || false) h (on_read (reads ws test) (reads_inside ws test))
        (λ later. first_or (some f (other_flow ws other)) (some f (body_flow ws taken)) (no_more fork later) (found_other other lawful.2) (found taken lawful.1))
    found_action (Case kind full parallel selector branches fallback spot) lawful h =
        let ws = width_in signals in
        let bits = either (reads ws selector) (reads_all ws (labels_of branches)) in
        let complete = is_complete ws kind full selector branches in
        let fork = some_way f (ways ws (way_past ws complete fallback) branches) in
        first_or (f (Read bits)) (fork || false) h
        (on_read bits (either_inside ws (reads ws selector) (reads_all ws (labels_of branches)) (reads_inside ws selector) (labels_inside ws (labels_of branches))))
        (λ later. found_items selector branches lawful.1 (way_past ws complete fallback) (past_items complete fallback (found_other fallback lawful.2)) (no_more fork later))
    found_action (Block body) lawful h = found body lawful h

    pub found : (body : Actions) → IsBody signals body → some f (body_flow (width_in signals) body) ≡ true → P
    found Done lawful h = absurd (false≢true h)
    found (Then first others) lawful h =
        let ws = width_in signals in
        first_or (some f (action_then ws first End)) (some f (body_flow ws others)) (sym (some_action f ws first (body_flow ws others)) ∙ h)
        (found_action first lawful.0) (found others lawful.1)

    found_other : (other : Otherwise) → IsOtherwise signals other → some f (other_flow (width_in signals) other) ≡ true → P
    found_other Without lawful h = absurd (false≢true h)
    found_other (With body) lawful h = found body lawful h

    found_items :
        (selector : Tree) (branches : Branches) → AreBranches signals selector branches → (way : Option Flow) → (some_of f way ≡ true → P) →
        some_way f (ways (width_in signals) way branches) ≡ true → P
    found_items selector NoBranch lawful (Some way) past h = past h
    found_items selector NoBranch lawful None past h = absurd (false≢true h)
    found_items selector (Branch labels body others) lawful (Some way) past h =
        let ws = width_in signals in
        first_or (some f way) (some_way f (ways ws (Some (body_flow ws body)) others)) h past
        (found_items selector others lawful.4 (Some (body_flow ws body)) (found body lawful.3))
    found_items selector (Branch labels body others) lawful None past h =
        found_items selector others lawful.4 (Some (body_flow (width_in signals) body)) (found body lawful.3) h

-- ---- what is found

pub read_inside : (signals : List Signal) (body : Actions) → IsBody signals body → (i k : ℕ) → MayRead (body_flow (width_in signals) body) i k → k < width_in signals i
read_inside signals body lawful i k read =
    found (reads_bit i k) (k < width_in signals i) signals (λ bits inside is. inside i k is) (λ target e delayed lawful' is. absurd (false≢true is)) body lawful
    ((decided (body_flow (width_in signals) body) i k).reads.1 read)

-- a bit that is read outside is read
pub may_read_outside : (flow : Flow) (i k : ℕ) → ReadsOutside flow i k → MayRead flow i k
may_read_outside flow i k outside =
    record {
      path = outside.before ++ outside.step ∷ outside.after;
      is_path = outside.is_path;
      read = append_right (reads_bit i k) outside.before (outside.step ∷ outside.after) (first_passes (reads_bit i k outside.step) _ outside.read);
    }
  where
    first_passes : (a b : Bool) → a ≡ true → (a || b) ≡ true
    first_passes true b e = refl
    first_passes false b e = absurd (false≢true e)

pub outside_inside : (signals : List Signal) (body : Actions) → IsBody signals body → (i k : ℕ) → ReadsOutside (body_flow (width_in signals) body) i k → k < width_in signals i
outside_inside signals body lawful i k outside =
    read_inside signals body lawful i k (may_read_outside (body_flow (width_in signals) body) i k outside)

pub write_inside : (signals : List Signal) (body : Actions) → IsBody signals body → (i k : ℕ) → MayWrite (body_flow (width_in signals) body) i k → k < width_in signals i
write_inside signals body lawful i k written =
    found (may_write_bit i k) (k < width_in signals i) signals (λ bits inside is. absurd (false≢true is))
    (λ target e delayed lawful' is. target_inside (width_in signals) target i k is) body lawful
    ((decided (body_flow (width_in signals) body) i k).writes.1 written)

-- a bit of a selection is of its signal
of_signal : (ws : ℕ → ℕ) (signal : ℕ) (selection : Selection) (i k : ℕ) → may_select ws signal selection i k ≡ true → i ≡ signal
of_signal ws signal Whole i k is = eqb-true i signal (and_parts (i == signal) _ is).0
of_signal ws signal (BitAt low index) i k is = eqb-true i signal (and_parts (i == signal) _ is).0
of_signal ws signal (BitBy low index) i k is = eqb-true i signal (and_parts (i == signal) _ is).0
of_signal ws signal (Part low width) i k is = eqb-true i signal (and_parts (i == signal) _ is).0

-- what holds of each signal of a target holds of each that it writes
pub target_has :
    (P : Signal → Type 0) (signals : List Signal) (ws : ℕ → ℕ) (target : List Piece) → All (λ (piece : Piece). Has P signals piece.signal) target →
    (i k : ℕ) → may_target ws target i k ≡ true → Has P signals i
target_has P signals ws [] all i k is = absurd (false≢true is)
target_has P signals ws (piece ∷ others) all i k is =
    elim (or_cases (may_select ws piece.signal piece.selection i k) (may_target ws others i k) is) [
      | inl here ↦
          subst (Has P signals) (sym (of_signal ws piece.signal piece.selection i k here))
          (All-head (λ (one : Piece). Has P signals one.signal) piece others all)
      | inr there ↦
          target_has P signals ws others (All-tail (λ (one : Piece). Has P signals one.signal) piece others all) i k there
    ]

pub writes_variables : (signals : List Signal) (body : Actions) → IsBody signals body → (i k : ℕ) → MayWrite (body_flow (width_in signals) body) i k → Has (λ s. s.kind ≡ Var) signals i
writes_variables signals body lawful i k written =
    found (may_write_bit i k) (Has (λ s. s.kind ≡ Var) signals i) signals (λ bits inside is. absurd (false≢true is))
    (λ target e delayed lawful' is. target_has (λ s. s.kind ≡ Var) signals (width_in signals) target lawful'.kinds i k is) body lawful
    ((decided (body_flow (width_in signals) body) i k).writes.1 written)
