-- Which signals a process writes by one kind of assignment, from the places of its targets.
use Rattle.std.proofs.Common.{ℕ, zero, suc, ◌≡◌, ◌∙◌, ◌<◌, Bool, true, false, not, cond, ◌&&◌, ◌||◌, List, [], ◌∷◌, length, Option, Some, None, refl, sym, ap}
use Rattle.std.specs.Prelude.{slice_index_or}
use mathlib.Core.Bool.{beq}
use Rattle.std.specs.List.{cons_option, filter_map, flat_map, list_any, slice_get}
use Rattle.std.proofs.lemmas.Bool.{and_from, and_parts, and_right, both_ways, false≢true}
use Rattle.text_ground.specs.declared.text.Spot.{Spot}
use Rattle.rtl_flat.specs.Expression.{Tree}
use Rattle.rtl_flat.specs.Flows.{may_select, may_target}
use Rattle.rtl_flat.specs.PathSets.{IsTemporary}
use Rattle.rtl_flat.specs.Process.{Piece, Action, Set, If, Case, Block, Doing, Assign, Comb, Edge', Task}
use Rattle.rtl_rule.specs.declared.rule.Rule.TheVariants.{BlockingState, NonblockingComb, MixedAssign}
use Rattle.rtl_rule.specs.Parts.{agree, all_of, found_at, has_some, is_clocked, number, some_below, spot_if, statements, within}
use Rattle.rtl_flat.specs.Flats.{Flat, widths}
use Rattle.check_assign.specs.Assigned.{IsBlockingState, IsMixedAssign, IsNonblockingComb, blocking_state_at, is_comb, late, mixed_assign_at, nonblocking_comb_at, now, own_targets}
use Rattle.check_assign.specs.Kept.{AreTemporaries}
use Rattle.check_loops.specs.check_found.Marked.{is_some_spot, least_of}
use Rattle.check_assign.specs.Marks.{own_writes, spot_of}
use Rattle.check_assign.proofs.Below.{below_and, below_any, below_none, below_or, below_same, signal_there}
use Rattle.check_loops.proofs.check_found_proofs.Places.{is_some-joined, least_any, least_is}
use Rattle.check_loops.proofs.check_found_proofs.Shown.{Tells}
use Rattle.check_assign.proofs.Unions.{late_is, now_is}

-- ---- one statement

-- an assignment of the kind that is looked for
pub own_same : (ws : ℕ → ℕ) (delayed is_delayed : Bool) (s : ℕ) (target : List Piece) (value : Tree) (spot : Spot) → not (beq is_delayed delayed) ≡ false → least_of (filter_map (spot_of ws s) target) ≡ least_of (own_targets ws delayed s (Set target value is_delayed spot))
own_same ws true true s target value spot e = refl
own_same ws true false s target value spot e = absurd (false≢true (sym e))
own_same ws false true s target value spot e = absurd (false≢true (sym e))
own_same ws false false s target value spot e = refl

no_spots : (target : List Piece) → filter_map (λ (piece : Piece). spot_if false piece.spot) target ≡ []
no_spots [] = refl
no_spots (piece ∷ others) = no_spots others

-- one of the other kind
pub own_none : (ws : ℕ → ℕ) (delayed is_delayed : Bool) (s : ℕ) (target : List Piece) (value : Tree) (spot : Spot) → not (beq is_delayed delayed) ≡ true → least_of (own_targets ws delayed s (Set target value is_delayed spot)) ≡ None
own_none ws true true s target value spot other = absurd (false≢true other)
own_none ws true false s target value spot other = ap least_of (no_spots target)
own_none ws false true s target value spot other = ap least_of (no_spots target)
own_none ws false false s target value spot other = absurd (false≢true other)

-- ---- statements

spread : (b h t : Bool) → (b && (h || t)) ≡ ((b && h) || (b && t))
spread true h t = refl
spread false h t = refl

cons_marked : (q : Bool) (spot : Spot) (xs : List Spot) → is_some_spot (least_of (cons_option (spot_if q spot) xs)) ≡ (q || is_some_spot (least_of xs))
cons_marked true spot xs = is_some-joined (Some spot) (least_of xs)
cons_marked false spot xs = refl

target_marked : (ws : ℕ → ℕ) (b : Bool) (s : ℕ) (target : List Piece) → (b && some_below (ws s) (may_target ws target s)) ≡ is_some_spot (least_of (filter_map (λ (piece : Piece). spot_if (b && has_some ws (may_select ws piece.signal piece.selection) s) piece.spot) target))
target_marked ws b s [] = and_right b (some_below (ws s) (may_target ws [] s)) (below_none (ws s))
target_marked ws b s (piece ∷ others) =
    let here = has_some ws (may_select ws piece.signal piece.selection) s in
    ap (λ t. b && t) (below_or (ws s) (may_select ws piece.signal piece.selection s) (may_target ws others s))
    ∙ spread b here (some_below (ws s) (may_target ws others s))
    ∙ ap (λ t. (b && here) || t) (target_marked ws b s others)
    ∙ sym (cons_marked (b && here) piece.spot _)

act_marked : (ws : ℕ → ℕ) (delayed : Bool) (s : ℕ) (a : Action) → some_below (ws s) (λ k. own_writes (agree delayed) ws s k a) ≡ is_some_spot (least_of (own_targets ws delayed s a))
act_marked ws delayed s (Set target value is_delayed spot) =
    below_and (ws s) (agree delayed is_delayed) (may_target ws target s) ∙ target_marked ws (agree delayed is_delayed) s target
act_marked ws delayed s (If test taken other spot) = below_none (ws s)
act_marked ws delayed s (Case kind full parallel selector branches fallback spot) = below_none (ws s)
act_marked ws delayed s (Block body) = below_none (ws s)

acts_marked : (ws : ℕ → ℕ) (delayed : Bool) (s : ℕ) (acts : List Action) → some_below (ws s) (λ k. list_any (own_writes (agree delayed) ws s k) acts) ≡ is_some_spot (least_of (flat_map (own_targets ws delayed s) acts))
acts_marked ws delayed s acts =
    below_any (ws s) (λ a k. own_writes (agree delayed) ws s k a) acts ∙ each acts ∙ sym (least_any (own_targets ws delayed s) acts)
  where
    each : (xs : List Action) → list_any (λ a. some_below (ws s) (λ k. own_writes (agree delayed) ws s k a)) xs ≡ list_any (λ a. is_some_spot (least_of (own_targets ws delayed s a))) xs
    each [] = refl
    each (x ∷ xs) =
        ap (λ t. t || list_any (λ a. some_below (ws s) (λ k. own_writes (agree delayed) ws s k a)) xs) (act_marked ws delayed s x)
        ∙ ap (λ t. is_some_spot (least_of (own_targets ws delayed s x)) || t) (each xs)

-- ---- processes

abbrev pub first_of : Flat → Bool → Doing → ℕ → Option Spot
first_of d delayed does s = least_of (flat_map (own_targets (widths d) delayed s) (statements does))

pub now_marked : (d : Flat) (does : Doing) (s : ℕ) → has_some (widths d) (now d does) s ≡ is_some_spot (first_of d false does s)
now_marked d (Assign target value) s = below_none (widths d s)
now_marked d (Comb list body) s =
    below_same (widths d s) _ (λ k. list_any (own_writes (agree false) (widths d) s k) (all_of body)) (λ k. now_is (widths d) s k body) ∙ acts_marked (widths d) false s (all_of body)
now_marked d (Edge' events body) s =
    below_same (widths d s) _ (λ k. list_any (own_writes (agree false) (widths d) s k) (all_of body)) (λ k. now_is (widths d) s k body) ∙ acts_marked (widths d) false s (all_of body)

pub late_marked : (d : Flat) (does : Doing) (s : ℕ) → has_some (widths d) (late d does) s ≡ is_some_spot (first_of d true does s)
late_marked d (Assign target value) s = below_none (widths d s)
late_marked d (Comb list body) s =
    below_same (widths d s) _ (λ k. list_any (own_writes (agree true) (widths d) s k) (all_of body)) (λ k. late_is (widths d) s k body) ∙ acts_marked (widths d) true s (all_of body)
late_marked d (Edge' events body) s =
    below_same (widths d s) _ (λ k. list_any (own_writes (agree true) (widths d) s k) (all_of body)) (λ k. late_is (widths d) s k body) ∙ acts_marked (widths d) true s (all_of body)

-- ---- temporaries

index_true : (answers : List Bool) (s : ℕ) → slice_index_or answers s false ≡ true → slice_get answers s ≡ Some true
index_true [] s h = absurd (false≢true h)
index_true (x ∷ answers) zero h = ap Some h
index_true (x ∷ answers) (suc s) h = index_true answers s h

true_index : (answers : List Bool) (s : ℕ) → slice_get answers s ≡ Some true → slice_index_or answers s false ≡ true
true_index [] s h = absurd (cc)
true_index (x ∷ answers) zero h = cc
true_index (x ∷ answers) (suc s) h = true_index answers s h

pub is_kept : (d : Flat) (answers : List Bool) → AreTemporaries d answers → (s : ℕ) → slice_index_or answers s false ≡ false → IsTemporary d.signals d.tasks s → ⊥
is_kept d answers are s none h =
    both_ways (slice_index_or answers s false) none (true_index answers s ((are.each s).1 h))

pub is_temporary : (d : Flat) (answers : List Bool) → AreTemporaries d answers → (s : ℕ) → slice_index_or answers s false ≡ true → IsTemporary d.signals d.tasks s
is_temporary d answers are s h = (are.each s).0 (index_true answers s h)

-- ---- what the places say

module _ (d : Flat) (p : ℕ) (task : Task) where
  abbrev targets_of : Bool → ℕ → List Spot
  targets_of delayed s = flat_map (own_targets (widths d) delayed s) (statements task.does)

  no_now : (s : ℕ) → first_of d false task.does s ≡ None → has_some (widths d) (now d task.does) s ≡ true → ⊥
  no_now s none h =
      false≢true (sym (now_marked d task.does s ∙ ap is_some_spot none) ∙ h)

  no_late : (s : ℕ) → first_of d true task.does s ≡ None → has_some (widths d) (late d task.does) s ≡ true → ⊥
  no_late s none h =
      false≢true (sym (late_marked d task.does s ∙ ap is_some_spot none) ∙ h)

  pub blocking_tells : (answers : List Bool) → AreTemporaries d answers → is_clocked task.does ≡ true → (marks : ℕ → Option Spot) → ((s : ℕ) → marks s ≡ first_of d false task.does s) → (s : ℕ) → Tells (IsBlockingState d) (blocking_state_at d) BlockingState task.instance (p, task) s (cond (not (slice_index_or answers s false)) (marks s) None)
  blocking_tells answers are clocked marks is s =
      by_answer (slice_index_or answers s false) (marks s) refl (sym (is s))
    where
      by_answer : (t : Bool) (o : Option Spot) → slice_index_or answers s false ≡ t → first_of d false task.does s ≡ o → Tells (IsBlockingState d) (blocking_state_at d) BlockingState task.instance (p, task) s (cond (not t) o None)
      by_answer true o e first = λ broken. broken.kept (is_temporary d answers are s e)
      by_answer false None e first = λ broken. no_now s first broken.writes
      by_answer false (Some spot) e first = (
        record { clocked = clocked; writes = now_marked d task.does s ∙ ap is_some_spot first; kept = is_kept d answers are s e },
        ap (λ place. found_at BlockingState (within (p, task) s) (number s) place) (least_is task.spot (targets_of false s) spot first),
      )

  pub nonblocking_tells : is_comb task.does ≡ true → (marks : ℕ → Option Spot) → ((s : ℕ) → marks s ≡ first_of d true task.does s) → (s : ℕ) → Tells (IsNonblockingComb d) (nonblocking_comb_at d) NonblockingComb task.instance (p, task) s (marks s)
  nonblocking_tells comb marks is s = by_place (marks s) (sym (is s))
    where
      by_place : (o : Option Spot) → first_of d true task.does s ≡ o → Tells (IsNonblockingComb d) (nonblocking_comb_at d) NonblockingComb task.instance (p, task) s o
      by_place None first = λ broken.
          no_late s first (and_parts (is_comb task.does) (has_some (widths d) (late d task.does) s) broken).1
      by_place (Some spot) first = (
        and_from (is_comb task.does) (has_some (widths d) (late d task.does) s) comb (late_marked d task.does s ∙ ap is_some_spot first),
        ap (λ place. found_at NonblockingComb (within (p, task) s) (number s) place) (least_is task.spot (targets_of true s) spot first),
      )

  pub mixed_tells : (marks others : ℕ → Option Spot) → ((s : ℕ) → marks s ≡ first_of d false task.does s) → ((s : ℕ) → others s ≡ first_of d true task.does s) → (s : ℕ) → Tells (IsMixedAssign d) (mixed_assign_at d) MixedAssign task.instance (p, task) s (cond (is_some_spot (others s)) (marks s) None)
  mixed_tells marks others is are s = by_places (others s) (marks s) (sym (are s)) (sym (is s))
    where
      by_places : (a o : Option Spot) → first_of d true task.does s ≡ a → first_of d false task.does s ≡ o → Tells (IsMixedAssign d) (mixed_assign_at d) MixedAssign task.instance (p, task) s (cond (is_some_spot a) o None)
      by_places None o last first = λ broken.
          no_late s last (and_parts (has_some (widths d) (now d task.does) s) (has_some (widths d) (late d task.does) s) broken).1
      by_places (Some place) None last first = λ broken.
          no_now s first (and_parts (has_some (widths d) (now d task.does) s) (has_some (widths d) (late d task.does) s) broken).0
      by_places (Some place) (Some spot) last first = (
        and_from (has_some (widths d) (now d task.does) s) (has_some (widths d) (late d task.does) s) (now_marked d task.does s ∙ ap is_some_spot first) (late_marked d task.does s ∙ ap is_some_spot last),
        ap (λ at. found_at MixedAssign (within (p, task) s) (number s) at) (least_is task.spot (targets_of false s) spot first),
      )

  -- their signals are the design's
  pub blocking_inside : (s : ℕ) → IsBlockingState d (within (p, task) s) → s < length d.signals
  blocking_inside s broken = signal_there d.signals (now d task.does s) s broken.writes

  pub nonblocking_inside : (s : ℕ) → IsNonblockingComb d (within (p, task) s) → s < length d.signals
  nonblocking_inside s broken =
      signal_there d.signals (late d task.does s) s (and_parts (is_comb task.does) (has_some (widths d) (late d task.does) s) broken).1

  pub mixed_inside : (s : ℕ) → IsMixedAssign d (within (p, task) s) → s < length d.signals
  mixed_inside s broken =
      signal_there d.signals (now d task.does s) s (and_parts (has_some (widths d) (now d task.does) s) (has_some (widths d) (late d task.does) s) broken).0
