-- Targets without findings select some bit.
use Rattle.std.proofs.Common.{◌≡◌, ◌+◌, ◌^◌, ◌≤◌, ℕ, zero, suc, true, ◌||◌, List, [], ◌∷◌, ◌++◌, Some, refl, subst, inl, inr, arith}
use Rattle.std.specs.Prelude.{nat_le, nat_lt, ◌==◌}
use Rattle.std.specs.List.{All, filter_map}
use Rattle.std.proofs.lemmas.Bool.{and_from, cases_lt, eq-eqb, false_from_ne_true, le-leb, lt-ltb, ltb-false, not_from_false, or_left, or_parts, or_right, true_from_ne_false}
use Rattle.std.proofs.lemmas.List.Elements.{All-head, All-tail}
use Rattle.std.proofs.lemmas.List.Sums.{sum_by-cons}
use Rattle.std.proofs.lemmas.Nat.{pow_pos}
use Rattle.rtl_flat.specs.declared.signal.Signal.{Signal}
use Rattle.rtl_flat.specs.Expression.{Tree}
use Rattle.rtl_flat.specs.Flows.{is_place, may_select}
use Rattle.rtl_flat.specs.Process.{Selection, Piece, Watched, Action, Set, If, Case, Block, Actions, Done, Then, Otherwise, Without, With, Branches, NoBranch, Branch, Doing, Assign, Comb, Edge', Task}
use Rattle.rtl_flat.specs.Process as part
use Rattle.rtl_flat.specs.Signs.{Has, sign_of, width_in}
use Rattle.rtl_flat.specs.Sizes.{width_of}
use Rattle.rtl_flat.specs.WellFormed.{AreBranches, IsAction, IsBody, IsOtherwise, IsSelection, selection_width, target_width}
use Rattle.event_settling.specs.Conditions.{AllSelect, AllSelectBranches, AllSelectIn, AllSelectOther, SelectsSome}
use Rattle.rtl_rule.specs.Parts.{all_branches, all_in, all_of, all_other, items_of, own_pieces, pieces}
use Rattle.rtl_flat.specs.Flats.{Flat, widths}
use Rattle.check_unknown.specs.Unknowns.{IsSelectRange, Pick, all_nodes, may_miss, pick_in, pick_of, picks, select_range_at}
use Rattle.check_laws.specs.Cases.{Does}
use Rattle.check_laws.specs.Targets.{SelectTargets}
use Rattle.check_laws.proofs.Bodies.{lawful_body}
use Rattle.check_laws.proofs.Expressions.{each_some}
use Rattle.rtl_rule.proofs.Below.{some_found}
use Rattle.rtl_rule.proofs.Lists.{Each, each_flat, each_left, each_right}
use Rattle.check_laws.proofs.Sites.{refuted_in}

-- ---- one part of a target

width_has : (n : ℕ) (signals : List Signal) (i : ℕ) → Has (λ s. n ≤ s.width) signals i → n ≤ width_in signals i
width_has n [] i h = absurd h
width_has n (s ∷ signals) zero h = h
width_has n (s ∷ signals) (suc i) h = width_has n signals i h

module _ (d : Flat) where
  -- a part of a target that is no finding
  abbrev IsPicked : Piece → Type 0
  IsPicked piece =
      (one : Pick) → pick_of piece.signal piece.spot piece.selection ≡ Some one → may_miss (widths d) one one.index ≡ true → ⊥

  -- a bit that may be meant
  record IsMeant (i : ℕ) (selection : Selection) : Type 0 where
    bit : ℕ
    is : may_select (widths d) i selection i bit ≡ true

  whole_meant : (i : ℕ) → 1 ≤ widths d i → may_select (widths d) i part.Whole i 0 ≡ true
  whole_meant i wide =
      and_from (i == i) _ (eq-eqb i i refl) (and_from (nat_le 0 0) _ refl (and_from (nat_lt 0 (widths d i)) _ (lt-ltb 0 (widths d i) (omega (arith, wide))) (lt-ltb 0 (widths d i) (omega (arith, wide)))))

  meant : (i : ℕ) (selection : Selection) (spot : _) → IsSelection d.signals i selection → ((one : Pick) → pick_of i spot selection ≡ Some one → may_miss (widths d) one one.index ≡ true → ⊥) → 1 ≤ selection_width d.signals i selection → IsMeant i selection
  meant i part.Whole spot lawful picked wide = record { bit = 0; is = whole_meant i wide }
  meant i (part.BitAt low index) spot lawful picked wide =
      let found = some_found (widths d i) (is_place low index) (true_from_ne_false _ (λ missing. picked _ refl (not_from_false _ missing))) in
      record {
        bit = found.number;
        is = and_from (i == i) _ (eq-eqb i i refl) (and_from (nat_lt found.number (widths d i)) _ (lt-ltb found.number (widths d i) found.below) found.is);
      }
  meant i (part.BitBy low index) spot lawful picked wide =
      let here = or_parts (sign_of index) (nat_lt 0 low || nat_lt (widths d i) (2 ^ width_of (widths d) index)) (false_from_ne_true _ (picked _ refl)) in
      let there = or_parts (nat_lt 0 low) (nat_lt (widths d i) (2 ^ width_of (widths d) index)) here.1 in
      let enough = ltb-false (widths d i) (2 ^ width_of (widths d) index) there.1 in
      let positive = pow_pos (width_of (widths d) index) in
      record { bit = 0; is = whole_meant i (omega (arith, enough, positive)) }
  meant i (part.Part low width) spot lawful picked wide =
      let few = width_has (low + width) d.signals i lawful.1 in
      let some = lawful.0 in
      record {
        bit = low;
        is = and_from (i == i) _ (eq-eqb i i refl) (and_from (nat_le low low) _ (le-leb low low (omega arith)) (and_from (nat_lt low (low + width)) _ (lt-ltb low (low + width) (omega (arith, some))) (lt-ltb low (widths d i) (omega (arith, few, some)))));
      }

  behind : (piece : Piece) (target : List Piece) → 1 ≤ target_width d.signals (piece ∷ target) → selection_width d.signals piece.signal piece.selection ≤ 0 → 1 ≤ target_width d.signals target
  behind piece target wide none =
      let width = λ (one : Piece). selection_width d.signals one.signal one.selection in
      let split : target_width d.signals (piece ∷ target) ≡ width piece + target_width d.signals target = sum_by-cons width piece target in
      omega (arith, wide, none, split)

  some_selected : (target : List Piece) → All (λ piece. IsSelection d.signals piece.signal piece.selection) target → Each IsPicked target → 1 ≤ target_width d.signals target → SelectsSome (widths d) target
  some_selected [] lawful picked wide = absurd (omega (arith, wide))
  some_selected (piece ∷ target) lawful picked wide =
      elim (cases_lt 0 (selection_width d.signals piece.signal piece.selection)) [
        | inl here ↦
            let found = meant piece.signal piece.selection piece.spot (All-head (λ (one : Piece). IsSelection d.signals one.signal one.selection) piece target lawful) picked.0 (omega (arith, here)) in
            record { signal = piece.signal; bit = found.bit; may = or_left _ _ found.is }
        | inr none ↦
            let rest = some_selected target (All-tail (λ (one : Piece). IsSelection d.signals one.signal one.selection) piece target lawful) picked.1 (behind piece target wide none) in
            record {
              signal = rest.signal;
              bit = rest.bit;
              may = or_right (may_select (widths d) piece.signal piece.selection rest.signal rest.bit) _ rest.may;
            }
      ]

  -- ---- bodies

  abbrev AreOwnPicked : Action → Type 0
  AreOwnPicked one = Each IsPicked (own_pieces one)

  mutual
    select_one : (a : Action) → IsAction d.signals a → Each AreOwnPicked (all_in a) → AllSelect (widths d) a
    select_one (Set target value delayed spot) lawful h = λ late.
        some_selected target lawful.parts h.0 lawful.not_empty
    select_one (If test taken other spot) lawful h = (
      select_in taken lawful.1 (each_left AreOwnPicked (all_of taken) (all_other other) h.1),
      select_other other lawful.2 (each_right AreOwnPicked (all_of taken) (all_other other) h.1),
    )
    select_one (Case kind full parallel selector branches fallback spot) lawful h = (
      select_items selector branches lawful.1 (each_left AreOwnPicked (all_branches branches) (all_other fallback) h.1),
      select_other fallback lawful.2 (each_right AreOwnPicked (all_branches branches) (all_other fallback) h.1),
    )
    select_one (Block body) lawful h = select_in body lawful h

    select_in : (body : Actions) → IsBody d.signals body → Each AreOwnPicked (all_of body) → AllSelectIn (widths d) body
    select_in Done lawful h = tt
    select_in (Then first others) lawful h =
        (select_one first lawful.0 (each_left AreOwnPicked (all_in first) (all_of others) h), select_in others lawful.1 (each_right AreOwnPicked (all_in first) (all_of others) h))

    select_other : (other : Otherwise) → IsOtherwise d.signals other → Each AreOwnPicked (all_other other) → AllSelectOther (widths d) other
    select_other Without lawful h = tt
    select_other (With body) lawful h = select_in body lawful h

    select_items : (selector : Tree) (branches : Branches) → AreBranches d.signals selector branches → Each AreOwnPicked (all_branches branches) → AllSelectBranches (widths d) branches
    select_items selector NoBranch lawful h = tt
    select_items selector (Branch labels body others) lawful h =
        (select_in body lawful.3 (each_left AreOwnPicked (all_of body) (all_branches others) h), select_items selector others lawful.4 (each_right AreOwnPicked (all_of body) (all_branches others) h))

  body_picked : (does : Doing) (body : Actions) → Does does body → Each IsPicked (pieces does) → Each AreOwnPicked (all_of body)
  body_picked (Assign target value) body is h = absurd is
  body_picked (Comb list own) body is h =
      subst (λ b. Each AreOwnPicked (all_of b)) is (each_flat IsPicked own_pieces (all_of own) h)
  body_picked (Edge' events own) body is h =
      subst (λ b. Each AreOwnPicked (all_of b)) is (each_flat IsPicked own_pieces (all_of own) h)

pub select_targets : (d : Flat) → SelectTargets d
select_targets d lawful none p body is =
    let does = is.task.does in
    let inside = λ (one : Pick). may_miss (widths d) one one.index ≡ true → ⊥ in
    let all = refuted_in (IsSelectRange d) select_range_at picks d none p is.task is.there in
    let listed = filter_map (λ (item : Watched). pick_of item.signal item.spot item.selection) (items_of does) in
    let selected = filter_map pick_in (all_nodes does) in
    let written = filter_map (λ (piece : Piece). pick_of piece.signal piece.spot piece.selection) (pieces does) in
    let of_pieces = each_some inside (λ (piece : Piece). pick_of piece.signal piece.spot piece.selection) (pieces does) (each_right inside (listed ++ selected) written all) in
    select_in d body (lawful_body d lawful p body is) (body_picked d does body is.does of_pieces)
