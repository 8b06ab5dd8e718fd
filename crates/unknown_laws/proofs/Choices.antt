-- Without findings of U1 and U2 what decides reads no doubtful signal.
use Rattle.std.proofs.Common.{◌≡◌, ℕ, true, false, List, [], ◌∷◌, Some, inl, inr, subst}
use Rattle.std.specs.List.{flat_map, list_any, slice_get}
use Rattle.std.proofs.lemmas.Bool.{false≢true, or_cases, or_left, or_right}
use Rattle.text_ground.specs.declared.text.Spot.{Spot}
use Rattle.rtl_flat.specs.declared.act.CaseKind.{CaseKind}
use Rattle.rtl_flat.specs.declared.act.CaseKind.TheVariants as case
use Rattle.rtl_flat.specs.Expression.{Tree}
use Rattle.rtl_flat.specs.Flats.{Flat, widths}
use Rattle.rtl_flat.specs.Flows.{index_reads, labels_of, reads, reads_all, target_reads}
use Rattle.rtl_flat.specs.Paths.{BitSet, either, no_bit}
use Rattle.rtl_flat.specs.Process.{Selection, Piece, Action, Set, If, Case, Block, Actions, Done, Then, Otherwise, Without, With, Branches, NoBranch, Branch, Task}
use Rattle.rtl_flat.specs.Process as part
use Rattle.rtl_rule.specs.declared.rule.Rule.TheVariants as rule
use Rattle.rtl_rule.specs.Parts.{all_branches, all_in, all_of, all_other, has_some, statements, within}
use Rattle.rtl_rule.proofs.Below.{some_at}
use Rattle.rtl_rule.proofs.Lists.{Each, each_both, each_flat, each_left, each_right}
use Rattle.check_unknown.specs.Unknowns.{AreWildSelector, AreXOptimism, Choice, IsDoubtful, IsDoubtfulChoice, at_choice, choices_in, index_choice, of_selection, wild_choices_in}
use Rattle.check_laws.proofs.Sites.{refuted_in}
use Rattle.check_laws.proofs.event_laws_proofs.Within.{reads_inside}
use Rattle.net_covers.specs.event_covers.Covers.{action_choices, body_choices, branch_choices, other_choices}

module _ (d : Flat) where
  -- no bit of a doubtful signal
  abbrev pub IsSure : BitSet → Type 0
  IsSure bits = (i k : ℕ) → bits i k ≡ true → IsDoubtful d i → ⊥

  none_sure : IsSure no_bit
  none_sure i k is doubt = absurd (false≢true is)

  both_sure : (a b : BitSet) → IsSure a → IsSure b → IsSure (either a b)
  both_sure a b left right i k is doubt =
      elim (or_cases (a i k) (b i k) is) [
        | inl here ↦ left i k here doubt
        | inr there ↦ right i k there doubt
      ]

  -- ---- one choice

  any_read : (es : List Tree) (i k : ℕ) → reads_all (widths d) es i k ≡ true → list_any (λ e. has_some (widths d) (reads (widths d) e) i) es ≡ true
  any_read [] i k is = absurd (false≢true is)
  any_read (e ∷ es) i k is =
      elim (or_cases (reads (widths d) e i k) (reads_all (widths d) es i k) is) [
        | inl here ↦
            or_left (has_some (widths d) (reads (widths d) e) i) _
            (some_at (widths d i) (reads (widths d) e i) k (reads_inside (widths d) e i k here) here)
        | inr there ↦ or_right (has_some (widths d) (reads (widths d) e) i) _ (any_read es i k there)
      ]

  module _ (p : ℕ) (task : Task) where
    abbrev IsNoFinding : Choice → Type 0
    IsNoFinding one = IsDoubtfulChoice d (within (p, task) one) → ⊥

    sure_choice : (spot : Spot) (es : List Tree) → IsNoFinding (record { spot = spot; trees = es }) → IsSure (reads_all (widths d) es)
    sure_choice spot es none i k is doubt =
        none (record { signal = i; doubtful = doubt; reads = any_read es i k is })

    sure_tree : (spot : Spot) (e : Tree) → IsNoFinding (record { spot = spot; trees = e ∷ [] }) → IsSure (reads (widths d) e)
    sure_tree spot e none i k is doubt =
        sure_choice spot (e ∷ []) none i k (or_left (reads (widths d) e i k) false is) doubt

    sure_index : (spot : Spot) (selection : Selection) → Each IsNoFinding (of_selection spot selection) → IsSure (index_reads (widths d) selection)
    sure_index spot part.Whole h = none_sure
    sure_index spot (part.BitAt low index) h = none_sure
    sure_index spot (part.BitBy low index) h = sure_tree spot index h.0
    sure_index spot (part.Part low width) h = none_sure

    sure_target : (target : List Piece) → Each IsNoFinding (flat_map index_choice target) → IsSure (target_reads (widths d) target)
    sure_target [] h = none_sure
    sure_target (one ∷ target) h =
        both_sure (index_reads (widths d) one.selection) (target_reads (widths d) target)
        (sure_index one.spot one.selection (each_left IsNoFinding (index_choice one) (flat_map index_choice target) h))
        (sure_target target (each_right IsNoFinding (index_choice one) (flat_map index_choice target) h))

    -- ---- statements

    abbrev HasNone : Action → Type 0
    HasNone one = Each IsNoFinding (choices_in one) × Each IsNoFinding (wild_choices_in one)

    sure_case : (kind : CaseKind) (full parallel : _) (selector : Tree) (branches : Branches) (fallback : Otherwise) (spot : Spot) → HasNone (Case kind full parallel selector branches fallback spot) → IsSure (either (reads (widths d) selector) (reads_all (widths d) (labels_of branches)))
    sure_case case.Plain full parallel selector branches fallback spot h =
        sure_choice spot (selector ∷ labels_of branches) h.0.0
    sure_case case.Z full parallel selector branches fallback spot h =
        sure_choice spot (selector ∷ labels_of branches) h.1.0
    sure_case case.X full parallel selector branches fallback spot h =
        sure_choice spot (selector ∷ labels_of branches) h.1.0

    mutual
      sure_action : (a : Action) → Each HasNone (all_in a) → IsSure (action_choices (widths d) a)
      sure_action (Set target e delayed spot) h = sure_target target h.0.0
      sure_action (If test taken other spot) h =
          both_sure (reads (widths d) test) (either (body_choices (widths d) taken) (other_choices (widths d) other))
          (sure_tree spot test h.0.0.0)
          (both_sure (body_choices (widths d) taken) (other_choices (widths d) other)
          (sure_actions taken (each_left HasNone (all_of taken) (all_other other) h.1))
          (sure_other other (each_right HasNone (all_of taken) (all_other other) h.1)))
      sure_action (Case kind full parallel selector branches fallback spot) h =
          both_sure (either (reads (widths d) selector) (reads_all (widths d) (labels_of branches)))
          (either (branch_choices (widths d) branches) (other_choices (widths d) fallback))
          (sure_case kind full parallel selector branches fallback spot h.0)
          (both_sure (branch_choices (widths d) branches) (other_choices (widths d) fallback)
          (sure_branches branches (each_left HasNone (all_branches branches) (all_other fallback) h.1))
          (sure_other fallback (each_right HasNone (all_branches branches) (all_other fallback) h.1)))
      sure_action (Block body) h = sure_actions body h

      sure_actions : (body : Actions) → Each HasNone (all_of body) → IsSure (body_choices (widths d) body)
      sure_actions Done h = none_sure
      sure_actions (Then first others) h =
          both_sure (action_choices (widths d) first) (body_choices (widths d) others)
          (sure_action first (each_left HasNone (all_in first) (all_of others) h))
          (sure_actions others (each_right HasNone (all_in first) (all_of others) h))

      sure_other : (other : Otherwise) → Each HasNone (all_other other) → IsSure (other_choices (widths d) other)
      sure_other Without h = none_sure
      sure_other (With body) h = sure_actions body h

      sure_branches : (branches : Branches) → Each HasNone (all_branches branches) → IsSure (branch_choices (widths d) branches)
      sure_branches NoBranch h = none_sure
      sure_branches (Branch labels body others) h =
          both_sure (body_choices (widths d) body) (branch_choices (widths d) others)
          (sure_actions body (each_left HasNone (all_of body) (all_branches others) h))
          (sure_branches others (each_right HasNone (all_of body) (all_branches others) h))

    -- of each statement of a process
    has_none : AreXOptimism d [] → AreWildSelector d [] → slice_get d.tasks p ≡ Some task → Each HasNone (statements task.does)
    has_none u1 u2 there =
        let all = statements task.does in
        each_both (λ one. Each IsNoFinding (choices_in one)) (λ one. Each IsNoFinding (wild_choices_in one)) HasNone (λ one a b. (a, b)) all
        (each_flat IsNoFinding choices_in all (refuted_in (IsDoubtfulChoice d) (at_choice rule.XOptimism d) (λ does. flat_map choices_in (statements does)) d u1 p task there))
        (each_flat IsNoFinding wild_choices_in all (refuted_in (IsDoubtfulChoice d) (at_choice rule.WildSelector d) (λ does. flat_map wild_choices_in (statements does)) d u2 p task there))

-- the choices of the body of a process
pub sure_body : (d : Flat) → AreXOptimism d [] → AreWildSelector d [] → (p : ℕ) (task : Task) → slice_get d.tasks p ≡ Some task → (body : Actions) → statements task.does ≡ all_of body → IsSure d (body_choices (widths d) body)
sure_body d u1 u2 p task there body same =
    sure_actions d p task body (subst (Each (HasNone d p task)) same (has_none d p task u1 u2 there))
