-- Blocks that wait for edges are registers.
use Rattle.std.proofs.Common.{◌≡◌, ◌∙◌, ◌<◌, ℕ, zero, suc, Bool, true, false, List, [], ◌∷◌, ◌++◌, Option, None, Some, length, map, refl, sym, ap, subst, arith}
use Rattle.std.specs.Prelude.{◌==◌, if◌then◌else◌, nat_le, nat_lt}
use Rattle.std.specs.List.{flat_map, list_any}
use Rattle.std.proofs.lemmas.Bool.{and_from, eq-eqb, false_from_ne_true, lt-ltb, or_from, or_left, or_right, true_from_ne_false, true≢false}
use Rattle.rtl_flat.specs.Expression.{Tree}
use Rattle.rtl_flat.specs.Flows.{body_flow, may_select, reads}
use Rattle.rtl_flat.specs.Paths.{MayWrite, ReadsOutside, reads_bit, some}
use Rattle.rtl_flat.specs.PathSets.{items_list}
use Rattle.rtl_flat.specs.Process.{Selection, Watched, Action, Set, If, Case, Block, Actions, Done, Then, With, Doing, Edge', Task}
use Rattle.rtl_flat.specs.Process as part
use Rattle.rtl_flat.specs.WellFormed.{IsProcess, IsWhole}
use Rattle.rtl_flat.proofs.Paths.{decided}
use Rattle.check_laws.proofs.event_laws_proofs.Within.{may_read_outside, outside_inside, write_inside}
use Rattle.check_laws.specs.event_laws.Steady.{AreLawful}
use Rattle.net_model.proofs.Gates.{clock_cone}
use Rattle.net_model.specs.Control.{InClockCone}
use Rattle.net_model.specs.Gates.{InCone}
use Rattle.net_model.specs.Cycle.{Chain, Guard, IsChain, IsChained, opened}
use Rattle.net_model.specs.Solution.{IsLasting}
use Rattle.sign_cycles.specs.Formed.{IsConstant, IsFormed, TestsAlone}
use Rattle.rtl_rule.specs.Parts.{all_of, labels, nodes, read_trees, trees, within}
use Rattle.rtl_flat.specs.Flats.{Flat, widths}
use Rattle.check_laws.specs.check_chains.Chains.{IsRegisterOf, IsResetBranch, IsResetPolarity, IsResetShape, IsResetValue, chain_of, has_chain, is_shapeless, is_turned, reset_polarity_at, reset_shape_at, reset_value_at, tested}
use Rattle.check_laws.specs.check_clocks.Clocks.{but_tests, chain_trees, data_trees, passes, statement_trees}
use Rattle.check_laws.specs.Cases.{Does, IsBodyOf}
use Rattle.check_laws.specs.Designs.{IsEdge}
use Rattle.check_laws.specs.Expressions.{AreMarked, HasNoDoubt, IsMarked}
use Rattle.check_laws.proofs.Bodies.{exclusive_bodies, tame_bodies}
use Rattle.check_laws.proofs.Clocks.{async_pair}
use Rattle.check_laws.proofs.Designs.{edge_body, mixed_assign}
use Rattle.rtl_rule.proofs.Below.{some_at}
use Rattle.rtl_rule.proofs.Lists.{Each, each_all, each_both, each_flat, each_from, each_left, each_more, each_right}
use Rattle.check_laws.proofs.Sites.{IsTask, process_refuted, signal_there, task_of}
use Rattle.check_all.specs.Rules.{HasNoFinding}
use Rattle.check_all.specs.check_sense.Sense.{IsMixedEdges, first_level, has_item, mixed_edges_at}
use Rattle.check_laws.proofs.chain_laws_proofs.Branches.{chain_lawful}
use Rattle.check_laws.proofs.chain_laws_proofs.Chained.{IsEdgeItem, IsReset}
use Rattle.check_laws.proofs.chain_laws_proofs.Chained as law
use Rattle.check_clean.proofs.Branches.{OfGuard, chain_each}
use Rattle.check_clean.proofs.Cone.{OfStatement, edge_statements, no_gate, quiet_statements, unnamed_data}
use Rattle.check_clean.proofs.Resets.{constant, each_by_place}
use Rattle.check_laws.proofs.chain_laws_proofs.Tests.{reads_signal_alone}
use Rattle.check_clean.proofs.Unread.{IsUnnamed, Unread, unread}

-- ---- items

module _ (ws : ℕ → ℕ) where
  whole_listed : (i : ℕ) (selection : Selection) → IsWhole selection → ws i ≡ 1 → may_select ws i selection i 0 ≡ true
  whole_listed i part.Whole whole one =
      and_from (i == i) _ (eq-eqb i i refl) (and_from (nat_le 0 0) _ refl (and_from (nat_lt 0 (ws i)) _ (lt-ltb 0 (ws i) (omega (arith, one))) (lt-ltb 0 (ws i) (omega (arith, one)))))
  whole_listed i (part.BitAt low index) whole one = absurd whole
  whole_listed i (part.BitBy low index) whole one = absurd whole
  whole_listed i (part.Part low width) whole one = absurd whole

  all_listed : (items : List Watched) → Each (IsEdgeItem ws) items → Each (λ item. items_list ws items item.signal 0 ≡ true) items
  all_listed [] h = tt
  all_listed (item ∷ items) h = (
    or_left _ _ (whole_listed item.signal item.selection h.0.whole h.0.one_bit),
    each_more (λ (one : Watched). items_list ws items one.signal 0 ≡ true) (λ one. items_list ws (item ∷ items) one.signal 0 ≡ true) (λ one listed. or_right (may_select ws item.signal item.selection one.signal 0) _ listed) items (all_listed items h.1),
  )

-- ---- what a body with a chain reads

module _ (ws : ℕ → ℕ) (i k : ℕ) where
  abbrev reads_in : Actions → Bool
  reads_in body = some (reads_bit i k) (body_flow ws body)

  opened_reads : (body : Actions) → reads_in (opened body) ≡ reads_in body
  opened_reads Done = refl
  opened_reads (Then (Set target e delayed spot) others) = refl
  opened_reads (Then (If test taken other spot) others) = refl
  opened_reads (Then (Case kind full parallel selector branches fallback spot) others) = refl
  opened_reads (Then (Block body) Done) = opened_reads body
  opened_reads (Then (Block body) (Then one others)) = refl

  abbrev IsUnreadGuard : Guard → Type 0
  IsUnreadGuard guard = Unread ws i k guard.test × (reads_in guard.branch ≡ false)

  chain_unread : (resets : List Guard) (part body : Actions) → IsChained resets part body → Each IsUnreadGuard resets → reads_in part ≡ false → reads_in body ≡ false
  chain_unread [] part body chained h at_part = ap reads_in chained ∙ at_part
  chain_unread (guard ∷ others) part body (other, spot, is, rest) h at_part =
      sym (opened_reads body) ∙ ap reads_in is
      ∙ or_from (reads ws guard.test i k) _ h.0.0 (or_from _ false (or_from _ _ (chain_unread others part other rest h.1 at_part) h.0.1) refl)

-- ---- a process that waits for edges

-- its expressions that are data
abbrev chosen_trees : Flat → ℕ → Doing → Option Chain → List Tree
chosen_trees d instance does o =
    if passes d instance does then [] else but_tests o (read_trees does ++ labels does)

does_of : (does : Doing) (events : List Watched) (body : Actions) → does ≡ Edge' events body → Does does body
does_of does events body is = subst (λ x. Does x body) (sym is) refl

module _ (d : Flat) (lawful : AreLawful d) (marked : AreMarked d) (none : HasNoFinding d) (p : ℕ) (events : List Watched) (body : Actions) (is : IsEdge d p events body) where
  at : IsTask d p (Edge' events body)
  at = task_of d p (Edge' events body) is

  -- what S3, R1 and R2 have no finding of
  own : IsProcess d.signals (Edge' events body)
  own = lawful p (Edge' events body) is

  levels : has_item (first_level (Edge' events body)) ≡ true → ⊥
  levels level =
      process_refuted IsMixedEdges mixed_edges_at d none.s3 p at.task at.there
      (subst (λ does. has_item (first_level does) ≡ true) (sym at.is) level)

  shaped : is_shapeless d (Edge' events body) ≡ true → ⊥
  shaped shapeless =
      process_refuted (IsResetShape d) (reset_shape_at d) d none.r1 p at.task at.there
      (subst (λ does. IsResetShape d (within (p, at.task) does)) (sym at.is) shapeless)

  straight : has_chain (λ chain. list_any (λ (guard : Guard). is_turned guard.item.edge (tested d guard.test)) chain.resets) (chain_of d (Edge' events body)) ≡ true → ⊥
  straight turned =
      process_refuted (IsResetPolarity d) (reset_polarity_at d) d none.r2 p at.task at.there
      (subst (λ does. IsResetPolarity d (within (p, at.task) does)) (sym at.is) turned)

  pub items : Each (IsEdgeItem (widths d)) events
  items = law.items d events body own levels shaped straight

  pub chain : Chain
  chain = (law.chain_there d events body own levels shaped straight).chain

  pub is_chain : chain_of d (Edge' events body) ≡ Some chain
  unfolding chain
  is_chain = (law.chain_there d events body own levels shaped straight).is_chain

  task_chain : chain_of d at.task.does ≡ Some chain
  task_chain = ap (chain_of d) at.is ∙ is_chain

  pub has_chained : IsChain d events body chain
  unfolding chain
  has_chained = (law.chain_there d events body own levels shaped straight).chained

  -- ---- what is known of each reset

  -- it is one, and its item is among the events
  abbrev IsListedReset : Guard → Type 0
  IsListedReset guard = IsReset d guard × (items_list (widths d) events guard.item.signal 0 ≡ true)

  resets : Each IsListedReset chain.resets
  resets =
      each_both (IsReset d) (λ (guard : Guard). items_list (widths d) events guard.item.signal 0 ≡ true) IsListedReset (λ g a b. (a, b)) chain.resets
      (law.resets d events body own levels shaped straight chain is_chain)
      (law.of_items d events body own levels shaped straight chain is_chain (λ item. items_list (widths d) events item.signal 0 ≡ true) (all_listed (widths d) events items))

  alone_of : (guard : Guard) → IsListedReset guard → TestsAlone d guard
  alone_of guard (reset, listed) i k read =
      reads_signal_alone d guard.test reset.test.test reset.test.is i k read ∙ sym reset.test.signal

  -- ---- R4

  marked_statements : Each (OfStatement IsMarked) (all_of body)
  marked_statements =
      let own = subst (λ (does : Doing). Each IsMarked (trees does) × Each IsMarked (labels does)) at.is (each_from IsMarked (trees at.task.does) (marked p at.task at.there).0, each_from IsMarked (labels at.task.does) (marked p at.task at.there).1) in
      edge_statements IsMarked events body own.0 own.1

  marked_chain : Each (OfGuard (OfStatement IsMarked) IsMarked (λ test taken other spot m. m.0)) chain.resets × Each (OfStatement IsMarked) (all_of chain.part)
  marked_chain =
      chain_each (OfStatement IsMarked) IsMarked (λ test taken other spot m. m.0) chain.resets chain.part body has_chained.chained marked_statements

  pub inside : (i k : ℕ) → MayWrite (body_flow (widths d) body) i k → k < widths d i
  inside i k may = write_inside d.signals body (edge_body d lawful p events body is) i k may

  register : (i k : ℕ) → k < widths d i → MayWrite (body_flow (widths d) body) i k → IsLasting d i → IsRegisterOf d (Edge' events body) i
  register i k below may lasts =
      record {
        inside = signal_there d.signals i k below;
        writes = some_at (widths d i) _ k below ((decided (body_flow (widths d) body) i k).writes.1 may);
        kept = lasts;
      }

  unrefuted : Each (λ (guard : Guard). (IsResetBranch d (Edge' events body) (all_of guard.branch) → ⊥) → ⊥) chain.resets
  unrefuted =
      each_by_place (λ (guard : Guard). (IsResetBranch d (Edge' events body) (all_of guard.branch) → ⊥) → ⊥) chain.resets
      (λ n guard there. λ refutes. process_refuted (IsResetValue d) (reset_value_at d) d none.r4 p at.task at.there (record {
        chain = chain;
        is_chain = task_chain;
        place = n;
        guard = guard;
        is_guard = there;
        other = λ branch. refutes (subst (λ does. IsResetBranch d does (all_of guard.branch)) at.is branch);
      }))

  constants : Each (λ (guard : Guard). IsConstant d body guard.branch) chain.resets
  constants =
      each_both (OfGuard (OfStatement IsMarked) IsMarked (λ test taken other spot m. m.0)) (λ (guard : Guard). (IsResetBranch d (Edge' events body) (all_of guard.branch) → ⊥) → ⊥) (λ guard. IsConstant d body guard.branch)
      (λ guard m unless. constant d (Edge' events body) body guard.branch inside register unless) chain.resets marked_chain.0 unrefuted

  -- ---- A8

  module _ (i : ℕ) (cone : InCone d i) (below : i < length d.signals) where
    abbrev IsUnnamedTree : Tree → Type 0
    IsUnnamedTree e = Each (IsUnnamed (widths d) i) (nodes e)

    unnamed_chain : Each IsUnnamedTree (chain_trees chain)
    unnamed_chain =
        each_flat (IsUnnamed (widths d) i) nodes (chain_trees chain)
        (subst (λ es. Each (IsUnnamed (widths d) i) (flat_map nodes es)) same (unnamed_data d lawful marked none.a8 p at.task at.there i cone below (no_gate p i (Edge' events body) is tt)))
      where
        passes_none : (does : Doing) → does ≡ Edge' events body → (o : Option Chain) → o ≡ Some chain → chosen_trees d at.task.instance does o ≡ chain_trees chain
        passes_none does e o e' = ap (λ x. chosen_trees d at.task.instance x o) e ∙ ap (chosen_trees d at.task.instance (Edge' events body)) e'

        same : data_trees d at.task ≡ chain_trees chain
        same = passes_none at.task.does at.is (chain_of d at.task.does) task_chain

    unread_statements : (all : Actions) → Each (OfStatement IsMarked) (all_of all) → Each IsUnnamedTree (flat_map statement_trees (all_of all)) → (k : ℕ) → some (reads_bit i k) (body_flow (widths d) all) ≡ false
    unread_statements all marks unnamed k =
        quiet_statements (widths d) i k all
        (each_both (OfStatement IsMarked) (λ one. Each IsUnnamedTree (statement_trees one)) (OfStatement (Unread (widths d) i k))
        (λ one m u. each_both IsMarked IsUnnamedTree (Unread (widths d) i k) (λ e m' u'. unread (widths d) i e m' u' k) (statement_trees one) m u) (all_of all) marks (each_flat IsUnnamedTree statement_trees (all_of all) unnamed))

    part_unread : (k : ℕ) → some (reads_bit i k) (body_flow (widths d) chain.part) ≡ false
    part_unread k =
        unread_statements chain.part marked_chain.1
        (each_right IsUnnamedTree (flat_map (λ (guard : Guard). flat_map statement_trees (all_of guard.branch)) chain.resets) (flat_map statement_trees (all_of chain.part)) unnamed_chain) k

    branches_unread : (k : ℕ) → Each (λ (guard : Guard). some (reads_bit i k) (body_flow (widths d) guard.branch) ≡ false) chain.resets
    branches_unread k =
        let unnamed = each_flat IsUnnamedTree (λ (guard : Guard). flat_map statement_trees (all_of guard.branch)) chain.resets (each_left IsUnnamedTree (flat_map (λ (guard : Guard). flat_map statement_trees (all_of guard.branch)) chain.resets) (flat_map statement_trees (all_of chain.part)) unnamed_chain) in
        each_both (OfGuard (OfStatement IsMarked) IsMarked (λ test taken other spot m. m.0)) (λ (guard : Guard). Each IsUnnamedTree (flat_map statement_trees (all_of guard.branch))) (λ guard. some (reads_bit i k) (body_flow (widths d) guard.branch) ≡ false)
        (λ guard m u. unread_statements guard.branch m.1 u k) chain.resets marked_chain.0 unnamed

    -- a bit of the cone that the body reads is among its events
    among_events : (k : ℕ) → k < widths d i → some (reads_bit i k) (body_flow (widths d) body) ≡ true → items_list (widths d) events i k ≡ true
    among_events k inside' read =
        true_from_ne_false (items_list (widths d) events i k) (λ missing.
        true≢false (sym read ∙ chain_unread (widths d) i k chain.resets chain.part body has_chained.chained (guards missing) (part_unread k)))
      where
        test_unread : items_list (widths d) events i k ≡ false → (guard : Guard) → IsListedReset guard → Unread (widths d) i k guard.test
        test_unread missing guard reset =
            false_from_ne_true (reads (widths d) guard.test i k) (λ reads'.
            let same = alone_of guard reset i k reads' in
            let one = reset.0.item.one_bit in
            let wide : widths d i ≡ 1 = ap (widths d) same ∙ one in
            let first : 0 ≡ k = omega (arith, inside', wide) in
            true≢false (sym (subst (λ n. items_list (widths d) events i n ≡ true) first (subst (λ s. items_list (widths d) events s 0 ≡ true) (sym same) reset.1)) ∙ missing))

        guards : items_list (widths d) events i k ≡ false → Each (λ (guard : Guard). Unread (widths d) i k guard.test × (some (reads_bit i k) (body_flow (widths d) guard.branch) ≡ false)) chain.resets
        guards missing =
            each_both IsListedReset (λ (guard : Guard). some (reads_bit i k) (body_flow (widths d) guard.branch) ≡ false) (λ guard. Unread (widths d) i k guard.test × (some (reads_bit i k) (body_flow (widths d) guard.branch) ≡ false))
            (λ guard reset quiet. (test_unread missing guard reset, quiet)) chain.resets resets (branches_unread k)

  pub tests : (i k : ℕ) → InClockCone d i → ReadsOutside (body_flow (widths d) body) i k → items_list (widths d) events i k ≡ true
  tests i k cone outside =
      let within = outside_inside d.signals body (edge_body d lawful p events body is) i k outside in
      among_events i (clock_cone d i cone) (signal_there d.signals i k within) k within ((decided (body_flow (widths d) body) i k).reads.1 (may_read_outside (body_flow (widths d) body) i k outside))

  apart : (i k : ℕ) → ReadsOutside (body_flow (widths d) chain.part) i k → InClockCone d i → ⊥
  apart i k outside cone =
      let lawful_part = (chain_lawful d.signals chain.resets chain.part body has_chained.chained (edge_body d lawful p events body is)).1 in
      let within = outside_inside d.signals chain.part lawful_part i k outside in
      true≢false (sym ((decided (body_flow (widths d) chain.part) i k).reads.1 (may_read_outside (body_flow (widths d) chain.part) i k outside)) ∙ part_unread i (clock_cone d i cone) (signal_there d.signals i k within) k)

  -- ---- all of it

  no_doubt : HasNoDoubt d
  no_doubt =
      record { x1 = none.x1; z1 = none.z1; x2 = none.x2; x3 = none.x3; c1 = none.c1; c2 = none.c2 }

  body_at : IsBodyOf d p body
  body_at = record { task = at.task; there = at.there; does = does_of at.task.does events body at.is }

  pub formed : IsFormed d events body chain
  formed =
      record {
        chained = has_chained;
        one_reset = async_pair d none.r3 p at.task at.there chain task_chain;
        alone = each_all (TestsAlone d) chain.resets (each_more IsListedReset (TestsAlone d) alone_of chain.resets resets);
        constants = each_all (λ (guard : Guard). IsConstant d body guard.branch) chain.resets constants;
        apart = apart;
        tame = tame_bodies d lawful marked no_doubt p body body_at;
        split = record {
          one_way = mixed_assign d lawful none.a3 p events body is;
          exclusive = exclusive_bodies d lawful marked no_doubt p body body_at;
        };
      }
