-- A process that waits for edges has a chain.
use Rattle.std.proofs.Common.{◌≡◌, ◌∙◌, ℕ, zero, suc, Bool, true, false, not, cond, List, [], ◌∷◌, Option, None, Some, length, map, refl, sym, ap, subst, arith}
use Rattle.std.specs.Prelude.{IsTrue, if◌then◌else◌}
use Rattle.std.specs.List.{find, list_all, list_any}
use Rattle.std.proofs.lemmas.Bool.{and_from, false≢true, lt-ltb, not_from_false, true_from_ne_false}
use Rattle.std.proofs.lemmas.List.Sorted.{All-permutation}
use Rattle.rtl_flat.specs.declared.signal.Signal.{Signal}
use Rattle.rtl_flat.specs.Process.{Watched, Actions, Edge'}
use Rattle.rtl_flat.specs.Signs.{Has, width_in}
use Rattle.rtl_flat.specs.WellFormed.{IsProcess, IsWatched, IsWhole, has_edge}
use Rattle.net_model.specs.Cycle.{Chain, Guard, Tests}
use Rattle.rtl_rule.specs.Parts.{agree}
use Rattle.rtl_flat.specs.Flats.{Flat, widths}
use Rattle.check_sense.specs.Sense.{first_level, has_item}
use Rattle.check_chains.specs.Chains.{chain_in, chain_of, goes_up, has_chain, is_more, is_shapeless, is_turned, tested}
use Rattle.chain_laws.specs.Chained.{ChainsHold, HasChain}
use Rattle.chain_laws.proofs.Branches.{IsLawfulGuard, chain_lawful}
use Rattle.chain_laws.proofs.Chains.{IsFound, IsTested, chain_found}
use Rattle.rtl_rule.proofs.Lists.{Each, all_pass, each_all, each_both, each_false, each_from, each_map, each_more}
use Rattle.chain_laws.proofs.Tests.{tests_level}

width_one : (signals : List Signal) (i : ℕ) → Has (λ s. s.width ≡ 1) signals i → width_in signals i ≡ 1
width_one [] i h = absurd h
width_one (s ∷ signals) zero h = h
width_one (s ∷ signals) (suc i) h = width_one signals i h

-- where no item without an edge is found, each has one
all_edges : (items : List Watched) → (has_item (find (λ (item : Watched). not (has_edge item.edge)) items) ≡ true → ⊥) → Each (λ item. IsTrue (has_edge item.edge)) items
all_edges [] refutes = tt
all_edges (item ∷ items) refutes = by_edge (all_edges items) (has_edge item.edge) refl refutes
  where
    by_edge : ((has_item (find (λ (one : Watched). not (has_edge one.edge)) items) ≡ true → ⊥) → Each (λ one. IsTrue (has_edge one.edge)) items) → (b : Bool) → has_edge item.edge ≡ b → (has_item (cond (not b) (Some item) (find (λ (one : Watched). not (has_edge one.edge)) items)) ≡ true → ⊥) → Each (λ one. IsTrue (has_edge one.edge)) (item ∷ items)
    by_edge rest true e refutes = (e, rest refutes)
    by_edge rest false e refutes = absurd (refutes refl)

-- an edge of a whole signal of one bit
pub record IsEdgeItem (ws : ℕ → ℕ) (item : Watched) : Type 0 where
  pub edged : IsTrue (has_edge item.edge)
  pub whole : IsWhole item.selection
  pub one_bit : ws item.signal ≡ 1

-- a reset of a chain: an edge, with a test of its signal at the level that the edge goes to
pub record IsReset (d : Flat) (guard : Guard) : Type 0 where
  pub item : IsEdgeItem (widths d) guard.item
  pub test : IsTested d guard
  pub level : is_turned guard.item.edge (tested d guard.test) ≡ true → ⊥
  pub sized : IsLawfulGuard d.signals guard

test_is : (d : Flat) (guard : Guard) → IsReset d guard → Tests d guard
test_is d guard reset =
    tests_level d guard reset.test.test reset.sized.0 reset.test.is reset.test.signal reset.item.one_bit reset.item.edged
    (true_from_ne_false (agree (goes_up guard.item.edge) reset.test.test.level)
    (λ isnt. reset.level (ap (is_turned guard.item.edge) reset.test.is ∙ not_from_false _ isnt)))

module _ (d : Flat) (events : List Watched) (body : Actions) (lawful : IsProcess d.signals (Edge' events body)) (levels : has_item (first_level (Edge' events body)) ≡ true → ⊥) (shaped : is_shapeless d (Edge' events body) ≡ true → ⊥) (straight : has_chain (λ chain. list_any (λ (guard : Guard). is_turned guard.item.edge (tested d guard.test)) chain.resets) (chain_of d (Edge' events body)) ≡ true → ⊥) where
  edged : Each (λ item. IsTrue (has_edge item.edge)) events
  edged = all_edges events levels

  pub items : Each (IsEdgeItem (widths d)) events
  items =
      each_both (λ item. IsTrue (has_edge item.edge)) (IsWatched d.signals) (IsEdgeItem (widths d))
      (λ item edge watched. record { edged = edge; whole = watched.whole edge; one_bit = width_one d.signals item.signal (watched.one_bit edge) }) events edged
      (each_from (IsWatched d.signals) events lawful.0)

  -- ---- R1

  has_shape : is_more events ≡ true → chain_of d (Edge' events body) ≡ None → ⊥
  has_shape more missing =
      shaped (and_from _ _ (and_from (is_more events) _ more (all_pass (λ item. has_edge item.edge) events edged)) (ap (λ o. not (has_chain (λ chain. true) o)) missing))

  none_missing : (all : List Watched) → Each (λ item. IsTrue (has_edge item.edge)) all → list_any (λ item. has_edge item.edge) all ≡ true → (is_more all ≡ true → chain_of d (Edge' all body) ≡ None → ⊥) → chain_of d (Edge' all body) ≡ None → ⊥
  none_missing [] edges any refutes missing = false≢true any
  none_missing (clock ∷ []) edges any refutes missing =
      let found : (if list_all (λ item. has_edge item.edge) (clock ∷ []) then chain_in d 0 (clock ∷ []) body else None) ≡ chain_in d 0 (clock ∷ []) body = ap (λ b. if b then chain_in d 0 (clock ∷ []) body else None) (all_pass (λ item. has_edge item.edge) (clock ∷ []) edges) in
      let same = sym found ∙ missing in
      absurd (cc)
  none_missing (clock ∷ next ∷ others) edges any refutes missing =
      refutes (lt-ltb 1 (length (clock ∷ next ∷ others)) (omega arith)) missing

  -- ---- what a chain is

  module _ (chain : Chain) (is_chain : chain_of d (Edge' events body) ≡ Some chain) where
    found : IsFound d events body chain
    found = by_events events is_chain edged
      where
        by_events : (all : List Watched) → chain_of d (Edge' all body) ≡ Some chain → Each (λ item. IsTrue (has_edge item.edge)) all → IsFound d all body chain
        by_events [] e edges = absurd (cc)
        by_events (first ∷ others) e edges =
            chain_found d (length others) (first ∷ others) body chain
            (sym (ap (λ b. if b then chain_in d (length others) (first ∷ others) body else None) (all_pass (λ item. has_edge item.edge) (first ∷ others) edges)) ∙ e)

    -- what holds of each event holds of each reset's
    pub of_items : (P : Watched → Type 0) → Each P events → Each (λ (guard : Guard). P guard.item) chain.resets
    of_items P h =
        let all = each_from P (chain.clock ∷ map (λ (guard : Guard). guard.item) chain.resets) (All-permutation P events (chain.clock ∷ map (λ (guard : Guard). guard.item) chain.resets) found.items (each_all P events h)) in
        each_map P (λ (guard : Guard). guard.item) chain.resets all.1

    -- R2
    abbrev IsStraight : Guard → Type 0
    IsStraight guard = is_turned guard.item.edge (tested d guard.test) ≡ true → ⊥

    are_straight : Each IsStraight chain.resets
    are_straight =
        each_false (λ (guard : Guard). is_turned guard.item.edge (tested d guard.test)) chain.resets
        (λ turned. straight (subst (λ o. has_chain (λ chain. list_any (λ (guard : Guard). is_turned guard.item.edge (tested d guard.test)) chain.resets) o ≡ true) (sym is_chain) turned))

    lawful_parts : Each (IsLawfulGuard d.signals) chain.resets
    lawful_parts = (chain_lawful d.signals chain.resets chain.part body found.chained lawful.2).0

    abbrev IsItem : Guard → Type 0
    IsItem guard = IsEdgeItem (widths d) guard.item

    pub resets : Each (IsReset d) chain.resets
    resets =
        let gs = chain.resets in
        each_both (λ guard. IsItem guard × IsTested d guard) (λ guard. IsStraight guard × IsLawfulGuard d.signals guard) (IsReset d)
        (λ guard a b. record { item = a.0; test = a.1; level = b.0; sized = b.1 }) gs
        (each_both IsItem (IsTested d) (λ guard. IsItem guard × IsTested d guard) (λ g a b. (a, b)) gs (of_items (IsEdgeItem (widths d)) items) found.tests)
        (each_both IsStraight (IsLawfulGuard d.signals) (λ guard. IsStraight guard × IsLawfulGuard d.signals guard) (λ g a b. (a, b)) gs are_straight lawful_parts)

  by_chain : (o : Option Chain) → chain_of d (Edge' events body) ≡ o → HasChain d events body
  by_chain None missing = absurd (none_missing events edged lawful.1 has_shape missing)
  by_chain (Some chain) is =
      record {
        chain = chain;
        is_chain = is;
        chained = record {
          chained = (found chain is).chained;
          items = (found chain is).items;
          tests = each_all (Tests d) chain.resets (each_more (IsReset d) (Tests d) (test_is d) chain.resets (resets chain is));
        };
      }

  pub chain_there : HasChain d events body
  chain_there = by_chain (chain_of d (Edge' events body)) refl

pub chains_hold : (d : Flat) → ChainsHold d
chains_hold d = chain_there d
