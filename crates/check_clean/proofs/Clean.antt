-- A design without findings of the first grade is clean.
use Rattle.std.proofs.Common.{◌≡◌, ◌∙◌, ◌<◌, ◌⊎◌, ℕ, Bool, true, false, List, [], Option, None, Some, refl, sym, ap, subst, inl, inr}
use Rattle.std.specs.Prelude.{◌==◌, ◌||◌, IsTrue}
use Rattle.std.specs.List.{All, slice_get}
use Rattle.std.specs.Option.{IsSomeAnd}
use Rattle.rtl_bits.specs.declared.Edge.TheVariants.{No}
use Rattle.rtl_flat.specs.declared.signal.Kind.{Kind}
use Rattle.rtl_flat.specs.declared.signal.Kind.TheVariants.{TopInput, Net, Var}
use Rattle.rtl_flat.specs.declared.signal.Signal.{Signal}
use Rattle.rtl_flat.specs.Flows.{flow_of, may_target}
use Rattle.rtl_flat.specs.Paths.{MayWrite}
use Rattle.rtl_flat.specs.Process.{Whole, Piece, Watched, Actions, Done, Doing, Assign, Comb, Edge', Task}
use Rattle.rtl_flat.specs.Signs.{Has, width_in}
use Rattle.rtl_flat.specs.WellFormed.{has_edge}
use Rattle.rtl_flat.specs.Expression.{Tree}
use Rattle.rtl_flat.proofs.Paths.{decided}
use Rattle.event_model.specs.Queue.{doing_at, doing_of, is_input, is_input_kind, is_input_of}
use Rattle.check_laws.specs.event_laws.Steady.{AreLawful}
use Rattle.check_laws.specs.event_runs.Writers.{IsSole}
use Rattle.std.proofs.lemmas.Bool.{and_from, eq-eqb, false≢true}
use Rattle.sign_cycles.proofs.event_edges_proofs.Hearing.{passing}
use Rattle.check_laws.specs.check_chains.Chains.{chain_of}
use Rattle.sign_cycles.specs.event_edges.Synchronous.{IsItem, IsSynchronous}
use Rattle.net_model.proofs.Gates.{clock_control}
use Rattle.net_model.specs.Control.{IsClockOrReset, IsFromTop, IsReached, waits_for}
use Rattle.net_model.specs.Cycle.{AreChains, Chain, IsChain}
use Rattle.net_model.specs.Gates.{Gate}
use Rattle.net_model.specs.Solution.{IsLasting, IsRegisterBit}
use Rattle.sign_cycles.specs.net_rest.Rest.{IsComputed, IsComputing, IsSolvable}
use Rattle.sign_cycles.specs.Formed.{IsFormed}
use Rattle.sign_cycles.specs.PowerUp.{CanAllWake}
use Rattle.rtl_flat.specs.Flats.{Flat, Parts, widths}
use Rattle.check_laws.specs.Cases.{Does, IsBodyOf}
use Rattle.check_laws.specs.Designs.{IsEdge}
use Rattle.check_laws.specs.Expressions.{AreMarked, HasNoDoubt}
use Rattle.check_laws.proofs.Bodies.{exclusive_bodies, firm_assigns, tame_bodies}
use Rattle.check_laws.proofs.Clocks.{derived_clock, derived_clock_once, each_place}
use Rattle.check_laws.proofs.Designs.{comb_loop_alone, latch_inferred, mixed_edges, never_wakes, nonblocking_comb, sense_missing, several_drivers, undriven}
use Rattle.check_laws.proofs.Temporaries.{blocking_state}
use Rattle.rtl_rule.proofs.Lists.{each_all, each_from}
use Rattle.check_laws.proofs.Sites.{task_of}
use Rattle.check_clean.specs.Clean.{CleanByRules, IsCleanDesign}
use Rattle.check_all.specs.Rules.{HasNoFinding}
use Rattle.check_all.specs.check_gates.Admitted.{AreGates}
use Rattle.check_clean.proofs.Cone.{goes}
use Rattle.check_clean.proofs.Gated.{gate_alone, gated, heard}
use Rattle.check_laws.proofs.chain_laws_proofs.Chained.{IsEdgeItem}
use Rattle.check_clean.proofs.Formed.{chain, formed, has_chained, is_chain, items, tests}
use Rattle.check_clean.proofs.Choices.{formed_too}
use Rattle.check_clean.proofs.Levels.{ascends, level_of}
use Rattle.check_all.proofs.Without.{no_finding}
use Rattle.check_clean.proofs.Sources.{sources_decided}

module _ (d : Flat) (lawful : AreLawful d) (marked : AreMarked d) (none : HasNoFinding d) (gates : List (ℕ × Gate)) (are_gates : AreGates d gates) where
  no_doubt : HasNoDoubt d
  no_doubt =
      record { x1 = none.x1; z1 = none.z1; x2 = none.x2; x3 = none.x3; c1 = none.c1; c2 = none.c2 }

  -- ---- what computes

  -- no other process may write a bit that one may
  sole : (p : ℕ) (does : Doing) → doing_at d p ≡ Some does → (i k : ℕ) → MayWrite (flow_of (widths d) does) i k → IsSole d p i k
  sole p does is i k may q other there = by_task (slice_get d.tasks q) refl there
    where
      by_task : (o : Option Task) → slice_get d.tasks q ≡ o → IsSomeAnd o (λ task. MayWrite (flow_of (width_in d.signals) task.does) i k) → ⊥
      by_task None e missing = missing
      by_task (Some task) e may' =
          other (several_drivers d lawful none.a4 q p task.does does (ap doing_of e) is i k may' may)

  target_may : (target : List Piece) (e : Tree) (i k : ℕ) → may_target (widths d) target i k ≡ true → MayWrite (flow_of (widths d) (Assign target e)) i k
  target_may target e i k h =
      (decided (flow_of (widths d) (Assign target e)) i k).writes.0 (last_or (may_target (widths d) target i k) h)
    where
      last_or : (b : Bool) → b ≡ true → (b || false) ≡ true
      last_or true e' = refl
      last_or false e' = e'

  does_comb : (does : Doing) (list : Option (List Watched)) (body : Actions) → does ≡ Comb list body → Does does body
  does_comb does list body is = subst (λ x. Does x body) (sym is) refl

  computing : (p : ℕ) (list : Option (List Watched)) (body : Actions) → doing_at d p ≡ Some (Comb list body) → IsComputing d p list body
  computing p list body is =
      let at = task_of d p (Comb list body) is in
      let of_body : IsBodyOf d p body = record { task = at.task; there = at.there; does = does_comb at.task.does list body at.is } in
      record {
        plain = record {
          lists = sense_missing d lawful none.s1 p list body is;
          no_late = nonblocking_comb d lawful none.a2 p list body is;
          apart = comb_loop_alone d none.a6 p list body is;
          alone = λ i k may. sole p (Comb list body) is i k may;
        };
        tame = tame_bodies d lawful marked no_doubt p body of_body;
        exclusive = exclusive_bodies d lawful marked no_doubt p body of_body;
        computes = latch_inferred d lawful gates are_gates none.l1 p list body is;
      }

  sourced : (i k : ℕ) → k < widths d i → IsLasting d i → IsTrue (is_input d i) ⊎ (IsRegisterBit d i k ⊎ IsComputed d i k)
  sourced i k below lasts =
      elim (undriven d none.a5 i k below lasts) [
        | inl input ↦ inl input
        | inr (inl register) ↦ inr (inl register)
        | inr (inr computed) ↦ inr (inr (record { process = computed.process; node = computed.node; may = computed.may }))
      ]

  solvable : IsSolvable d (level_of d lawful)
  solvable =
      record {
        lawful = lawful;
        ascends = ascends d lawful none.a6;
        sourced = sourced;
        firm = firm_assigns d lawful marked no_doubt;
        sole = λ p target e is i k may. sole p (Assign target e) is i k (target_may target e i k may);
        computing = computing;
        gated = gated d lawful;
      }

  -- ---- clocks and resets

  item_of : (P : Watched → Type 0) (p : ℕ) (events : List Watched) (body : Actions) (item : Watched) → IsItem d p events body item → All P events → P item
  item_of P p events body item is all = each_place P events (each_from P events all) is.place item is.there

  edge_of : (p : ℕ) (events : List Watched) (body : Actions) (item : Watched) → IsItem d p events body item → IsTrue (has_edge item.edge)
  edge_of p events body item is =
      item_of (λ one. IsTrue (has_edge one.edge)) p events body item is (mixed_edges d none.s3 p events body is.does)

  top_input : (c : ℕ) → IsTrue (is_input d c) → Has (λ signal. signal.kind ≡ TopInput) d.signals c
  top_input c input = by_signal (slice_get d.signals c) input
    where
      by_kind : (kind : Kind) → is_input_kind kind ≡ true → kind ≡ TopInput
      by_kind TopInput h = refl
      by_kind Net h = absurd (false≢true h)
      by_kind Var h = absurd (false≢true h)

      by_signal : (o : Option Signal) → is_input_of o ≡ true → IsSomeAnd o (λ signal. signal.kind ≡ TopInput)
      by_signal None h = absurd (false≢true h)
      by_signal (Some signal) h = by_kind signal.kind h

  once : (p : ℕ) (events : List Watched) (body : Actions) (a b : Watched) → IsItem d p events body a → IsItem d p events body b → (c : ℕ) → IsTrue (is_input d c) → IsReached d c a.signal → IsReached d c b.signal → a.signal ≡ b.signal
  once p events body a b first second c input reached reached' =
      let clock : IsClockOrReset d c = record {
        input = input;
        signal = a.signal;
        reached = reached;
        edges = record {
          process = p;
          events = events;
          body = body;
          does = first.does;
          waits = passing (waits_for a.signal) events first.place a first.there (and_from (a.signal == a.signal) _ (eq-eqb a.signal a.signal refl) (edge_of p events body a first));
        };
      } in
      let same = derived_clock_once d none.a7 p events body first.does first.place second.place a b first.there second.there c (record { input = top_input c input; goes = goes d lawful marked none.a8 c (clock_control d c clock) a.signal reached }) (record { input = top_input c input; goes = goes d lawful marked none.a8 c (clock_control d c clock) b.signal reached' }) in
      let both : Some a ≡ Some b = sym first.there ∙ ap (slice_get events) same ∙ second.there in
      ap (λ (x : Watched). x.signal) (some_same a b both)
    where
      some_same : (x y : Watched) → Some x ≡ Some y → x ≡ y
      some_same x y e = cc

  synchronous : IsSynchronous d
  synchronous =
      record {
        lawful = lawful;
        blocking = blocking_state d lawful none.a1;
        no_late = nonblocking_comb d lawful none.a2;
        alone = several_drivers d lawful none.a4;
        edges = edge_of;
        clocks = λ p events body item is. item_of (λ one. IsFromTop d one.signal) p events body item is (derived_clock d (sources_decided d) none.a7 p events body is.does);
        once = once;
        heard = heard d lawful marked none;
        tests = λ p events body is. tests d lawful marked none p events body is;
      }

  wakes : CanAllWake d
  wakes p list body is =
      let waking = never_wakes d none.s2 p list body is in
      record {
        signal = waking.signal;
        place = waking.bit;
        inside = waking.inside;
        listed = waking.listed;
        source = elim waking.source [
          | inl input ↦ inl input
          | inr (q, other, may) ↦ inr (record { process = q; other = other; may = may })
        ];
      }

  -- ---- registers

  -- of what isn't a chain
  abbrev no_chain : Chain
  no_chain =
      record {
        resets = [];
        clock = record { signal = 0; selection = Whole; edge = No; spot = record { file = 0; at = 0 } };
        part = Done;
      }

  abbrev or_none : Option Chain → Chain
  or_none None = no_chain
  or_none (Some chain) = chain

  abbrev chain_at : Option Doing → Option Chain
  chain_at None = None
  chain_at (Some does) = chain_of d does

  chains : ℕ → Chain
  chains p = or_none (chain_at (doing_at d p))

  chains_are : (p : ℕ) (events : List Watched) (body : Actions) → (is : IsEdge d p events body) → chains p ≡ chain d lawful marked none p events body is
  unfolding chains
  chains_are p events body is =
      ap (λ o. or_none (chain_at o)) is ∙ ap or_none (is_chain d lawful marked none p events body is)

  chained : AreChains d chains
  chained p events body is =
      subst (IsChain d events body) (sym (chains_are p events body is)) (has_chained d lawful marked none p events body is)

  -- whichever chains are taken
  all_formed : (choice : ℕ → Chain) → AreChains d choice → (p : ℕ) (events : List Watched) (body : Actions) → doing_at d p ≡ Some (Edge' events body) → IsFormed d events body (choice p)
  all_formed choice are p events body is =
      formed_too d events body (each_all (IsEdgeItem (widths d)) events (items d lawful marked none p events body is)) (chain d lawful marked none p events body is) (choice p) (formed d lawful marked none p events body is) (are p events body is)

  pub clean_design : IsCleanDesign d
  clean_design =
      record {
        chains = chains;
        chained = chained;
        level = level_of d lawful;
        clean = λ choice are. record {
          solvable = solvable;
          synchronous = synchronous;
          formed = all_formed choice are;
          gates = gate_alone d lawful marked none gates are_gates;
        };
        wakes = wakes;
      }

pub clean : (d : Parts) → CleanByRules d
clean d lawful marked findings are is =
    clean_design d.flat lawful marked (no_finding d findings are is) are.gates are.are_gates
