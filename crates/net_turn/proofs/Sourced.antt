-- What is inferred says where clocks and resets come from.
use Rattle.std.proofs.Common.{◌≡◌, ◌∙◌, ◌<◌, ◌≤◌, ◌*◌, ℕ, suc, List, [], ◌∷◌, All, Option, None, Some, length, refl, sym, ap, subst, arith}
use Rattle.std.specs.List.{slice_get}
use Rattle.std.specs.Option.{IsSomeAnd, unwrap_or}
use Rattle.std.proofs.lemmas.List.{length-map}
use Rattle.std.proofs.lemmas.List.Elements.{All-cons, All-nil}
use Rattle.std.proofs.Math.Nat.{mul-le-mul_left}
use Rattle.rtl_flat.specs.declared.design.Design.{Design}
use Rattle.rtl_flat.specs.declared.expr.SigId.{SigId}
use Rattle.rtl_flat.specs.Paths.{MayWrite}
use Rattle.rtl_flat.specs.Process.{Actions, Assign, Comb, Doing, Edge', Task, Watched}
use Rattle.event_model.specs.Queue.{doing_at, doing_of}
use Rattle.rtl_flat.specs.Flats.{flat, widths}
use Rattle.net_settle.proofs.event_runs_proofs.Writers.{to_process}
use Rattle.net_model.specs.Cycle.{Chain, Guard, IsChained}
use Rattle.net_list.specs.check_chains.Chains.{chain_of}
use Rattle.net_list.specs.check_chains.Views.{chain_view, guard_view}
use Rattle.net_model.specs.Gates.{ComesFrom}
use Rattle.rtl_rule.proofs.Lists.{each_all, each_from, each_more}
use Rattle.net_list.specs.declared.clocked.Clocked.{Clocked}
use Rattle.net_list.specs.Chosen.{AreClocked, IsClocked, chain_in, chains_of, no_chain}
use Rattle.net_list.specs.Faults.{AreFormed}
use Rattle.net_list.proofs.Formed.{are_chains, task_of}
use Rattle.net_settle.specs.net_body.Levels.{levels_of}
use Rattle.net_settle.proofs.Given.{input_there}
use Rattle.net_settle.specs.net_solve.Laws.{place}
use Rattle.net_settle.proofs.Lawful.{lawful_flat}
use Rattle.net_turn.specs.Runs.{numbers_of}
use Rattle.net_turn.specs.Sources.{AreFrom, AreSources, CanRun, IsFrom, IsSource, processes_of}
use Rattle.net_turn.proofs.Bridges.{behind, is_top}
use Rattle.net_turn.proofs.Numbered.{found, rising, waits}
use Rattle.net_turn.proofs.Parted.{part_lawful, part_levels, part_may}

module _ (design : Design) (formed : AreFormed (flat design)) where
  comes_from : (top i : ℕ) → ComesFrom (flat design) top i → IsFrom (flat design) top i
  comes_from top i comes =
      record { input = is_top design top comes.input; behind = behind design top i comes }

  all_from : (tops : List SigId) (guards : List Guard) → length tops ≡ length guards → ((k : ℕ) (guard : Guard) (top : SigId) → slice_get guards k ≡ Some guard → slice_get tops k ≡ Some top → ComesFrom (flat design) top.0 guard.item.signal) → AreFrom (flat design) (numbers_of tops) guards
  all_from [] [] e each = tt
  all_from [] (guard ∷ guards) e each = absurd (omega (arith, e))
  all_from (top ∷ tops) [] e each = absurd (omega (arith, e))
  all_from (top ∷ tops) (guard ∷ guards) e each = (
    comes_from top.0 guard.item.signal (each 0 guard top refl refl),
    all_from tops guards (omega (arith, e)) (λ k one other there there'. each (suc k) one other there there'),
  )

  -- a process that has a chain waits for edges
  record Waiting (one : Clocked) : Type 0 where
    pub events : List Watched
    pub body : Actions
    pub does : doing_at (flat design) one.process.0 ≡ Some (Edge' events body)
    pub chain : chains_of (flat design) one.process.0 ≡ chain_view one.chain

  waiting : (one : Clocked) → IsClocked (flat design) one → Waiting one
  waiting one clocked = by_task (slice_get (flat design).tasks one.process.0) refl clocked.chain
    where
      by_doing : (task : Task) → slice_get (flat design).tasks one.process.0 ≡ Some task → (does : Doing) → task.does ≡ does → chain_of (flat design) does ≡ Some (chain_view one.chain) → Waiting one
      by_doing task there (Assign target e) is none = absurd (cc)
      by_doing task there (Comb list body) is none = absurd (cc)
      by_doing task there (Edge' events body) is some = record {
        events = events;
        body = body;
        does = ap doing_of there ∙ ap Some is;
        chain = ap (λ o. unwrap_or (chain_in (flat design) o) no_chain) there
            ∙ (ap (λ x. unwrap_or (chain_of (flat design) x) no_chain) is ∙ ap (λ o. unwrap_or o no_chain) some);
      }

      by_task : (o : Option Task) → slice_get (flat design).tasks one.process.0 ≡ o → IsSomeAnd o (λ task. chain_of (flat design) task.does ≡ Some (chain_view one.chain)) → Waiting one
      by_task None there none = absurd none
      by_task (Some task) there is = by_doing task there task.does refl is

  chained : (one : Clocked) (w : Waiting one) → IsChained (chain_view one.chain).resets (chain_view one.chain).part w.body
  chained one w =
      subst (λ (c : Chain). IsChained c.resets c.part w.body) w.chain
      (are_chains design formed one.process.0 w.events w.body w.does).chained

  source : (one : Clocked) → IsClocked (flat design) one → IsSource (flat design) (chains_of (flat design)) one
  source one clocked =
      let w = waiting one clocked in
      let is = chained one w in
      let lawful = (lawful_flat design one.process.0 (Edge' w.events w.body) w.does).2 in
      record {
        events = w.events;
        body = w.body;
        does = w.does;
        chain = w.chain;
        clock = comes_from one.clock.0 (chain_view one.chain).clock.signal clocked.clock;
        resets = all_from one.resets.items (chain_view one.chain).resets clocked.as_many clocked.resets;
        lawful = part_lawful (flat design) (chain_view one.chain) w.body is lawful;
        own = λ part of i k may.
            to_process MayWrite (flat design) one.process.0 i k (Edge' w.events w.body) w.does
            (part_may (widths (flat design)) (chain_view one.chain) w.body is part of i k may);
      }

  pub sources : (all : List Clocked) → AreClocked (flat design) all → AreSources (flat design) (chains_of (flat design)) all
  sources all clocked =
      let numbers : processes_of all ≡ waits 0 (flat design).tasks = clocked.numbers in
      let count = length-map all (λ (one : Clocked). one.process.0) in
      let many : length all ≡ length (waits 0 (flat design).tasks) = sym count ∙ ap length numbers in
      record {
        each = each_all (IsSource (flat design) (chains_of (flat design))) all
            (each_more (IsClocked (flat design)) (IsSource (flat design) (chains_of (flat design))) source all (each_from (IsClocked (flat design)) all clocked.each));
        once = λ s t less below same.
            let rise = rising 0 (flat design).tasks s t less (omega (arith, below, many)) in
            let e : place (waits 0 (flat design).tasks) s ≡ place (waits 0 (flat design).tasks) t
            = sym (ap (λ xs. place xs s) numbers) ∙ (same ∙ ap (λ xs. place xs t) numbers) in
            absurd (omega (arith, rise, e));
        there = λ p events body here.
            let (task, there, does) = task_of (flat design).tasks p (Edge' events body) here in
            let (t, below, is) = found 0 (flat design).tasks p task events body there does in
            (t, omega (arith, below, many), ap (λ xs. place xs t) numbers ∙ (is ∙ omega arith));
      }

  -- ---- what runs stand on

  tops_there : (tops : List SigId) (guards : List Guard) → AreFrom (flat design) (numbers_of tops) guards → All (λ (top : SigId). top.0 < length design.signals.items) tops
  tops_there [] guards are = All-nil (λ (top : SigId). top.0 < length design.signals.items)
  tops_there (top ∷ tops) [] are = absurd are
  tops_there (top ∷ tops) (guard ∷ guards) are =
      All-cons (λ (one : SigId). one.0 < length design.signals.items) top tops (input_there (flat design) top.0 are.0.input) (tops_there tops guards are.1)

  can : (one : Clocked) → IsClocked (flat design) one → CanRun design one
  can one clocked =
      let w = waiting one clocked in
      let is = chained one w in
      let own = source one clocked in
      record {
        clock = input_there (flat design) one.clock.0 own.clock.input;
        as_many = clocked.as_many ∙ length-map one.chain.resets.items guard_view;
        tops = tops_there one.resets.items (chain_view one.chain).resets own.resets;
        lawful = own.lawful;
        room = λ part of m able same.
            let small = part_levels (chain_view one.chain) w.body is part of in
            let roomy : levels_of w.body * length m.design.now.signals.items ≤ length m.room.items
            = able.clocked one.process.0 w.events w.body (subst (λ (x : Design). doing_at (flat x) one.process.0 ≡ Some (Edge' w.events w.body)) (sym same) w.does) in
            omega (arith, mul-le-mul_left (length m.design.now.signals.items) small, roomy);
      }

  pub can_run : (all : List Clocked) → AreClocked (flat design) all → All (CanRun design) all
  can_run all clocked =
      each_all (CanRun design) all (each_more (IsClocked (flat design)) (CanRun design) can all (each_from (IsClocked (flat design)) all clocked.each))
