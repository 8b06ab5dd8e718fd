-- What a step stands on, and what it leaves.
use Rattle.std.proofs.Common.{◌≡◌, ◌∙◌, ◌<◌, ℕ, Bool, false, true, slice_index_or, List, [], length, get_or, sym, ap, subst}
use Rattle.std.specs.List.{All}
use Rattle.std.specs.Prelude.{◌↔◌}
use Rattle.std.proofs.Math.Logic.{∥∥₁_elim}
use Rattle.std.proofs.Props.{props}
use Rattle.std.proofs.lemmas.List.Elements.{All-from_get_or, All-get_or}
use Rattle.rtl_bits.specs.declared.Bit.{Bit}
use Rattle.rtl_flat.specs.declared.act.ProcId.{ProcId}
use Rattle.rtl_flat.specs.declared.design.Design.{Design}
use Rattle.rtl_flat.specs.Value.{store}
use Rattle.rtl_flat.specs.Flats.{Flat, flat, widths}
use Rattle.event_model.specs.Writes.{Values}
use Rattle.net_model.proofs.Gates.{control_input}
use Rattle.net_model.specs.Gates.{IsControl}
use Rattle.net_model.specs.Cycle as cycle
use Rattle.net_model.specs.Cycle.{Chain, IsCycle, Setting}
use Rattle.net_model.specs.Lawful.{IsLawfulStep, SetsData}
use Rattle.infer_regs.specs.net_list.declared.netlist.Netlist.{Netlist}
use Rattle.net_turn.specs.net_body.declared.maps.Maps.{Maps}
use Rattle.net_order.specs.net_solve.Laws.{AreApart, IsOrder}
use Rattle.net_turn.specs.net_settle.Work.{IsAble, numbers_of}
use Rattle.net_turn.specs.net_settle.Settle.{IsSolved, MakesCycle, SetsInput}
use Rattle.net_turn.proofs.Bridges.{apart}
use Rattle.net_turn.proofs.Sourced.{can_run, sources}
use Rattle.net_turn.specs.Sources.{CanRun}
use Rattle.net_turn.specs.Steps.{Turns}
use Rattle.netlist_eval.specs.Holding.{IsSimulator}
use Rattle.netlist_eval.specs.Netlists.{chains_in, flat_in}
use Rattle.netlist_eval.proofs.Once.{able_one, apart_one, can_one, cycle_one, sets_all_one, sets_one}
use Rattle.netlist_eval.proofs.Ordered.{order_back}

data_set : (d : Flat) (setting : Setting) → SetsData d setting → SetsInput d setting
data_set d setting sets =
    record { input = sets.data_input.input; wide = sets.can_be.wide; known = sets.can_be.known }

no_setting : Setting
no_setting = record { input = 0; number = [] }

data_sets : (d : Flat) (all : List Setting) → All (SetsData d) all → All (SetsInput d) all
data_sets d all sets =
    All-from_get_or (SetsInput d) all no_setting
    (λ i below. data_set d (get_or all i no_setting) (All-get_or (SetsData d) all i no_setting below sets))

-- which processes may run is known of the design alone
pub can_all : (netlist : Netlist) → All (CanRun netlist.design.now) netlist.clocked.items
can_all netlist =
    ∥∥₁_elim netlist.chosen (can_one netlist.design.now netlist.clocked.items)
    (λ clocked. can_run netlist.design.now netlist.formed netlist.clocked.items clocked)

module _ (netlist : Netlist) (order : List ProcId) (m : Maps) (before after : List (List Bit)) (controls : List Bool) (kept : ∥ IsSimulator netlist order m before after controls ∥₁) where
  pub able : IsAble m
  able = ∥∥₁_elim kept (able_one m) (λ s. s.able)

  pub is_order : IsOrder (flat m.design.now) (numbers_of order)
  is_order =
      order_back (flat m.design.now) (numbers_of order) (∥∥₁_elim kept (hlevel props) (λ s. ∣ s.is_order ∣₁))

  pub is_apart : AreApart (flat m.design.now)
  is_apart =
      ∥∥₁_elim kept (apart_one (flat m.design.now))
      (λ s. subst (λ (d : Design). AreApart (flat d)) (sym s.design) (apart netlist.design.now netlist.apart))

  pub can : All (CanRun m.design.now) netlist.clocked.items
  can =
      ∥∥₁_elim kept (can_one m.design.now netlist.clocked.items)
      (λ s. subst (λ (d : Design). All (CanRun d) netlist.clocked.items) (sym s.design) (can_all netlist))

  pub room : length before ≡ length m.design.now.signals.items
  room = ∥∥₁_elim kept (hlevel props) (λ s. s.room)

  pub more_room : length after ≡ length m.design.now.signals.items
  more_room = ∥∥₁_elim kept (hlevel props) (λ s. s.more_room)

  pub same_width : (i : ℕ) → length (store m.numbers.items i) ≡ widths (flat_in netlist) i
  same_width i =
      ∥∥₁_elim kept (hlevel props)
      (λ s. s.able.numbers.wide i ∙ ap (λ (d : Design). widths (flat d) i) s.design)

  pub there : (i : ℕ) → i < length (flat_in netlist).signals → i < length m.numbers.items
  there i below =
      ∥∥₁_elim kept (hlevel props)
      (λ s. subst (λ n. i < n) s.able.ready.kept.stored (subst (λ (d : Design). i < length d.signals.items) (sym s.design) below))

  pub control_is : (i : ℕ) (b : Bool) → b ≡ slice_index_or controls i false → b ≡ true ↔ ∥ IsControl (flat_in netlist) i ∥₁
  control_is i b same = (
    λ h. ∥∥₁_elim kept (hlevel props) (λ s. (s.controls_are i).0 (sym same ∙ h)),
    λ is. ∥∥₁_elim kept (hlevel props) (λ s. same ∙ (s.controls_are i).1 is),
  )

  pub data_inputs : (n : Values) (all : List Setting) → ∥ IsLawfulStep (flat_in netlist) n (cycle.Data all) ∥₁ → All (SetsInput (flat m.design.now)) all
  data_inputs n all lawful =
      ∥∥₁_elim kept (sets_all_one (flat m.design.now) all)
      (λ s. ∥∥₁_elim lawful (sets_all_one (flat m.design.now) all)
      (λ sets. subst (λ (d : Design). All (SetsInput (flat d)) all) (sym s.design) (data_sets (flat_in netlist) all sets)))

  pub turned_input : (n : Values) (setting : Setting) → ∥ IsLawfulStep (flat_in netlist) n (cycle.Turn setting) ∥₁ → SetsInput (flat m.design.now) setting
  turned_input n setting lawful =
      ∥∥₁_elim kept (sets_one (flat m.design.now) setting)
      (λ s. ∥∥₁_elim lawful (sets_one (flat m.design.now) setting)
      (λ turns. subst (λ (d : Design). SetsInput (flat d) setting) (sym s.design)
      (record { input = control_input (flat_in netlist) setting.input turns.control; wide = turns.can_be.wide; known = turns.can_be.known })))

  abbrev old : Values
  old = store m.numbers.items

  pub data_cycle :
      (step : cycle.Step) (new : Values) →
      (IsSolved (flat m.design.now) netlist.fill old → MakesCycle (flat m.design.now) netlist.fill old step new) →
      IsCycle (flat_in netlist) (chains_in netlist) netlist.fill old step new
  data_cycle step new makes =
      ∥∥₁_elim kept (cycle_one (flat_in netlist) (chains_in netlist) netlist.fill old step new)
      (λ s. subst (λ (d : Design). IsCycle (flat d) (chains_in netlist) netlist.fill old step new) s.design (makes s.solved (chains_in netlist)))

  pub turn_cycle :
      (setting : Setting) (new : Values) → Turns (flat m.design.now) netlist.fill netlist.clocked.items old setting new →
      IsCycle (flat_in netlist) (chains_in netlist) netlist.fill old (cycle.Turn setting) new
  turn_cycle setting new turns =
      ∥∥₁_elim kept (cycle_one (flat_in netlist) (chains_in netlist) netlist.fill old (cycle.Turn setting) new)
      (λ s. ∥∥₁_elim netlist.chosen (cycle_one (flat_in netlist) (chains_in netlist) netlist.fill old (cycle.Turn setting) new)
      (λ clocked.
      let here = subst (λ (d : Design). Turns (flat d) netlist.fill netlist.clocked.items old setting new) s.design turns in
      let solved = subst (λ (d : Design). IsSolved (flat d) netlist.fill old) s.design s.solved in
      here.cycle (chains_in netlist) solved.0 (sources netlist.design.now netlist.formed netlist.clocked.items clocked) solved.1))

  -- what is kept after a step
  pub kept_after :
      (m' : Maps) (before' after' : List (List Bit)) (step : cycle.Step) →
      IsAble m' → m'.design ≡ m.design → length before' ≡ length before → length after' ≡ length after →
      IsCycle (flat_in netlist) (chains_in netlist) netlist.fill old step (store m'.numbers.items) →
      ∥ IsSimulator netlist order m' before' after' controls ∥₁
  kept_after m' before' after' step able' same_design as_many as_many' is_cycle =
      ∥∥₁_elim kept (hlevel props)
      (λ s.
      let same : m'.design.now ≡ m.design.now = ap (λ r. r.now) same_design in
      let count : length m.design.now.signals.items ≡ length m'.design.now.signals.items = ap (λ (d : Design). length d.signals.items) (sym same) in
      ∣ record {
        design = same ∙ s.design;
        able = able';
        is_order = subst (λ (d : Design). IsOrder (flat d) (numbers_of order)) (sym same) s.is_order;
        solved = subst (λ (d : Design). IsSolved (flat d) netlist.fill (store m'.numbers.items)) (sym (same ∙ s.design)) (old, is_cycle.rest);
        room = as_many ∙ (s.room ∙ count);
        more_room = as_many' ∙ (s.more_room ∙ count);
        controls_are = s.controls_are;
      } ∣₁)
