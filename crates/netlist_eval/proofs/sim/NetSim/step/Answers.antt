use Rattle.std.proofs.Common.{◌≡◌, ◌∙◌, ◌++◌, List, drop, length, map, take, refl, sym, ap, subst}
use Rattle.std.specs.List.{All}
use Rattle.rtl_bits.specs.declared.Bit.{Bit}
use Rattle.rtl_flat.specs.declared.act.ProcId.{ProcId}
use Rattle.rtl_flat.specs.Value.{store}
use Rattle.net_start.proofs.rtl_scan_proofs.Users.{written_back}
use Rattle.rtl_flat.specs.Flats.{flat}
use Rattle.net_model.specs.Cycle as cycle
use Rattle.net_model.specs.Cycle.{IsCycle}
use Rattle.infer_regs.specs.net_list.declared.clocked.Clocked.{Clocked}
use Rattle.net_order.specs.net_solve.Laws.{IsOrder}
use Rattle.net_turn.specs.Sources.{CanRun}
use Rattle.net_turn.specs.Steps.{Turns}
use Rattle.net_turn.specs.net_settle.Work.{numbers_of}
use Rattle.net_turn.specs.net_settle.Settle.{setting_view}
use Rattle.netlist_eval.specs.declared.step.Step.{Step}
use Rattle.netlist_eval.specs.Netlists.{chains_in, flat_in}
use Rattle.netlist_eval.specs.Sims.{netlist_of, shown}
use Rattle.netlist_eval.specs.Steps.{IsLawful, step_view}
use Rattle.netlist_eval.proofs.Stepping.{able, can, data_cycle, data_inputs, is_apart, is_order, kept_after, more_room, room, turn_cycle, turned_input}
use Rattle.netlist_eval.proofs.sim.NetSim.step.Goals as goal

pub settle-requires-clause-able : goal.settle-requires-clause-able
settle-requires-clause-able c =
    let s = c.args.self.now in
    able (netlist_of s) s.order.items s.maps s.before.items s.after.items s.controls.items s.is_simulator

pub settle-requires-clause-order : goal.settle-requires-clause-order
settle-requires-clause-order c =
    let s = c.args.self.now in
    subst (λ (l : List ProcId). IsOrder (flat s.maps.design.now) (numbers_of l)) (sym c.deref.ensures.value)
    (is_order (netlist_of s) s.order.items s.maps s.before.items s.after.items s.controls.items s.is_simulator)

pub settle-requires-clause-apart : goal.settle-requires-clause-apart
settle-requires-clause-apart c =
    let s = c.args.self.now in
    is_apart (netlist_of s) s.order.items s.maps s.before.items s.after.items s.controls.items s.is_simulator

pub settle-requires-clause-sets : goal.settle-requires-clause-sets
settle-requires-clause-sets c =
    let s = c.args.self.now in
    data_inputs (netlist_of s) s.order.items s.maps s.before.items s.after.items s.controls.items s.is_simulator (shown s) (map setting_view c.in-Data.settings.now)
    (subst (λ (step : Step). IsLawful (flat_in (netlist_of s)) (shown s) step) c.in-Data.is c.requires.lawful)

pub invariant_of-self : goal.invariant_of-self
invariant_of-self c =
    let s = c.args.self.now in
    let made = data_cycle (netlist_of s) s.order.items s.maps s.before.items s.after.items s.controls.items s.is_simulator (cycle.Data (map setting_view c.in-Data.settings.now)) (store c.settle.new.maps.numbers.items) c.settle.ensures.cycle in
    record {
      is_simulator = kept_after (netlist_of s) s.order.items s.maps s.before.items s.after.items s.controls.items s.is_simulator c.settle.new.maps s.before.items s.after.items
          (cycle.Data (map setting_view c.in-Data.settings.now)) c.settle.ensures.able c.settle.ensures.design refl refl made;
    }

pub returns-in-Data-clause-cycle : goal.returns-in-Data-clause-cycle
returns-in-Data-clause-cycle c =
    let s = c.args.self.now in
    let netlist = netlist_of s in
    let new = store c.settle.new.maps.numbers.items in
    subst (λ (step : Step). IsCycle (flat_in netlist) (chains_in netlist) netlist.fill (shown s) (step_view step) new) (sym c.in-Data.is)
    (data_cycle netlist s.order.items s.maps s.before.items s.after.items s.controls.items s.is_simulator (cycle.Data (map setting_view c.in-Data.settings.now)) new c.settle.ensures.cycle)

pub turn-requires-clause-able : goal.turn-requires-clause-able
turn-requires-clause-able c =
    let s = c.args.self.now in
    able (netlist_of s) s.order.items s.maps s.before.items s.after.items s.controls.items s.is_simulator

pub turn-requires-clause-order : goal.turn-requires-clause-order
turn-requires-clause-order c =
    let s = c.args.self.now in
    subst (λ (l : List ProcId). IsOrder (flat s.maps.design.now) (numbers_of l)) (sym c.deref-in-Turn.ensures.value)
    (is_order (netlist_of s) s.order.items s.maps s.before.items s.after.items s.controls.items s.is_simulator)

pub turn-requires-clause-apart : goal.turn-requires-clause-apart
turn-requires-clause-apart c =
    let s = c.args.self.now in
    is_apart (netlist_of s) s.order.items s.maps s.before.items s.after.items s.controls.items s.is_simulator

pub turn-requires-clause-can : goal.turn-requires-clause-can
turn-requires-clause-can c =
    let s = c.args.self.now in
    subst (λ (l : List Clocked). All (CanRun s.maps.design.now) l) (sym c.deref-in-Turn-2.ensures.value)
    (can (netlist_of s) s.order.items s.maps s.before.items s.after.items s.controls.items s.is_simulator)

pub turn-requires-clause-sets : goal.turn-requires-clause-sets
turn-requires-clause-sets c =
    let s = c.args.self.now in
    turned_input (netlist_of s) s.order.items s.maps s.before.items s.after.items s.controls.items s.is_simulator (shown s) (setting_view c.in-Turn.setting)
    (subst (λ (step : Step). IsLawful (flat_in (netlist_of s)) (shown s) step) c.in-Turn.is c.requires.lawful)

pub turn-requires-clause-many : goal.turn-requires-clause-many
turn-requires-clause-many c =
    let s = c.args.self.now in
    ap (λ (l : List (List Bit)). length l) c.deref_mut.ensures.value
    ∙ room (netlist_of s) s.order.items s.maps s.before.items s.after.items s.controls.items s.is_simulator

pub turn-requires-clause-many_after : goal.turn-requires-clause-many_after
turn-requires-clause-many_after c =
    let s = c.args.self.now in
    ap (λ (l : List (List Bit)). length l) c.deref_mut-in-Turn.ensures.value
    ∙ more_room (netlist_of s) s.order.items s.maps s.before.items s.after.items s.controls.items s.is_simulator

pub invariant_of-self-in-Turn : goal.invariant_of-self-in-Turn
invariant_of-self-in-Turn c =
    let s = c.args.self.now in
    let netlist = netlist_of s in
    let setting = c.in-Turn.setting in
    let new = store c.turn.new.maps.numbers.items in
    let turns = subst (λ (l : List Clocked). Turns (flat s.maps.design.now) netlist.fill l (shown s) (setting_view setting) new) c.deref-in-Turn-2.ensures.value c.turn.ensures.turns in
    let made = turn_cycle netlist s.order.items s.maps s.before.items s.after.items s.controls.items s.is_simulator (setting_view setting) new turns in
    let before = c.turn.new.before in
    let after = c.turn.new.after in
    let long : length before ≡ length s.before.items = c.turn.auto.before ∙ ap (λ (l : List (List Bit)). length l) c.deref_mut.ensures.value in
    let long_after : length after ≡ length s.after.items
    = c.turn.auto.after ∙ ap (λ (l : List (List Bit)). length l) c.deref_mut-in-Turn.ensures.value in
    record {
      is_simulator = kept_after netlist s.order.items s.maps s.before.items s.after.items s.controls.items s.is_simulator c.turn.new.maps
          (take s.before.len (before ++ drop (length before) s.before.items)) (take s.after.len (after ++ drop (length after) s.after.items))
          (cycle.Turn (setting_view setting)) c.turn.ensures.able c.turn.ensures.design
          (ap (λ (l : List (List Bit)). length l) (written_back s.before.items before s.before.len long s.before.ok.0) ∙ long)
          (ap (λ (l : List (List Bit)). length l) (written_back s.after.items after s.after.len long_after s.after.ok.0) ∙ long_after) made;
    }

pub returns-in-Turn-clause-cycle : goal.returns-in-Turn-clause-cycle
returns-in-Turn-clause-cycle c =
    let s = c.args.self.now in
    let netlist = netlist_of s in
    let setting = c.in-Turn.setting in
    let new = store c.turn.new.maps.numbers.items in
    let turns = subst (λ (l : List Clocked). Turns (flat s.maps.design.now) netlist.fill l (shown s) (setting_view setting) new) c.deref-in-Turn-2.ensures.value c.turn.ensures.turns in
    subst (λ (step : Step). IsCycle (flat_in netlist) (chains_in netlist) netlist.fill (shown s) (step_view step) new) (sym c.in-Turn.is)
    (turn_cycle netlist s.order.items s.maps s.before.items s.after.items s.controls.items s.is_simulator (setting_view setting) new turns)
